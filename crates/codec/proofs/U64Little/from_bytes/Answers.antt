-- `from_bytes` meets its contract: the library reads the bytes so.
use mathlib.Core.Path.{◌∙◌}
use Rattle.little.proofs.Bytes.{eight_read}
use Rattle.codec.proofs.U64Little.from_bytes.Goals as goal

pub returns : goal.returns
returns c = c.from_le_bytes.ensures ∙ eight_read c.args.bytes.now c.requires
