-- `write_bytes` meets its contract: the library writes the bytes so.
use mathlib.Core.Path.{◌∙◌}
use Rattle.little.proofs.Bytes.{eight_written}
use Rattle.codec.proofs.U64Little.write_bytes.Goals as goal

pub returns : goal.returns
returns c = c.copy_from_slice.ensures.after ∙ c.to_le_bytes.ensures ∙ eight_written c.args.self
