-- `put_bytes` meets its contract: all but the bytes from here on are written.
use Rattle.pen.proofs.Writing.{byte_here, partly_more}
use native.Mathlib.Omega.{arith}
use Rattle.pen.proofs.put_bytes.Goals as goal

pub loop-byte-preserved : goal.loop-byte-preserved
loop-byte-preserved c =
    let text = c.args.text.now in
    partly_more c.loop-byte.invariant c.put-place.ensures (byte_here text c.loop-byte.byte-index (omega arith))
