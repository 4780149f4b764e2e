-- `raise_stamp` meets its contract: the wrapped sum is the one round 2^32.
use Rattle.smaller.proofs.raise_stamp.Goals as goal

pub returns : goal.returns
returns c = c.wrapping_add_u32.ensures.value
