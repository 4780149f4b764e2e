-- `answer_of` meets its contract: the fields are those of the definition, with the mark that was made.
use mathlib.Core.Path.{ap}
use Prim.Native.Nat.{ℕ}
use Rattle.asking.specs.declared.Room.{Room}
use Rattle.asking.specs.Asking.{answer_with}
use Rattle.room.proofs.answer_of.Goals as goal

pub returns : goal.returns
unfolding answer_with
returns c = ap marked c.mark.ensures
  where
    -- The answer with any mark.
    marked : ℕ → Room
    marked x =
        let given = c.args in
        record {
          refusal = 0;
          place = 0;
          stamp = given.stamp;
          yes = x;
          value = given.stop.sink;
          scale = given.stop.scale;
          phases = given.stop.phases;
          saturating = given.stop.counts.saturating;
          nonsaturating = given.stop.counts.nonsaturating;
          relabels = given.stop.counts.relabels;
        }
