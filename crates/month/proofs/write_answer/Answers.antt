-- `write_answer` meets its contract: nine places are lent, and come back with the answer.
use Rattle.parts.specs.Placed.{placed}
use native.Mathlib.Omega.{arith}
use mathlib.Core.Path.{◌∙◌, ap}
use mathlib.Core.List.{List}
use Prim.Native.Nat.{ℕ, ◌+◌}
use Rattle.parts.proofs.Parts.{put_placed}
use Rattle.month.proofs.write_answer.Goals as goal

pub returns : goal.returns
returns c =
    let at = c.args.at in
    put_placed at (at + 9) c.args.answers.now c.write_nine.new.row (omega arith)
    ∙ ap (λ (l : List ℕ). placed at (at + 9) l c.args.answers.now) c.write_nine.ensures
