-- `flow_said` meets its contract: the bytes before `end` are what the line of that arc begins with.
use Rattle.pen.proofs.Writing.{wrote_whole}
use Prim.Native.Nat.{ℕ}
use mathlib.Core.Path.{◌≡◌, ap, ◌∙◌}
use mathlib.Core.List.{List}
use lib.ListN.{take}
use native.Mathlib.Omega.{arith}
use Rattle.wording.specs.Text.{flow_front}
use Rattle.wording.specs.Lines.{number_behind}
use Rattle.wording.proofs.Lengths.{front_length}
use Rattle.solution.proofs.flow_said.Goals as goal

pub returns : goal.returns
returns c =
    let front : take c.put_front-end.result c.put_front-end.new.out ≡ flow_front c.args.tail c.args.head = let a = c.args in wrote_whole c.put_front-end.ensures (omega (arith, front_length a.tail a.head)) in
    let a = c.args in
    c.number_behind.ensures ∙ ap (λ (bytes : List ℕ). number_behind bytes a.capacity a.line.now) front
