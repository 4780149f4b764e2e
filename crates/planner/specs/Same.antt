-- What the promise of solving leaves open: which flow of greatest value comes back where a minimum is above 0 and none refuses. Nothing else.
use Rattle.std.specs.Prelude.{ℕ, ◌≡◌, true, List, length, take, drop}
use Rattle.arcs.specs.Work.{work_need}
use Rattle.table.specs.Table.{arcs}
use Rattle.minimums.specs.BoundedTable.{BoundedTable}
use Rattle.minimums.specs.Checks.{plain}
use Rattle.planner.specs.Solving.{SignedLeft}

-- Two results of one call: the answer, the side row, the work row and the flow row's later places are the same; where all minimums are 0, and on
-- every refusal, IMPOSSIBLE too, the whole results are.
pub record Same (b : BoundedTable) (l k : SignedLeft) : Type 0 where
  pub answer : l.answer ≡ k.answer
  pub flow_long : length l.flow ≡ length k.flow
  pub flow_later : drop (arcs b.table) l.flow ≡ drop (arcs b.table) k.flow
  pub side : l.side ≡ k.side
  pub work : l.work ≡ k.work
  pub whole_plain : plain b ≡ true → l ≡ k
  pub whole_refused : (l.answer.refusal ≡ 0 → ⊥) → l ≡ k

-- What a call leaves of the rows lent to it: everything where it refuses, else the flow row from place m on, the side row from place n on, and the
-- work row from place 4n + 2m + 1 on.
pub record Keeps (b : BoundedTable) (flow side work : List ℕ) (l : SignedLeft) : Type 0 where
  pub refused : (l.answer.refusal ≡ 0 → ⊥) → (l.flow ≡ flow) × (l.side ≡ side) × (l.work ≡ work)
  pub flow_later : drop (arcs b.table) l.flow ≡ drop (arcs b.table) flow
  pub side_later : drop b.table.nodes l.side ≡ drop b.table.nodes side
  pub work_later : drop (work_need b.table.nodes (arcs b.table)) l.work ≡ drop (work_need b.table.nodes (arcs b.table)) work

-- Two results of calls on one table with other rows of the same lengths: the same answer; where it solves, the same marks, the same cleared numbers,
-- and where all minimums are 0 the same flows.
pub record Alike (b : BoundedTable) (l k : SignedLeft) : Type 0 where
  pub answer : l.answer ≡ k.answer
  pub marks : l.answer.refusal ≡ 0 → take b.table.nodes l.side ≡ take b.table.nodes k.side
  pub zeros : l.answer.refusal ≡ 0
      → take (work_need b.table.nodes (arcs b.table)) l.work ≡ take (work_need b.table.nodes (arcs b.table)) k.work
  pub flows : plain b ≡ true → l.answer.refusal ≡ 0 → take (arcs b.table) l.flow ≡ take (arcs b.table) k.flow
