-- Solving a table of four rows by a call that takes no minimum above 0: document 01's solving, or BOUNDED right after the table's checks.
use Rattle.std.specs.Prelude.{ℕ, List, length}
use Rattle.table.specs.Table.{arcs}
use Rattle.minimums.specs.BoundedTable.{BoundedTable}
use Rattle.minimums.specs.Checks.{plain_check}
use Rattle.solver.specs.Solving.{Left, has_room, solving_as}
use Rattle.table.specs.Checks.{Verdict}

-- Its verdict: the refusals as for solving, with the ROOM of flow, side and work rows of these lengths, and BOUNDED right after them.
abbrev pub plain_verdict : BoundedTable → (flow side work : ℕ) → Verdict
plain_verdict b flow side work = plain_check b (has_room b.table.nodes (arcs b.table) flow side work)

-- What it leaves.
unfoldable pub plain_solving : BoundedTable → (stamp : ℕ) → (flow side work : List ℕ) → Left
plain_solving b stamp flow side work = solving_as (plain_verdict b (length flow) (length side) (length work)) b.table stamp flow side work
