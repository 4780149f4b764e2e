-- How far each node's list was looked through since its last relabel (document 02, CR 9), and what has to hold for that to leave every step as it is. For the contracts of the run's parts.
use Rattle.std.specs.Prelude.{ℕ, ◌+◌, ◌≤◌, ◌<◌, ◌≡◌, true, false, List, length}
use Rattle.rows.specs.Row.{Node, at_place, at_node}
use Rattle.table.specs.Table.{Table, arcs}
use Rattle.arcs.specs.Residual.{far, residual, touches, list}
use Rattle.run.specs.Start.{State}
use Rattle.run.specs.Push.{eligible}
use Rattle.run.specs.Relabel.{top}

-- Nothing before position p of a list is eligible at node i.
abbrev pub NoneBefore : Table → State → ℕ → List ℕ → ℕ → Type 0
NoneBefore t st i places p = (j : ℕ) → j < p → eligible t st i (at_place places j) ≡ false

-- A row by node says how far each node's list was looked through: nothing before that is eligible.
pub record Looked (t : Table) (st : State) (looked : List ℕ) : Type 0 where
  pub size : length looked ≡ t.nodes
  pub within : (i : ℕ) → Node t.nodes i → at_node looked i ≤ length (list t i)
  pub none : (i : ℕ) → Node t.nodes i → NoneBefore t st i (list t i) (at_node looked i)

-- Labels are valid and at most 2n - 1: a residual arc leads down by one label at most.
pub record ValidLabels (t : Table) (st : State) : Type 0 where
  pub down : (i k : ℕ) → k < arcs t → touches t i k ≡ true → 0 < residual t st.flow i k
      → at_node st.label i ≤ at_node st.label (far t i k) + 1
  pub high : (i : ℕ) → Node t.nodes i → at_node st.label i < top t

-- No residual arc before position p of a list leads from node i to a label below x.
abbrev pub HighBefore : Table → State → ℕ → List ℕ → ℕ → ℕ → Type 0
HighBefore t st i places p x =
    (j : ℕ) → j < p → 0 < residual t st.flow i (at_place places j) → x ≤ at_node st.label (far t i (at_place places j))
