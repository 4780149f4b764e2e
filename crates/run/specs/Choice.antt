-- Document 01, "The run", step 1: the node with 2 x excess > Delta and the least label; among equals, the least number.
use Rattle.std.specs.Prelude.{ℕ, zero, suc, ◌*◌, Bool, cond, List, ltb, Option, Some, None}
use Rattle.rows.specs.Row.{at_node}
use Rattle.table.specs.Table.{Table}
use Rattle.run.specs.Start.{State}

-- Whether 2 x excess of node i is above Delta.
abbrev pub large : ℕ → List ℕ → ℕ → Bool
large delta excess i = ltb delta (2 * at_node excess i)

-- Whether node i's label is less than node b's.
abbrev pub is_less : List ℕ → (i b : ℕ) → Bool
is_less label i b = ltb (at_node label i) (at_node label b)

-- The choice so far, or node i where its label is less.
abbrev pub lower : List ℕ → Option ℕ → ℕ → Option ℕ
lower label None i = Some i
lower label (Some b) i = cond (is_less label i b) (Some i) (Some b)

-- The choice among nodes 1 to i.
unfoldable pub choose_to : ℕ → List ℕ → List ℕ → ℕ → Option ℕ
choose_to delta excess label zero = None
choose_to delta excess label (suc i) =
    cond (large delta excess (suc i))
    (lower label (choose_to delta excess label i) (suc i))
    (choose_to delta excess label i)

-- The choice among all nodes.
unfoldable pub choose : Table → ℕ → State → Option ℕ
unfolding choose_to
choose t delta st = choose_to delta st.excess st.label t.nodes
