-- Document 01, "The run", step 3: one more than the least label among far ends of residual arcs.
use Rattle.std.specs.Prelude.{ℕ, ◌+◌, ◌-◌, ◌*◌, min, cond, List, [], ◌∷◌, ltb, set}
use Rattle.rows.specs.Row.{at_node}
use Rattle.table.specs.Table.{Table}
use Rattle.arcs.specs.Residual.{far, residual, list}
use Rattle.run.specs.Start.{State}

-- The lesser of `best` and the label at the far end of the arc at place k, if it has residual above 0 away from i.
abbrev pub lesser : Table → State → ℕ → ℕ → ℕ → ℕ
lesser t st i k best = cond (ltb 0 (residual t st.flow i k)) (min best (at_node st.label (far t i k))) best

-- The least of `best` and these labels over a list.
unfoldable pub least_far : Table → State → ℕ → List ℕ → ℕ → ℕ
least_far t st i [] best = best
least_far t st i (k ∷ ks) best = least_far t st i ks (lesser t st i k best)

-- 2n, which is above every label.
abbrev pub top : Table → ℕ
top t = 2 * t.nodes

-- Node i's new label.
abbrev pub new_label : Table → State → ℕ → ℕ
new_label t st i = least_far t st i (list t i) (top t) + 1

-- The state after node i is relabelled.
unfoldable pub relabel : Table → State → ℕ → State
unfolding least_far list
relabel t st i =
    record {
      flow = st.flow;
      excess = st.excess;
      label = set st.label (i - 1) (new_label t st i);
    }
