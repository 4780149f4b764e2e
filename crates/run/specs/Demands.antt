-- What is asked of a solved table: a largest flow with its smallest least cut (demand 2), and the bounds of the run (demand 3).
use Rattle.std.specs.Prelude.{ℕ, suc, ◌+◌, ◌*◌, ◌^◌, ◌≤◌, ◌<◌, ◌≡◌, Bool, List, Some, None}
use Rattle.rows.specs.Row.{at_place, at_node}
use Rattle.network.specs.Network.{Value, leaving, near_end, far_end, residual_over, Reached, Answer}
use Rattle.table.specs.Table.{Table, arcs, capacity, network_of}
use Rattle.arcs.specs.Residual.{list}
use Rattle.reach.specs.Side.{marked}
use Rattle.run.specs.Start.{State, start}
use Rattle.run.specs.Scale.{largest}
use Rattle.run.specs.Choice.{choose}
use Rattle.run.specs.Push.{first_eligible}
use Rattle.run.specs.Relabel.{new_label}
use Rattle.run.specs.Phase.{delta_after, after, during}
use Rattle.run.specs.declared.Counts.{Counts}

-- Demand 2: the flow is largest and the side the smallest least cut; the side is exactly what the source reaches over residual arcs;
-- the value is the net flow out of s, and the capacity of the arcs from a marked to an unmarked node.
pub record Best (t : Table) (flow side : List ℕ) (value : ℕ) : Type 0 where
  pub answer : Answer (network_of t) (at_place flow) (marked side)
  pub reached : Reached (network_of t) (at_place flow) (marked side)
  pub net : Value (network_of t) (at_place flow) value
  pub cut : value ≡ leaving (network_of t) (marked side) (capacity t)

-- D and K for a largest excess x after the start: the least power of two not below x and one more than its exponent, or both 0.
pub record Scaled (x D K : ℕ) : Type 0 where
  pub none : x ≡ 0 → (D ≡ 0) × (K ≡ 0)
  pub power : 0 < x → (j : ℕ) × (D ≡ 2 ^ j) × (K ≡ 1 + j)
  pub above : x ≤ D
  pub least : (i : ℕ) → x ≤ 2 ^ i → D ≤ 2 ^ i

-- Node i's new label is one more than the label at the far end of some residual arc away from it, and no such arc leads lower.
pub record OneAbove (t : Table) (st : State) (i : ℕ) : Type 0 where
  pub place : ℕ
  pub way : Bool
  pub below : place < arcs t
  pub from : near_end (network_of t) place way ≡ i
  pub left : 0 < residual_over (network_of t) (at_place st.flow) place way
  pub label : new_label t st i ≡ at_node st.label (far_end (network_of t) place way) + 1
  pub least : (k : ℕ) (b : Bool) → k < arcs t → near_end (network_of t) k b ≡ i → 0 < residual_over (network_of t) (at_place st.flow) k b
      → new_label t st i ≤ at_node st.label (far_end (network_of t) k b) + 1

-- Demand 3: D and K, and how many steps of each kind there can be, in all and in each phase; a phase ends for want of a node, and each
-- relabel within one finds its label at a residual arc.
pub record Bounded (t : Table) (D K : ℕ) (counts : Counts) : Type 0 where
  pub scaled : Scaled (largest (start t).excess) D K
  pub phases : K ≤ 33
  pub saturating : counts.saturating ≤ 2 * (t.nodes * arcs t)
  pub nonsaturating : counts.nonsaturating ≤ 4 * (t.nodes * t.nodes) * K
  pub relabels : counts.relabels ≤ 2 * (t.nodes * t.nodes)
  pub in_phase : (d : ℕ) → d < K → (after t (suc d)).counts.nonsaturating ≤ (after t d).counts.nonsaturating + 4 * (t.nodes * t.nodes)
  pub ended : (d : ℕ) → d < K → choose t (delta_after t d) (after t (suc d)).state ≡ None
  pub relabelled : (d j i : ℕ) → d < K → choose t (delta_after t d) (during t d j) ≡ Some i
      → first_eligible t (during t d j) i (list t i) ≡ None → OneAbove t (during t d j) i
