-- Laws of the row of far ends: a node's part of it stands beside the node's list, and the row is filled node by node.
use Prim.Native.Nat.{ℕ, ◌+◌, ◌-◌, ◌≤◌, ◌<◌}
use native.Mathlib.Omega.{arith}
use mathlib.Core.Path.{◌≡◌, refl, ap, sym, subst, ◌∙◌}
use mathlib.Core.List.{List}
use lib.ListN.{length, drop}
use lib.Seq.{get_or-take, get_or-drop}
use borrow.Rule.Slice.PartMut.{mid_len}
use Rattle.rows.specs.Row.{Node, part, at_place}
use Rattle.rows.proofs.Sums.{by_equal}
use Rattle.table.specs.Table.{Table, arcs}
use Rattle.table.specs.Accepted.{ArcRows}
use Rattle.arcs.specs.Residual.{far, list}
use Rattle.arcs.specs.Lists.{joined, Listed}
use Rattle.arcs.specs.Sort.{entries_before}
use Rattle.arcs.specs.Work.{entries_at, work_end, InWork}
use Rattle.arcs.proofs.Joined.{joined_next, joined_rises}
use Rattle.arcs.proofs.Members.{list_stands}
use Rattle.steps.specs.Rows.{Beside, FarEnds}
use Rattle.steps.proofs.Searching.{far_node}
use Rattle.work.specs.Held.{FarTo, FarRow}

-- There are two entries for each arc.
pub entries_long : (t : Table) (work : List ℕ) → InWork t work → length (joined (list t) t.nodes) ≡ arcs t + arcs t
entries_long t work known =
    ap (λ (l : List ℕ). length l) (sym known.listed.entries_are)
    ∙ mid_len (entries_at t.nodes) (work_end t.nodes (arcs t)) work known.room ∙ omega arith

module _ (t : Table) (starts entries ends : List ℕ) (listed : Listed t starts entries) (known : FarRow t ends) (i : ℕ) (node : Node t.nodes i) where
  -- Node i's part of the row begins behind the entries of the nodes before i, and ends behind node i's.
  bounds : (at_place starts (i - 1) ≡ entries_before (list t) i) × (at_place starts i ≡ entries_before (list t) i + length (list t i)) × (at_place starts i ≤ length ends)
  bounds =
      omega (
        arith,
        listed.starts_are (i - 1) (omega arith),
        listed.starts_are i node.1,
        joined_next (list t) i node.0,
        joined_rises (list t) i t.nodes node.1,
        known.room,
      )

  -- It lies within the row,
  pub ends_within : (at_place starts (i - 1) ≤ at_place starts i) × (at_place starts i ≤ length ends)
  ends_within = omega (arith, bounds)

  -- is as long as node i's list,
  pub ends_long : length (part (at_place starts (i - 1)) (at_place starts i) ends) ≡ length (list t i)
  ends_long = mid_len (at_place starts (i - 1)) (at_place starts i) ends bounds.2 ∙ omega (arith, bounds)

  -- and has the far ends of its arcs.
  pub ends_far : FarEnds t i (list t i) (part (at_place starts (i - 1)) (at_place starts i) ends)
  ends_far j l =
      let place : at_place starts (i - 1) + j ≡ entries_before (list t) i + j = omega (arith, bounds) in
      get_or-take (at_place starts i - at_place starts (i - 1)) (drop (at_place starts (i - 1)) ends) j 0 (omega (arith, bounds))
      ∙ get_or-drop (at_place starts (i - 1)) ends j 0 ∙ ap (at_place ends) place ∙ known.far_is i j node l

-- Far ends beside node i's list are nodes.
pub beside : (t : Table) (i : ℕ) (ends : List ℕ) → ArcRows t.nodes t.tails t.heads t.capacities
    → length ends ≡ length (list t i) → FarEnds t i (list t i) ends → Beside (arcs t) t.nodes (list t i) ends
beside t i ends rows long are =
    record {
      long = long;
      place_below = λ j l. (list_stands t i j l).0;
      end_node = λ j l. far_node t.source t.sink i rows (list_stands t i j l).0 (at_place ends j) (are j l);
    }

-- No node's entries are none.
pub none_joined : (f : ℕ → List ℕ) → 0 ≡ length (joined f 0)
unfolding joined
none_joined f = refl

-- Those of nodes 1 to i take as much room as those before node i + 1.
pub before_one_more : (f : ℕ → List ℕ) (i : ℕ) → entries_before f (i + 1) ≡ length (joined f i)
before_one_more f i = let e : i + 1 - 1 ≡ i = omega arith in rw e

module _ (t : Table) (i p : ℕ) (one : 1 ≤ i) (p_is : p ≡ entries_before (list t) i) (places : List ℕ) (places_are : places ≡ list t i) where
  -- Behind the far ends of node i's list there is room for those of the nodes after it.
  pub joined_on : p + length places ≡ length (joined (list t) i)
  joined_on = omega (arith, p_is, joined_next (list t) i one, ap (λ (row : List ℕ). length row) places_are)

  -- Put behind those of the nodes before i, which stay, they make the far ends of one node more.
  pub filled_on : (before after : List ℕ) → FarTo t (i - 1) before → ((q : ℕ) → q < p → at_place after q ≡ at_place before q)
      → ((j : ℕ) → j < length places → at_place after (p + j) ≡ far t i (at_place places j)) → FarTo t i after
  filled_on before after known same new v j node l =
      by_equal i v
      (λ e. subst (λ (x : ℕ). j < length (list t x) → at_place after (entries_before (list t) x + j) ≡ far t x (at_place (list t x) j)) e here l)
      (λ ne.
      let below : entries_before (list t) v + j < p = omega (arith, p_is, joined_next (list t) v node.0, joined_rises (list t) v (i - 1) (omega (arith, ne))) in
      same (entries_before (list t) v + j) below ∙ known v j (omega (arith, ne)) l)
    where
      here : j < length (list t i) → at_place after (entries_before (list t) i + j) ≡ far t i (at_place (list t i) j)
      here within =
          let from : p + j ≡ entries_before (list t) i + j = omega (arith, p_is) in
          sym (ap (at_place after) from) ∙ new j (omega (arith, within, ap (λ (row : List ℕ). length row) places_are))
          ∙ ap (λ (row : List ℕ). far t i (at_place row j)) places_are
