-- Laws of a step with what the run keeps beside the state: it is document 01's step, and the next one finds all that it needs.
use Rattle.std.specs.Prelude.{Some, None}
use Prim.Native.Nat.{ℕ, ◌+◌, ◌-◌, ◌*◌, ◌≤◌}
use native.Mathlib.Omega.{arith}
use mathlib.Core.Path.{◌≡◌, refl, ap, sym, ◌∙◌, subst}
use mathlib.Core.Bool.{Bool, true, true≢false}
use mathlib.Core.List.{List}
use borrow.Author.Tests.{eqb-true, ne_eqb}
use lib.Dec.{eqb, ltb}
use lib.ListN.{length, set, length-set}
use Rattle.rows.specs.Row.{Node, at_node}
use Rattle.rows.specs.Sum.{only}
use Rattle.rows.proofs.Sums.{both_true, by_equal, by_order, only_false, only_le, put_same, put_other}
use Rattle.rows.proofs.Rows.{node_set}
use Rattle.network.specs.Network.{is_inner}
use Rattle.network.proofs.Notions.{sink_test}
use Rattle.table.specs.Table.{Table, network_of}
use Rattle.arcs.specs.Residual.{far, residual, list}
use Rattle.run.specs.Start.{State}
use Rattle.run.specs.Push.{eligible, amount, moved, saturates, push}
use Rattle.run.specs.Relabel.{top, new_label, relabel}
use Rattle.run.specs.Phase.{Run, one_push, one_relabel}
use Rattle.run.specs.Rows.{state_of, run_of, Fits}
use Rattle.run.specs.declared.Counts.{Counts}
use Rattle.run.proofs.Networks.{by_cond}
use Rattle.run.proofs.Arcs.{least_le}
use Rattle.run.proofs.Choices.{choose_chosen}
use Rattle.until.specs.Gain.{gain_along}
use Rattle.until.proofs.Gains.{gain_push, gain_relabel}
use Rattle.looking.specs.Looked.{Looked, ValidLabels, HighBefore}
use Rattle.looking.proofs.Keeping.{looked_push, looked_relabel}
use Rattle.tournament.specs.Tournament.{key, LowLabels, without, AllBut, Chose}
use Rattle.tournament.proofs.Mending.{key_small}
use Rattle.tournament.proofs.Standing.{but_two, key_same}
use Rattle.steps.specs.Rows.{SpotIs}
use Rattle.steps.specs.declared.Spot.{Spot}
use Rattle.steps.specs.declared.Lowest.{Lowest}
use Rattle.steps.proofs.Searching.{found_at, found_none}
use Rattle.work.specs.Held.{Relabels, Apart, brought, Stepped}
use Rattle.work.proofs.Stepping.{choice_is, step_push, step_relabel}

-- A store at node i changes no other node.
set_apart : (row : List ℕ) (i x : ℕ) → Node (length row) i → (v : ℕ) → (v ≡ i → ⊥) → at_node (set row (i - 1) x) v ≡ at_node row v
set_apart row i x node v ne = ap (λ (f : ℕ → ℕ). f v) (node_set row i x node) ∙ put_other (at_node row) i x v ne

-- What goes from i to j changes no other node.
moved_apart : (t : Table) (row : List ℕ) (i j d : ℕ) → Node (length row) i → Node (length row) j → Apart i j row (moved t row i j d)
moved_apart t row i j d at_i at_j v ni nj =
    let left = set row (i - 1) (at_node row i - d) in
    let first : at_node left v ≡ at_node row v = set_apart row i (at_node row i - d) at_i v ni in
    by_cond (λ (after : List ℕ). at_node after v ≡ at_node row v) (is_inner (network_of t) j) (set left (j - 1) (at_node left j + d)) left
    (λ _. set_apart left j (at_node left j + d) (at_j.0, omega (arith, length-set row (i - 1) (at_node row i - d), at_j.1)) v nj ∙ first) (λ _. first)

-- What goes from i to the sink leaves node i's excess.
moved_to_sink : (t : Table) (row : List ℕ) (i j d : ℕ) → Node (length row) i → j ≡ t.sink → at_node (moved t row i j d) i ≡ at_node row i - d
moved_to_sink t row i j d at_i e =
    let left = set row (i - 1) (at_node row i - d) in
    by_cond (λ (after : List ℕ). at_node after i ≡ at_node row i - d) (is_inner (network_of t) j) (set left (j - 1) (at_node left j + d)) left
    (λ inner. absurd (true≢false (sym inner ∙ sink_test (network_of t) j e)))
    (λ _. ap (λ (f : ℕ → ℕ). f i) (node_set row i (at_node row i - d) at_i) ∙ put_same (at_node row) i (at_node row i - d) i refl)

-- Valid labels are low enough for keys.
pub low_labels : (t : Table) (st : State) → t.nodes ≤ 512 → length st.label ≡ t.nodes → ValidLabels t st → LowLabels st.label
low_labels t st few size valid i node = omega (arith, valid.high i (node.0, omega (arith, node.1)))

-- The state after a relabel, in its rows.
relabel_is : (t : Table) (st : State) (i : ℕ) → relabel t st i ≡ state_of st.flow st.excess (set st.label (i - 1) (new_label t st i))
unfolding relabel
relabel_is t st i = refl

module _ (t : Table) (delta : ℕ) (st : State) (counts : Counts) (i : ℕ) (looked : List ℕ) (few : t.nodes ≤ 512) (fits : Fits t st)
    (node : Node t.nodes i) (valid : ValidLabels t st) (known : Looked t st looked) (after : State) (counted : Counts) (looked_after : List ℕ) where
  -- A push leaves the labels,
  push_label : (k : ℕ) → (push t delta st i k).label ≡ st.label
  unfolding push
  push_label k = refl

  -- and every node's excess but those of two.
  push_apart : (k other : ℕ) → Node t.nodes other → other ≡ far t i k → Apart i other st.excess (push t delta st i k).excess
  unfolding push
  push_apart k other there is v ni nj =
      ap (λ (j : ℕ). at_node (moved t st.excess i j (amount t delta st i k)) v) (sym is)
      ∙ moved_apart t st.excess i other (amount t delta st i k) (node.0, omega (arith, node.1, fits.excess)) (there.0, omega (arith, there.1, fits.excess)) v ni nj

  -- Where the far end is the sink, what the push moves leaves node i's excess,
  push_falls : (k other : ℕ) → other ≡ far t i k → other ≡ t.sink → at_node (push t delta st i k).excess i ≡ at_node st.excess i - amount t delta st i k
  unfolding push
  push_falls k other is e = moved_to_sink t st.excess i (far t i k) (amount t delta st i k) (node.0, omega (arith, node.1, fits.excess)) (sym is ∙ e)

  -- and is what the sink is brought.
  push_brings : (k other has : ℕ) → other ≡ far t i k → has ≡ at_node (push t delta st i k).excess i
      → brought t.sink other (at_node st.excess i) has ≡ gain_along t delta st i k
  push_brings k other has is has_is =
      ap (λ (j : ℕ). only (eqb j t.sink) (at_node st.excess i - has)) is
      ∙ by_equal (far t i k) t.sink
      (λ e. ap (only (eqb (far t i k) t.sink)) (omega (arith, has_is, push_falls k other is (is ∙ e))))
      (λ ne.
      only_false (eqb (far t i k) t.sink) (at_node st.excess i - has) (ne_eqb (far t i k) t.sink ne)
      ∙ sym (only_false (eqb (far t i k) t.sink) (amount t delta st i k) (ne_eqb (far t i k) t.sink ne)))

  -- An eligible arc leads one label down.
  eligible_down : (k : ℕ) → eligible t st i k ≡ true → at_node st.label (far t i k) + 1 ≡ at_node st.label i
  eligible_down k e =
      let there = at_node st.label (far t i k) + 1 in
      let own = at_node st.label i in
      eqb-true there own (both_true (ltb 0 (residual t st.flow i k)) (eqb there own) e).1

  -- A push along the place where the search stopped.
  pub stepped_push : (at : Spot) (full : Bool) → SpotIs t st i (list t i) (Some at) → Node t.nodes at.far
      → after ≡ push t delta st i at.place → full ≡ saturates t delta st i at.place → counted ≡ one_push counts full
      → looked_after ≡ set looked (i - 1) at.position → Stepped t delta (run_of st counts) i (run_of after counted) looked_after at.far
  stepped_push at full spot there after_is Full-is counted_is looked_is =
      let p : ℕ = at.position in
      let k : ℕ = at.place in
      let other : ℕ = at.far in
      let other_is = spot.4 in
      let labels : after.label ≡ st.label = ap (λ (s : State). s.label) after_is ∙ push_label k in
      let found = found_at t st i (list t i) p k spot.0 spot.1 spot.2 spot.3 in
      let has_is : at_node after.excess i ≡ at_node (push t delta st i k).excess i = ap (λ (s : State). at_node s.excess i) after_is in
      record {
        is = step_push t delta st counts i after counted k full found after_is Full-is counted_is;
        looked_on =
            rw (after_is, looked_is, spot.1)
            (looked_push t delta st looked i p node known spot.0 spot.2 (subst (λ (x : ℕ). eligible t st i x ≡ true) spot.1 spot.3));
        low = subst LowLabels (sym labels) (low_labels t st few fits.label valid);
        other_node = there;
        other_down = λ _. omega (arith, ap (at_node st.label) other_is, eligible_down k spot.3);
        excess_apart = λ v ni nj. ap (λ (s : State). at_node s.excess v) after_is ∙ push_apart k other there other_is v ni nj;
        label_apart = λ v ni nj. ap (λ (row : List ℕ). at_node row v) labels;
        falls = λ e. omega (arith, has_is, push_falls k other other_is e);
        brings = gain_push t delta st i k _ found (push_brings k other (at_node after.excess i) other_is has_is);
      }

  -- Node i's label among the labels.
  here : Node (length st.label) i
  here = (node.0, omega (arith, node.1, fits.label))

  -- A new label is low enough too.
  low_set : (x : ℕ) → x ≤ top t + 1 → LowLabels (set st.label (i - 1) x)
  low_set x h v at_v =
      by_equal v i
      (λ e. omega (arith, ap (λ (f : ℕ → ℕ). f v) (node_set st.label i x here) ∙ put_same (at_node st.label) i x v e))
      (λ ne. omega (arith, set_apart st.label i x here v ne, valid.high v (at_v.0, omega (arith, at_v.1, length-set st.label (i - 1) x, fits.label))))

  -- A relabel, where the search came to the end.
  pub stepped_relabel : (found : Lowest) → SpotIs t st i (list t i) None → Relabels t st i found
      → after ≡ state_of st.flow st.excess (set st.label (i - 1) found.label) → counted ≡ one_relabel counts → looked_after ≡ set looked (i - 1) found.at
      → Stepped t delta (run_of st counts) i (run_of after counted) looked_after i
  stepped_relabel found spot rel after_is counted_is looked_is =
      let labels : after.label ≡ set st.label (i - 1) found.label = ap (λ (s : State). s.label) after_is in
      let none = found_none t st i (list t i) spot in
      let same : at_node after.excess i ≡ at_node st.excess i = ap (λ (s : State). at_node s.excess i) after_is in
      record {
        is = step_relabel t delta st counts i after counted found.label none rel.label_is after_is counted_is;
        looked_on =
            rw (after_is ∙ relabelled found rel, looked_is)
            (looked_relabel t st looked i found.at valid fits.label node known rel.within (subst (HighBefore t st i (list t i) found.at) rel.label_is rel.high));
        low = subst LowLabels (sym labels) (low_set found.label (omega (arith, rel.label_is, least_le t st i (list t i) (top t))));
        other_node = node;
        other_down = λ ne. absurd (ne refl);
        excess_apart = λ v ni nj. ap (λ (s : State). at_node s.excess v) after_is;
        label_apart = λ v ni nj. ap (λ (row : List ℕ). at_node row v) labels ∙ set_apart st.label i found.label here v ni;
        falls = λ e. omega (arith, same);
        brings = omega (arith, same, only_le (eqb i t.sink) (at_node st.excess i - at_node after.excess i), gain_relabel t delta st i none);
      }
    where
      relabelled : (found : Lowest) → Relabels t st i found → state_of st.flow st.excess (set st.label (i - 1) found.label) ≡ relabel t st i
      relabelled found rel = ap (λ (x : ℕ). state_of st.flow st.excess (set st.label (i - 1) x)) rel.label_is ∙ sym (relabel_is t st i)

-- After a step at the chosen node i the tournament has all keys but two: none stands for the other node, whose label was lower than the least.
pub ready_after : (t : Table) (delta : ℕ) (before : Run) (i : ℕ) (after : Run) (looked tree : List ℕ) (other : ℕ)
    → Stepped t delta before i after looked other → Chose t.nodes delta before.state.excess before.state.label tree (Some i)
    → AllBut t.nodes (without (key delta after.state.excess after.state.label) other) tree i
ready_after t delta before i after looked tree other stepped chose =
    let was = before.state in
    let is = after.state in
    but_two t.nodes (key delta was.excess was.label) (key delta is.excess is.label) tree i other
    (λ v ni nj. key_same delta was.excess was.label is.excess is.label v (stepped.excess_apart v ni nj) (stepped.label_apart v ni nj))
    (λ ne. sym (key_small delta was.excess was.label other (at_node was.excess other) refl (small ne)))
    chose.others
  where
    small : (other ≡ i → ⊥) → 2 * at_node before.state.excess other ≤ delta
    small ne =
        let chosen = choose_chosen t delta before.state i (sym (choice_is t delta before.state (Some i) tree chose)) in
        by_order (2 * at_node before.state.excess other) delta
        (λ l. l)
        (λ large. absurd (omega (arith, stepped.other_down ne, chosen.lowest other stepped.other_node large)))
