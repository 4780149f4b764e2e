-- Laws of the checks of a table of four rows: its sizes, the first arc with a fault, and what a table that no check refuses has.
use Rattle.std.specs.Prelude.{Ok, Err}
use Prim.Native.Nat.{ℕ, zero, suc, ◌+◌, ◌<◌, ◌≤◌}
use mathlib.Core.Path.{◌≡◌, refl, sym, ap, ap₂, subst₂, ◌∙◌}
use mathlib.Core.Bool.{Bool, true, false, not, ◌||◌}
use mathlib.Core.List.{List, [], ◌∷◌}
use native.Mathlib.Omega.{arith}
use borrow.Author.Tests.{lt-ltb, le-ltb, ltb-false, eq-eqb, ne_eqb, eqb-true, not-false}
use lib.Dec.{ltb, eqb}
use lib.ListN.{length}
use Rattle.rows.specs.Row.{at_place}
use Rattle.table.specs.Table.{Table, arcs}
use Rattle.table.specs.declared.Name.{Name}
use Rattle.table.specs.declared.Name.TheVariants.{Nodes, Rows, Arcs, Ends, Room, Node, Loop, Capacity, Minimum}
use Rattle.table.specs.Checks.{is_fine, refuse_if, outside, differ, bad_ends, or_else, in_order, sizes_of, arc_fault, first_fault, check_of, no_refusal, refused, Verdict}
use Rattle.table.proofs.Faults.{or_else_fine, passed, neither, in_order_sizes}
use Rattle.table.proofs.Accepts.{sizes_fine, both_fine, check_accepts}
use Rattle.minimums.specs.BoundedTable.{BoundedTable, AcceptedBounded}
use Rattle.minimums.specs.Checks.{differ_four, bounded_sizes, bounded_fault, first_bounded_fault, bounded_check, with_minimums, end_of, FirstAbove, none, first}

-- ---- the sizes

-- Or with a test that fails,
or_false : (a : Bool) → a || false ≡ a
or_false true = refl
or_false false = refl

-- and with one that holds.
or_true : (a : Bool) → a || true ≡ true
or_true true = refl
or_true false = refl

module _ (n tails heads capacities minimums s t : ℕ) where
  -- As many minimums as capacities: three lengths decide.
  pub sizes_three : capacities ≡ minimums → sizes_of n tails heads capacities s t ≡ bounded_sizes n tails heads capacities minimums s t
  unfolding bounded_sizes sizes_of differ_four
  sizes_three e =
      ap (λ x. refuse_if (outside 2 512 n) Nodes 0 (refuse_if x Rows 0 (refuse_if (ltb 4096 tails) Arcs 0 (refuse_if (bad_ends n s t) Ends 0 no_refusal))))
      (sym (ap (λ x. differ tails heads capacities || not x) (eq-eqb capacities minimums e) ∙ or_false (differ tails heads capacities)))

  -- Else NODES,
  pub sizes_few_nodes : n < 2 → refused Nodes 0 ≡ bounded_sizes n tails heads capacities minimums s t
  unfolding bounded_sizes outside
  sizes_few_nodes l = rw (lt-ltb n 2 l)

  -- too many of them too,
  pub sizes_many_nodes : 2 ≤ n → 512 < n → refused Nodes 0 ≡ bounded_sizes n tails heads capacities minimums s t
  unfolding bounded_sizes outside
  sizes_many_nodes h l = rw (le-ltb n 2 h, lt-ltb 512 n l)

  -- and then ROWS.
  pub sizes_rows : 2 ≤ n → n ≤ 512 → (capacities ≡ minimums → ⊥) → refused Rows 0 ≡ bounded_sizes n tails heads capacities minimums s t
  unfolding bounded_sizes outside differ_four
  sizes_rows h l ne =
      rw (le-ltb n 2 h, le-ltb 512 n l)
      (ap (λ x. refuse_if x Rows 0 (refuse_if (ltb 4096 tails) Arcs 0 (refuse_if (bad_ends n s t) Ends 0 no_refusal)))
      (sym (ap (λ x. differ tails heads capacities || not x) (ne_eqb capacities minimums ne) ∙ or_true (differ tails heads capacities))))

  -- Sizes that are not refused are those of a table, with as many minimums as capacities.
  pub bounded_sizes_fine : is_fine (bounded_sizes n tails heads capacities minimums s t) ≡ true → capacities ≡ minimums
  unfolding bounded_sizes differ_four
  bounded_sizes_fine e =
      let last : Verdict = refuse_if (ltb 4096 tails) Arcs 0 (refuse_if (bad_ends n s t) Ends 0 no_refusal) in
      let rest = (passed (outside 2 512 n) Nodes 0 (refuse_if (differ tails heads capacities || not (eqb capacities minimums)) Rows 0 last) e).1 in
      let rows = (passed (differ tails heads capacities || not (eqb capacities minimums)) Rows 0 last rest).0 in
      eqb-true capacities minimums (not-false _ (neither (differ tails heads capacities) (not (eqb capacities minimums)) rows).1)

-- ---- where a verdict refuses

-- At this place, if at all.
data At (place : ℕ) : Verdict → Type 0 where
  passes : At place no_refusal
  there : (name : Name) → At place (refused name place)

-- At one of these places, if at all.
data Within (from to : ℕ) : Verdict → Type 0 where
  nowhere : Within from to no_refusal
  between : (name : Name) (place : ℕ) → from ≤ place → place < to → Within from to (refused name place)

-- A test refuses at its place.
refuse_at : (b : Bool) (name : Name) (place : ℕ) (next : Verdict) → At place next → At place (refuse_if b name place next)
refuse_at true name place next h = there name
refuse_at false name place next h = h

-- The sizes refuse at 0,
sizes_at : (n tails heads capacities s t : ℕ) → At 0 (sizes_of n tails heads capacities s t)
unfolding sizes_of
sizes_at n tails heads capacities s t =
    refuse_at (outside 2 512 n) Nodes 0 _
    (refuse_at (differ tails heads capacities) Rows 0 _ (refuse_at (ltb 4096 tails) Arcs 0 _ (refuse_at (bad_ends n s t) Ends 0 _ passes)))

-- an arc at its place,
arc_at : (n place tail head capacity : ℕ) → At place (arc_fault n place tail head capacity)
unfolding arc_fault
arc_at n place tail head capacity =
    refuse_at (outside 1 n tail || outside 1 n head) Node place _
    (refuse_at (eqb tail head) Loop place _ (refuse_at (ltb 1000000 capacity) Capacity place _ passes))

-- and the first arc with a fault at one of their places.
first_later : (place m : ℕ) (w v : Verdict) → At place w → Within (suc place) (suc place + m) v → Within place (place + suc m) (or_else w v)
unfolding or_else
first_later place m (Ok _) v passes nowhere = nowhere
first_later place m (Ok _) v passes (between name q l h) = between name q (omega arith) (omega arith)
first_later place m (Err why) v (there _) r = between why.name place (omega arith) (omega arith)

first_within : (n place : ℕ) (ts hs cs : List ℕ) → Within place (place + length cs) (first_fault n place ts hs cs)
unfolding first_fault
first_within n place [] hs cs = nowhere
first_within n place (t ∷ ts) [] cs = nowhere
first_within n place (t ∷ ts) (h ∷ hs) [] = nowhere
first_within n place (t ∷ ts) (h ∷ hs) (c ∷ cs) =
    first_later place (length cs) (arc_fault n place t h c) (first_fault n (suc place) ts hs cs) (arc_at n place t h c) (first_within n (suc place) ts hs cs)

-- ---- a minimum above its capacity before the place that three rows refuse

-- Before place 0 there is none.
none_before : (cs ls : List ℕ) (v : Verdict) {a : Verdict} → FirstAbove 0 0 cs ls a → or_else a v ≡ v
unfolding or_else
none_before cs ls v (none each) = refl
none_before cs ls v (first k at is l above lower) = absurd (omega arith)

-- The end is beyond the first arc, where that has no fault.
end_later : (place e m : ℕ) (v : Verdict) → Within (suc place) (suc place + m) v → e ≡ end_of v (place + suc m) → (e ≡ end_of v (suc place + m)) × (place < e)
end_later place e m (Ok _) nowhere is = (omega arith, omega arith)
end_later place e m (Err why) (between _ _ l h) is = (is, omega arith)

-- One arc more in front: its own fault, its minimum, and the rest.
one_more : (place e c l m : ℕ) (cs ls : List ℕ) (w v b : Verdict) → At place w → Within (suc place) (suc place + m) v
    → e ≡ end_of (or_else w v) (place + suc m) → {a : Verdict} → FirstAbove place e (c ∷ cs) (l ∷ ls) a
    → ((x : Verdict) → e ≡ end_of v (suc place + m) → FirstAbove (suc place) e cs ls x → or_else x v ≡ b)
    → or_else a (or_else w v) ≡ or_else (or_else w (refuse_if (ltb c l) Minimum place no_refusal)) b
unfolding or_else
one_more place e c l m cs ls (Err why) v b (there _) r is (none each) rest = refl
one_more place e c l m cs ls (Err why) v b (there _) r is (first k at so h above lower) rest = absurd (omega arith)
one_more place e c l m cs ls (Ok _) v b passes r is (none each) rest =
    let (end, on) = end_later place e m v r is in
    let here : l ≤ c = each 0 (omega arith) in
    rw (le-ltb c l here) (rest no_refusal end (none (λ k h. each (suc k) (omega arith))))
one_more place e c l m cs ls (Ok _) v b passes r is (first zero at so h above lower) rest =
    let same : at ≡ place = omega arith in
    rw (lt-ltb c l above) (ap (refused Minimum) same)
one_more place e c l m cs ls (Ok _) v b passes r is (first (suc k) at so h above lower) rest =
    let (end, on) = end_later place e m v r is in
    let here : l ≤ c = lower 0 (omega arith) in
    rw (le-ltb c l here) (rest (refused Minimum at) end (first k at (omega arith) h above (λ j x. lower (suc j) (omega arith))))

-- So it comes before what three rows refuse.
faults_with : (n place e : ℕ) (ts hs cs ls : List ℕ) → length hs ≡ length ts → length cs ≡ length ts → length ls ≡ length ts
    → e ≡ end_of (first_fault n place ts hs cs) (place + length cs) → {a : Verdict} → FirstAbove place e cs ls a
    → or_else a (first_fault n place ts hs cs) ≡ first_bounded_fault n place ts hs cs ls
unfolding first_fault first_bounded_fault bounded_fault or_else
faults_with n place e [] hs cs ls p q r is (none each) = refl
faults_with n place e [] hs cs ls p q r is (first k at so h above lower) = absurd (omega arith)
faults_with n place e (t ∷ ts) [] cs ls p q r is above = absurd (omega arith)
faults_with n place e (t ∷ ts) (h ∷ hs) [] ls p q r is above = absurd (omega arith)
faults_with n place e (t ∷ ts) (h ∷ hs) (c ∷ cs) [] p q r is above = absurd (omega arith)
faults_with n place e (t ∷ ts) (h ∷ hs) (c ∷ cs) (l ∷ ls) p q r is above =
    one_more place e c l (length cs) cs ls (arc_fault n place t h c) (first_fault n (suc place) ts hs cs) (first_bounded_fault n (suc place) ts hs cs ls)
    (arc_at n place t h c) (first_within n (suc place) ts hs cs) is above
    (λ x end so. faults_with n (suc place) e ts hs cs ls (omega arith) (omega arith) (omega arith) end so)

-- ---- all checks

module _ (t : Table) (ls : List ℕ) where
  -- The sizes of three rows, and their first arc with a fault,
  abbrev sizes : Verdict
  sizes = sizes_of t.nodes (length t.tails) (length t.heads) (length t.capacities) t.source t.sink

  abbrev three : Verdict
  three = first_fault t.nodes 0 t.tails t.heads t.capacities

  -- and that of four.
  abbrev four : Verdict
  four = first_bounded_fault t.nodes 0 t.tails t.heads t.capacities ls

  -- By what the sizes say and whether there is room.
  by_sizes : (v : Verdict) (room : Bool) → At 0 v → (v ≡ no_refusal → sizes ≡ no_refusal) → length ls ≡ arcs t
      → {a : Verdict} → FirstAbove 0 (end_of (in_order v room three) (arcs t)) t.capacities ls a → or_else a (in_order v room three) ≡ in_order v room four
  unfolding in_order or_else
  by_sizes (Err why) room (there _) so many above = none_before t.capacities ls (refused why.name 0) above
  by_sizes (Ok _) false passes so many above = none_before t.capacities ls (refused Room 0) above
  by_sizes (Ok _) true passes so many above =
      let lengths = sizes_fine t.nodes (length t.tails) (length t.heads) (length t.capacities) t.source t.sink (ap is_fine (so refl)) in
      let from : arcs t ≡ 0 + arcs t = omega arith in
      faults_with t.nodes 0 _ t.tails t.heads t.capacities ls lengths.heads_same lengths.capacities_same (many ∙ lengths.capacities_same)
      (ap (end_of three) from) above

  -- As many minimums as arcs: the first minimum above its capacity that comes before what three rows refuse, or that.
  pub check_with : (room : Bool) → length ls ≡ arcs t → {a : Verdict} → FirstAbove 0 (end_of (check_of t room) (arcs t)) t.capacities ls a
      → or_else a (check_of t room) ≡ bounded_check (with_minimums t ls) room
  check_with room many above =
      by_sizes sizes room (sizes_at _ _ _ _ _ _) (λ e. e) many above
      ∙ ap (λ v. in_order v room four)
      (sizes_three t.nodes (length t.tails) (length t.heads) (length t.capacities) (length ls) t.source t.sink (sym many))

  -- The same of what the code has: the verdict, the capacities and the end.
  pub check_by : (room : Bool) {found a : Verdict} {end : ℕ} {cs : List ℕ} → t.capacities ≡ cs → found ≡ check_of t room → length cs ≡ length ls
      → end ≡ end_of found (length cs) → FirstAbove 0 end cs ls a → or_else a found ≡ bounded_check (with_minimums t ls) room
  check_by room {found} {a} caps is many e above =
      ap (or_else a) is
      ∙ check_with room (sym many ∙ ap length (sym caps)) (subst₂ (λ x y. FirstAbove 0 x y ls a) (e ∙ ap₂ end_of is (ap length (sym caps))) (sym caps) above)

  -- The arcs before what three rows refuse are few, and no more than there are.
  ends_by : (v : Verdict) (room : Bool) → At 0 v → (v ≡ no_refusal → sizes ≡ no_refusal) → (end_of (in_order v room three) (arcs t) ≤ arcs t) × (end_of (in_order v room three) (arcs t) ≤ 4096)
  unfolding in_order or_else
  ends_by (Err why) room (there _) so = (omega arith, omega arith)
  ends_by (Ok _) false passes so = (omega arith, omega arith)
  ends_by (Ok _) true passes so =
      let lengths = sizes_fine t.nodes (length t.tails) (length t.heads) (length t.capacities) t.source t.sink (ap is_fine (so refl)) in
      let most : end_of three (arcs t) ≤ arcs t = inside three (first_within t.nodes 0 t.tails t.heads t.capacities) in
      (most, omega (arith, lengths.few, lengths.capacities_same))
    where
      inside : (v : Verdict) → Within 0 (0 + arcs t) v → end_of v (arcs t) ≤ arcs t
      inside (Ok _) nowhere = omega arith
      inside (Err why) (between _ _ l h) = omega arith

  pub check_end : (room : Bool) → (end_of (check_of t room) (arcs t) ≤ arcs t) × (end_of (check_of t room) (arcs t) ≤ 4096)
  check_end room = ends_by sizes room (sizes_at _ _ _ _ _ _) (λ e. e)

  -- Not as many: NODES,
  pub check_few_nodes : (room : Bool) → t.nodes < 2 → refused Nodes 0 ≡ bounded_check (with_minimums t ls) room
  check_few_nodes room l = in_order_sizes (sizes_few_nodes t.nodes _ _ _ _ _ _ l) room four refl

  -- too many of them too,
  pub check_many_nodes : (room : Bool) → 2 ≤ t.nodes → 512 < t.nodes → refused Nodes 0 ≡ bounded_check (with_minimums t ls) room
  check_many_nodes room h l = in_order_sizes (sizes_many_nodes t.nodes _ _ _ _ _ _ h l) room four refl

  -- and then ROWS.
  pub check_rows : (room : Bool) → 2 ≤ t.nodes → t.nodes ≤ 512 → (arcs t ≡ length ls → ⊥) → refused Rows 0 ≡ bounded_check (with_minimums t ls) room
  check_rows room h l ne = in_order_sizes (sizes_rows t.nodes _ _ _ _ _ _ h l ne) room four refl

-- ---- a table that no check refuses

-- Where no arc has a fault, none has one of the table's,
faults_fine : (n place : ℕ) (ts hs cs ls : List ℕ) → length ls ≡ length cs → is_fine (first_bounded_fault n place ts hs cs ls) ≡ true
    → is_fine (first_fault n place ts hs cs) ≡ true
unfolding first_bounded_fault first_fault bounded_fault
faults_fine n place [] hs cs ls p e = refl
faults_fine n place (t ∷ ts) [] cs ls p e = refl
faults_fine n place (t ∷ ts) (h ∷ hs) [] ls p e = refl
faults_fine n place (t ∷ ts) (h ∷ hs) (c ∷ cs) [] p e = absurd (omega arith)
faults_fine n place (t ∷ ts) (h ∷ hs) (c ∷ cs) (l ∷ ls) p e =
    let (here, rest) = both_fine _ _ e in
    let (three, fourth) = both_fine _ _ here in
    ap is_fine (or_else_fine (arc_fault n place t h c) _ three) ∙ faults_fine n (suc place) ts hs cs ls (omega arith) rest

-- and no minimum is above its capacity.
faults_within : (n place : ℕ) (ts hs cs ls : List ℕ) → length hs ≡ length ts → length cs ≡ length ts → length ls ≡ length ts
    → is_fine (first_bounded_fault n place ts hs cs ls) ≡ true → (k : ℕ) → k < length cs → at_place ls k ≤ at_place cs k
unfolding first_bounded_fault bounded_fault
faults_within n place [] hs cs ls p q r e k b = absurd (omega arith)
faults_within n place (t ∷ ts) [] cs ls p q r e k b = absurd (omega arith)
faults_within n place (t ∷ ts) (h ∷ hs) [] ls p q r e k b = absurd (omega arith)
faults_within n place (t ∷ ts) (h ∷ hs) (c ∷ cs) [] p q r e k b = absurd (omega arith)
faults_within n place (t ∷ ts) (h ∷ hs) (c ∷ cs) (l ∷ ls) p q r e zero b =
    let (here, rest) = both_fine _ _ e in
    let (three, fourth) = both_fine _ _ here in
    ltb-false c l (passed _ _ _ _ fourth).0
faults_within n place (t ∷ ts) (h ∷ hs) (c ∷ cs) (l ∷ ls) p q r e (suc k) b =
    let (here, rest) = both_fine _ _ e in
    faults_within n (suc place) ts hs cs ls (omega arith) (omega arith) (omega arith) rest k (omega arith)

-- A table of four rows that no check refuses is accepted, and there was room.
pub bounded_accepts : (b : BoundedTable) (room : Bool) → is_fine (bounded_check b room) ≡ true → AcceptedBounded b × (room ≡ true)
unfolding in_order
bounded_accepts b room e =
    let t = b.table in
    let sizes : Verdict = bounded_sizes t.nodes (length t.tails) (length t.heads) (length t.capacities) (length b.minimums) t.source t.sink in
    let (no_refusal, rest) = both_fine sizes _ e in
    let (roomy, each) = passed _ _ _ _ rest in
    let same : length t.capacities ≡ length b.minimums
    = bounded_sizes_fine t.nodes (length t.tails) (length t.heads) (length t.capacities) (length b.minimums) t.source t.sink no_refusal in
    let three : is_fine (sizes_of t.nodes (length t.tails) (length t.heads) (length t.capacities) t.source t.sink) ≡ true
    = ap is_fine (sizes_three t.nodes (length t.tails) (length t.heads) (length t.capacities) (length b.minimums) t.source t.sink same) ∙ no_refusal in
    let lengths = sizes_fine t.nodes (length t.tails) (length t.heads) (length t.capacities) t.source t.sink three in
    let accepted = (check_accepts t true (ap is_fine (or_else_fine _ _ three) ∙ faults_fine t.nodes 0 t.tails t.heads t.capacities b.minimums (sym same) each)).0 in (
      record {
        source = accepted.source;
        sink = accepted.sink;
        apart = accepted.apart;
        rows =
            record {
              arcs = accepted.rows;
              minimums_long = sym same;
              within =
                  faults_within t.nodes 0 t.tails t.heads t.capacities b.minimums lengths.heads_same lengths.capacities_same (sym same ∙ lengths.capacities_same) each;
            };
      },
      not-false _ roomy,
    )
