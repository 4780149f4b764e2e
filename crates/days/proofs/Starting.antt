-- Laws of the whole call's checks: starts that do not fall or pass the end, and what a month that is not refused may rely on.
use Prim.Native.Nat.{ℕ, zero, suc, ◌+◌, ◌-◌, ◌≤◌, ◌<◌}
use mathlib.Core.Path.{◌≡◌, sym, ap, ◌∙◌}
use mathlib.Core.Bool.{Bool, false, ◌||◌}
use mathlib.Core.List.{List}
use native.Mathlib.Omega.{arith}
use borrow.Author.Tests.{ltb-false, leb-true, eqb-true, not-false}
use lib.ListN.{length, get_or, get_or-eq_default}
use Rattle.rows.proofs.Sums.{by_equal, both_true}
use Rattle.table.specs.Checks.{differ, is_fine, no_refusal}
use Rattle.table.proofs.Faults.{passed, neither}
use Rattle.minimums.specs.Checks.{differ_four}
use Rattle.days.specs.Days.{Days, tables, start_of, marks_at}
use Rattle.days.specs.Month.{starts_fall, rows_differ, has_month_room, verdict_of, month_verdict}
use Rattle.days.specs.Ready.{Ready}

-- ---- starts

-- Where none falls, each start is at most the next.
pub all_rise : (starts : List ℕ) (end k : ℕ) → starts_fall starts end k ≡ false → (j : ℕ) → j < k → get_or starts j end ≤ get_or starts (j + 1) end
unfolding starts_fall
all_rise starts end zero e j l = absurd (omega arith)
all_rise starts end (suc k) e j l =
    let (before, here) = neither (starts_fall starts end k) _ e in
    by_equal j k
    (λ p. rw p (ltb-false (get_or starts (k + 1) end) (get_or starts k end) here))
    (λ p. all_rise starts end k before j (omega arith))

-- Three lengths that do not differ.
same_three : (a b c : ℕ) → differ a b c ≡ false → (a ≡ b) × (a ≡ c)
unfolding differ
same_three a b c e =
    let (p, q) = neither _ _ e in
    (eqb-true a b (not-false _ p), eqb-true a c (not-false _ q))

-- The last of four tests decides where the others do not hold.
pub last_of_four : {a b c e p q r : Bool} → p ≡ a → p ≡ false → b ≡ false → q ≡ c → q ≡ false → r ≡ e → r ≡ (a || b) || (c || e)
last_of_four pa pf bf qc qf re = rw (← pa, pf, bf, ← qc, qf) re

-- ---- the verdict

-- A month that no check refuses is ready.
pub fine_ready : (d : Days) (flow side answers : ℕ) → month_verdict d flow side answers ≡ no_refusal → Ready d flow side answers
unfolding verdict_of rows_differ differ_four has_month_room
fine_ready d flow side answers e =
    let (few, rest) = passed _ _ _ _ (ap is_fine e) in
    let (rows, rest) = passed _ _ _ _ rest in
    let (starts, rest) = passed _ _ _ _ rest in
    let (room, _) = passed _ _ _ _ rest in
    let (arcs, days) = neither _ _ rows in
    let (first, second) = neither _ _ days in
    let (three, fourth) = neither _ _ arcs in
    let three = same_three _ _ _ three in
    let one = same_three _ _ _ first in
    let two = same_three _ _ _ second in
    let (a, b) = both_true _ _ (not-false _ room) in
    let (b, c) = both_true _ _ b in
    record {
      few = ltb-false _ _ few;
      tails_long = three.1;
      heads_long = sym three.0 ∙ three.1;
      minimums_long = sym (eqb-true _ _ (not-false _ fourth));
      nodes_long = sym one.0;
      sources_long = sym one.1;
      sinks_long = sym two.0;
      stamps_long = sym two.1;
      rise = all_rise d.starts (length d.capacities) (tables d) starts;
      for_flow = leb-true _ _ a;
      for_side = leb-true _ _ b;
      for_answers = leb-true _ _ c;
    }

-- ---- the days' places

module _ (d : Days) (flow side answers : ℕ) (ready : Ready d flow side answers) where
  -- A later day starts no earlier.
  later : (g j k : ℕ) → j + g ≡ k → k ≤ tables d → start_of d j ≤ start_of d k
  later zero j k e l = let same : j ≡ k = omega arith in omega (arith, ap (start_of d) same)
  later (suc g) j k e l = omega (arith, ready.rise j (omega arith), later g (j + 1) k (omega arith) l)

  pub starts_rise : (j k : ℕ) → j ≤ k → k ≤ tables d → start_of d j ≤ start_of d k
  starts_rise j k order l = rest (k - j) (omega arith)
    where
      rest : (g : ℕ) → j + g ≡ k → start_of d j ≤ start_of d k
      rest g e = later g j k e l

  -- No day starts behind the rows' end.
  pub starts_within : (j : ℕ) → j ≤ tables d → start_of d j ≤ length d.capacities
  starts_within j l =
      omega (arith, starts_rise j (tables d) l (omega arith), get_or-eq_default d.starts (length d.capacities) {n = tables d} (omega arith))

  -- A day's arcs, flows and marks are inside their rows.
  pub day_inside : (j : ℕ) → j < tables d → {a e : ℕ} → a ≡ start_of d j → e ≡ start_of d (j + 1)
      → ((a ≤ e) × (e ≤ length d.tails) × (e ≤ length d.heads) × (e ≤ length d.capacities) × (e ≤ length d.minimums)) × ((e ≤ flow) × (marks_at j + 512 ≤ side))
  day_inside j l p q =
      let order = ready.rise j l in
      let inside = starts_within (j + 1) (omega arith) in
      ((omega arith, omega (arith, ready.tails_long), omega (arith, ready.heads_long), omega arith, omega (arith, ready.minimums_long)), (omega (arith, ready.for_flow), omega (arith, ready.for_side)))
