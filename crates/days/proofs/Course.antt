-- The days, one after the other: what the rows hold after the first k days, and each day as if given by itself.
use Prim.Native.Nat.{ℕ, zero, suc, ◌+◌, ◌-◌, ◌*◌, ◌≤◌, ◌<◌}
use mathlib.Core.Path.{◌≡◌, refl, sym, ap, ap₂, ◌∙◌, subst}
use mathlib.Core.Bool.{Bool}
use mathlib.Core.List.{List, ◌∷◌, ◌++◌, append_assoc}
use native.Mathlib.Numerals.{add-one}
use native.Mathlib.Omega.{arith}
use borrow.Author.Tests.{leb-true, leb-false}
use lib.Dec.{eqb, leb}
use lib.ListN.{length, drop, replicate, length-append, length-drop, length-replicate}
use lib.Seq.{drop-append-add, drop-append-le, drop-drop}
use borrow.Rule.Slice.PartMut.{mid_len}
use Rattle.rows.specs.Row.{at_place, part, cleared}
use Rattle.parts.specs.Placed.{placed}
use Rattle.rows.proofs.Sums.{by_equal, by_test}
use Rattle.minimums.specs.BoundedTable.{bounded_of}
use Rattle.solver.specs.declared.Answer.{Answer}
use Rattle.solver.specs.Solving.{Left}
use Rattle.verdicts.specs.Plain.{plain_solving}
use Rattle.tally.specs.declared.Tally.{Tally}
use Rattle.tally.specs.Sums.{counted, tallied, no_tally}
use Rattle.days.specs.Days.{Days, tables, start_of, arcs_of, marks_at, marks_of, day_table, nine, Held, held, solved_day, part_left, day_left, with_day, next_day, first_days}
use Rattle.days.specs.Promises.{need_of, greater, greatest_need, Untouched}
use Rattle.days.specs.Ready.{Ready, Countable}
use Rattle.parts.proofs.Parts.{placed_length, placed_part, placed_before, placed_after}
use Rattle.days.proofs.Solvings.{plain_value, plain_long, need_fits, SameButWork, same_but_work}
use Rattle.tally.proofs.Summing.{Counts, counts_none, counts_next}
use Rattle.days.proofs.Starting.{starts_rise, starts_within}

-- ---- what the code of one day leaves

-- The parts from a up to e are the day's where a and e are its start and its end.
pub day_is : (d : Days) (j : ℕ) (flow side work : List ℕ) {a e : ℕ} → a ≡ start_of d j → e ≡ start_of d (j + 1) → (l : Left)
    → l ≡ part_left a e (marks_at j) flow side (plain_solving (bounded_of (at_place d.nodes j) (at_place d.sources j) (at_place d.sinks j) (part a e d.tails) (part a e d.heads) (part a e d.capacities) (part a e d.minimums)) (at_place d.stamps j) (part a e flow) (marks_of j side) work)
    → l ≡ day_left d j flow side work
day_is d j flow side work p q l same = same ∙ ap₂ (λ (a e : ℕ). part_left a e (marks_at j) flow side (plain_solving (bounded_of (at_place d.nodes j) (at_place d.sources j) (at_place d.sinks j) (part a e d.tails) (part a e d.heads) (part a e d.capacities) (part a e d.minimums)) (at_place d.stamps j) (part a e flow) (marks_of j side) work)) p q

-- A day's answer counted and written is one day more.
pub day_held : (d : Days) (j : ℕ) (h : Held) (l : Left) → l ≡ day_left d j h.flow h.side h.work
    → {b : Tally} {answers : List ℕ} → b ≡ tallied h.tally (j + 1) l.answer → answers ≡ placed (9 * j) (9 * j + 9) (nine l.answer) h.answers
    → held b l.flow l.side l.work answers ≡ next_day d j h
unfolding next_day
day_held d j h l same p q = rw (p, q) (ap (with_day j h) same)

-- A day's value is small.
pub day_value : (d : Days) (j : ℕ) (flow side work : List ℕ) (l : Left) → l ≡ day_left d j flow side work → l.answer.value ≤ 4096000000
day_value d j flow side work l same =
    omega (arith, ap (λ (x : Left). x.answer.value) same, plain_value (day_table d j) (at_place d.stamps j) (arcs_of d j flow) (marks_of j side) work)

-- ---- the work row

-- A row of n zeros.
abbrev zero_row : ℕ → List ℕ
zero_row n = replicate n 0

-- Cleared twice, as far as the further place.
cleared_twice : (a b : ℕ) (row : List ℕ) → a ≤ length row → b ≤ length row → cleared b (cleared a row) ≡ cleared (greater a b) row
cleared_twice a b row p q = by_test (leb a b) (λ e. rw e (further (leb-true a b e))) (λ e. rw e (nearer (leb-false a b e)))
  where
    further : a ≤ b → replicate b 0 ++ drop b (replicate a 0 ++ drop a row) ≡ replicate b 0 ++ drop b row
    further l =
        let whole : a + (b - a) ≡ b = omega arith in
        let size : length {A = ℕ} (replicate a 0) + (b - a) ≡ b = omega (arith, length-replicate {A = ℕ} a 0) in
        ap (λ (l : List ℕ). replicate b 0 ++ l)
        (ap (λ (k : ℕ). drop k (replicate a 0 ++ drop a row)) (sym size) ∙ drop-append-add (replicate a 0) (drop a row) (b - a) ∙ drop-drop (b - a) a row ∙ ap (λ (k : ℕ). drop k row) whole)

    zeros : (a b : ℕ) → b ≤ a → zero_row b ++ drop b (zero_row a) ≡ zero_row a
    zeros a zero l = refl
    zeros zero (suc b) l = absurd (omega arith)
    zeros (suc a) (suc b) l = ap (λ (l : List ℕ). 0 ∷ l) (zeros a b (omega arith))

    nearer : b < a → replicate b 0 ++ drop b (replicate a 0 ++ drop a row) ≡ replicate a 0 ++ drop a row
    nearer l =
        ap (λ (l : List ℕ). replicate b 0 ++ l) (drop-append-le b (replicate a 0) (drop a row) (omega (arith, length-replicate {A = ℕ} a 0)))
        ∙ sym (append_assoc (replicate b 0) (drop b (replicate a 0)) (drop a row))
        ∙ ap (λ (l : List ℕ). l ++ drop a row) (zeros a b (omega arith))

-- The greater is one of the two.
greater_fits : (a b n : ℕ) → a ≤ n → b ≤ n → greater a b ≤ n
greater_fits a b n p q = by_test (leb a b) (λ e. rw e q) (λ e. rw e p)

-- ---- the sums

-- One day more keeps the sums small.
tally_next : (j : ℕ) (b : Tally) (a : Answer) → a.value ≤ 4096000000 → Countable j b → Countable (suc j) (tallied b (j + 1) a)
unfolding tallied counted
tally_next j b a small k =
    by_test (eqb a.refusal 0)
    (λ e. rw e (record { tables_few = omega (arith, k.tables_few); total_small = omega (arith, k.total_small) }))
    (λ e. rw e (record { tables_few = omega (arith, k.tables_few); total_small = omega (arith, k.total_small) }))

-- ---- the rows after the first days

module _ (d : Days) (flow side work answers : List ℕ) (ready : Ready d (length flow) (length side) (length answers)) where
  -- What is held after k days,
  abbrev pub held_at : ℕ → Held
  held_at k = first_days d k (held no_tally flow side work answers)

  -- and a day's table given by itself.
  abbrev pub alone : ℕ → Left
  alone j = solved_day d j flow side work

  -- Whether it is solved, and its value.
  abbrev pub is_solved : ℕ → Bool
  is_solved j = eqb (alone j).answer.refusal 0

  abbrev pub value_of : ℕ → ℕ
  value_of j = (alone j).answer.value

  -- What holds after k days: the days to come have their rows as lent, the days that are done as if given by themselves.
  pub record After (k : ℕ) : Type 0 where
    pub untouched : Untouched d flow side answers (held_at k).flow (held_at k).side (held_at k).answers
    pub need_inside : greatest_need d k flow side work ≤ length work
    pub work_is : (held_at k).work ≡ cleared (greatest_need d k flow side work) work
    pub countable : Countable k (held_at k).tally
    pub counts : Counts is_solved value_of k (held_at k).tally
    pub flow_ahead : (j : ℕ) → k ≤ j → j < tables d → arcs_of d j (held_at k).flow ≡ arcs_of d j flow
    pub side_ahead : (j : ℕ) → k ≤ j → j < tables d → marks_of j (held_at k).side ≡ marks_of j side
    pub flow_done : (j : ℕ) → j < k → arcs_of d j (held_at k).flow ≡ (alone j).flow
    pub side_done : (j : ℕ) → j < k → marks_of j (held_at k).side ≡ (alone j).side
    pub answers_done : (j : ℕ) → j < k → part (9 * j) (9 * j + 9) (held_at k).answers ≡ nine (alone j).answer

  -- One day more, of what is solved with the rows as they then stand.
  module _ (k : ℕ) (more : k < tables d) (so : After k) where
    -- The day with the rows as they stand, and its table.
    abbrev here : Left
    here = solved_day d k (held_at k).flow (held_at k).side (held_at k).work

    work_length : length (held_at k).work ≡ length work
    work_length =
        ap length so.work_is ∙ simp (length-append, length-drop, length-replicate) (omega (arith, so.need_inside))

    -- It is the day by itself, but for the work row.
    as_alone : SameButWork (day_table d k) (at_place d.stamps k) (arcs_of d k flow) (marks_of k side) work (held_at k).work
    as_alone = same_but_work (day_table d k) (at_place d.stamps k) (arcs_of d k flow) (marks_of k side) work (held_at k).work work_length

    here_is : here ≡ plain_solving (day_table d k) (at_place d.stamps k) (arcs_of d k flow) (marks_of k side) (held_at k).work
    here_is = ap₂ (λ (f s : List ℕ). plain_solving (day_table d k) (at_place d.stamps k) f s (held_at k).work) (so.flow_ahead k (omega arith) more) (so.side_ahead k (omega arith) more)

    -- Its answer counts as the day's by itself.
    counts_more : Counts is_solved value_of (suc k) (tallied (held_at k).tally (k + 1) here.answer)
    unfolding tallied
    counts_more =
        subst (Counts is_solved value_of (suc k)) (sym (ap (tallied (held_at k).tally (k + 1)) (ap (λ (l : Left). l.answer) here_is ∙ as_alone.same_answer)))
        (counts_next is_solved value_of k (held_at k).tally so.counts)

    -- Its flows are as many as its arcs,
    flow_size : length here.flow ≡ start_of d (k + 1) - start_of d k
    flow_size =
        (plain_long (day_table d k) (at_place d.stamps k) (arcs_of d k (held_at k).flow) (marks_of k (held_at k).side) (held_at k).work).flow_long
        ∙ mid_len (start_of d k) (start_of d (k + 1)) (held_at k).flow
        (omega (arith, so.untouched.flow_long, starts_within d _ _ _ ready (k + 1) (omega arith), ready.for_flow))

    -- and its marks 512.
    side_size : length here.side ≡ (marks_at k + 512) - marks_at k
    side_size =
        (plain_long (day_table d k) (at_place d.stamps k) (arcs_of d k (held_at k).flow) (marks_of k (held_at k).side) (held_at k).work).side_long
        ∙ mid_len (marks_at k) (marks_at k + 512) (held_at k).side (omega (arith, so.untouched.side_long, ready.for_side))

    -- The three parts are inside their rows.
    flow_inside : start_of d (k + 1) ≤ length (held_at k).flow
    flow_inside = omega (arith, so.untouched.flow_long, starts_within d _ _ _ ready (k + 1) (omega arith), ready.for_flow)

    side_inside : marks_at k + 512 ≤ length (held_at k).side
    side_inside = omega (arith, so.untouched.side_long, ready.for_side)

    answers_inside : 9 * k + 9 ≤ length (held_at k).answers
    answers_inside = omega (arith, so.untouched.answers_long, ready.for_answers)

    nine_size : length (nine here.answer) ≡ (9 * k + 9) - 9 * k
    nine_size = omega arith

    -- The flows of a day to come,
    ahead_flow : (j : ℕ) → suc k ≤ j → j < tables d → arcs_of d j (placed (start_of d k) (start_of d (k + 1)) here.flow (held_at k).flow) ≡ arcs_of d j flow
    ahead_flow j late inside =
        placed_after (start_of d k) (start_of d (k + 1)) (held_at k).flow here.flow (ready.rise k more) flow_inside flow_size
        (start_of d j) (start_of d (j + 1)) (starts_rise d _ _ _ ready (k + 1) j (omega arith) (omega arith))
        ∙ so.flow_ahead j (omega arith) inside

    -- and its marks.
    ahead_side : (j : ℕ) → suc k ≤ j → j < tables d → marks_of j (placed (marks_at k) (marks_at k + 512) here.side (held_at k).side) ≡ marks_of j side
    ahead_side j late inside =
        placed_after (marks_at k) (marks_at k + 512) (held_at k).side here.side (omega arith) side_inside side_size (marks_at j) (marks_at j + 512) (omega arith)
        ∙ so.side_ahead j (omega arith) inside

    -- The flows of a day that is done,
    done_flow : (j : ℕ) → j < suc k → arcs_of d j (placed (start_of d k) (start_of d (k + 1)) here.flow (held_at k).flow) ≡ (alone j).flow
    done_flow j early =
        by_equal j k
        (λ p. rw p (placed_part (start_of d k) (start_of d (k + 1)) (held_at k).flow here.flow (ready.rise k more) flow_inside flow_size ∙ ap (λ (l : Left). l.flow) here_is ∙ as_alone.same_flow))
        (λ p. placed_before (start_of d k) (start_of d (k + 1)) (held_at k).flow here.flow (ready.rise k more) flow_inside flow_size
        (start_of d j) (start_of d (j + 1)) (ready.rise j (omega arith)) (starts_rise d _ _ _ ready (j + 1) k (omega arith) (omega arith))
        ∙ so.flow_done j (omega arith))

    -- its marks,
    done_side : (j : ℕ) → j < suc k → marks_of j (placed (marks_at k) (marks_at k + 512) here.side (held_at k).side) ≡ (alone j).side
    done_side j early =
        by_equal j k
        (λ p. rw p (placed_part (marks_at k) (marks_at k + 512) (held_at k).side here.side (omega arith) side_inside side_size ∙ ap (λ (l : Left). l.side) here_is ∙ as_alone.same_side))
        (λ p. placed_before (marks_at k) (marks_at k + 512) (held_at k).side here.side (omega arith) side_inside side_size (marks_at j) (marks_at j + 512) (omega arith) (omega arith)
        ∙ so.side_done j (omega arith))

    -- and its nine numbers.
    done_answers : (j : ℕ) → j < suc k → part (9 * j) (9 * j + 9) (placed (9 * k) (9 * k + 9) (nine here.answer) (held_at k).answers) ≡ nine (alone j).answer
    done_answers j early =
        by_equal j k
        (λ p. rw p (placed_part (9 * k) (9 * k + 9) (held_at k).answers (nine here.answer) (omega arith) answers_inside nine_size ∙ ap nine (ap (λ (l : Left). l.answer) here_is ∙ as_alone.same_answer)))
        (λ p. placed_before (9 * k) (9 * k + 9) (held_at k).answers (nine here.answer) (omega arith) answers_inside nine_size (9 * j) (9 * j + 9) (omega arith) (omega arith)
        ∙ so.answers_done j (omega arith))

    -- The work row.
    work_next : here.work ≡ cleared (greatest_need d (suc k) flow side work) work
    unfolding greatest_need need_of
    work_next =
        ap (λ (l : Left). l.work) here_is ∙ as_alone.other_cleared
        ∙ ap (cleared (need_of d k flow side work)) so.work_is
        ∙ cleared_twice (greatest_need d k flow side work) (need_of d k flow side work) work so.need_inside (need_fits (day_table d k) (at_place d.stamps k) (arcs_of d k flow) (marks_of k side) work)

    need_next : greatest_need d (suc k) flow side work ≤ length work
    unfolding greatest_need need_of
    need_next =
        greater_fits (greatest_need d k flow side work) (need_of d k flow side work) (length work) so.need_inside (need_fits (day_table d k) (at_place d.stamps k) (arcs_of d k flow) (marks_of k side) work)

    -- What no day writes stays.
    untouched_next : Untouched d flow side answers (placed (start_of d k) (start_of d (k + 1)) here.flow (held_at k).flow)
        (placed (marks_at k) (marks_at k + 512) here.side (held_at k).side) (placed (9 * k) (9 * k + 9) (nine here.answer) (held_at k).answers)
    untouched_next =
        record {
          flow_before =
              placed_before (start_of d k) (start_of d (k + 1)) (held_at k).flow here.flow (ready.rise k more) flow_inside flow_size
              0 (start_of d 0) (omega arith) (starts_rise d _ _ _ ready 0 k (omega arith) (omega arith))
              ∙ so.untouched.flow_before;
          flow_behind =
              placed_after (start_of d k) (start_of d (k + 1)) (held_at k).flow here.flow (ready.rise k more) flow_inside flow_size
              (length d.capacities) (length flow) (starts_within d _ _ _ ready (k + 1) (omega arith))
              ∙ so.untouched.flow_behind;
          side_behind =
              placed_after (marks_at k) (marks_at k + 512) (held_at k).side here.side (omega arith) side_inside side_size
              (512 * tables d) (length side) (omega arith)
              ∙ so.untouched.side_behind;
          answers_behind =
              placed_after (9 * k) (9 * k + 9) (held_at k).answers (nine here.answer) (omega arith) answers_inside nine_size
              (9 * tables d) (length answers) (omega arith)
              ∙ so.untouched.answers_behind;
          flow_long =
              placed_length (start_of d k) (start_of d (k + 1)) (held_at k).flow here.flow (ready.rise k more) flow_inside flow_size
              ∙ so.untouched.flow_long;
          side_long =
              placed_length (marks_at k) (marks_at k + 512) (held_at k).side here.side (omega arith) side_inside side_size ∙ so.untouched.side_long;
          answers_long =
              placed_length (9 * k) (9 * k + 9) (held_at k).answers (nine here.answer) (omega arith) answers_inside nine_size
              ∙ so.untouched.answers_long;
        }

    next_after : After (suc k)
    unfolding first_days next_day
    next_after =
        record {
          untouched = untouched_next;
          need_inside = need_next;
          work_is = work_next;
          countable =
              tally_next k (held_at k).tally here.answer
              (plain_value (day_table d k) (at_place d.stamps k) (arcs_of d k (held_at k).flow) (marks_of k (held_at k).side) (held_at k).work) so.countable;
          counts = counts_more;
          flow_ahead = ahead_flow;
          side_ahead = ahead_side;
          flow_done = done_flow;
          side_done = done_side;
          answers_done = done_answers;
        }

  -- Before the first day.
  none_after : After 0
  unfolding first_days greatest_need
  none_after =
      record {
        untouched =
            record {
              flow_before = refl;
              flow_behind = refl;
              side_behind = refl;
              answers_behind = refl;
              flow_long = refl;
              side_long = refl;
              answers_long = refl;
            };
        need_inside = omega arith;
        work_is = refl;
        countable = record { tables_few = omega arith; total_small = omega arith };
        counts = counts_none is_solved value_of;
        flow_ahead = λ j _ _. refl;
        side_ahead = λ j _ _. refl;
        flow_done = λ j l. absurd (omega arith);
        side_done = λ j l. absurd (omega arith);
        answers_done = λ j l. absurd (omega arith);
      }

  -- After any day.
  pub after_days : (k : ℕ) → k ≤ tables d → After k
  after_days zero l = none_after
  after_days (suc k) l = next_after k (omega arith) (after_days k (omega arith))

  -- With these lengths the month stays ready.
  pub still_ready : (k : ℕ) → k ≤ tables d → (h : Held) → h ≡ held_at k → Ready d (length h.flow) (length h.side) (length h.answers)
  still_ready k l h same =
      let so = after_days k l in
      rw (same, so.untouched.flow_long, so.untouched.side_long, so.untouched.answers_long) ready

  -- and the sums small.
  pub still_countable : (k : ℕ) → k ≤ tables d → (h : Held) → h ≡ held_at k → Countable k h.tally
  still_countable k l h same = rw same (after_days k l).countable

  -- One day more of the days so far.
  pub one_more : (k : ℕ) (h next : Held) → h ≡ held_at k → next ≡ next_day d k h → next ≡ held_at (k + 1)
  unfolding first_days
  one_more k h next same e = e ∙ rw (same, add-one k)

  -- No day so far.
  pub no_day : held no_tally flow side work answers ≡ held_at 0
  unfolding first_days
  no_day = refl
