-- Each day of a month that is not refused: answered as if given by itself, with demands 2 and 3; and the promise by what the checks find.
use Prim.Native.Nat.{ℕ, ◌+◌, ◌-◌, ◌*◌, ◌<◌}
use mathlib.Core.Path.{◌≡◌, sym, ap, ◌∙◌}
use mathlib.Core.List.{List}
use native.Mathlib.Omega.{arith}
use lib.Dec.{eqb}
use lib.ListN.{length, drop}
use lib.Seq.{get_or-take, get_or-drop}
use Rattle.rows.specs.Row.{at_place, part}
use Rattle.table.specs.Table.{Table}
use Rattle.table.specs.declared.Name.{Name}
use Rattle.table.proofs.Numbers.{number_positive}
use Rattle.solver.specs.declared.Answer.{Answer}
use Rattle.solver.specs.Solving.{Left, left, Meets}
use Rattle.tally.specs.Sums.{no_tally}
use Rattle.days.specs.declared.Month.{Month}
use Rattle.days.specs.Days.{Days, tables, arcs_of, marks_of, day_table, nine, Held, held, solved_day, first_days}
use Rattle.days.specs.Month.{MonthLeft, month_left, month_refusal, month_sums, month_of, month_verdict, month_as, month}
use Rattle.days.specs.Promises.{answer_in, day_in, EachDay}
use Rattle.days.specs.Ready.{Ready}
use Rattle.days.proofs.Solvings.{plain_meets}
use Rattle.days.proofs.Starting.{fine_ready}
use Rattle.tally.proofs.Summing.{summed_same}
use Rattle.days.proofs.Course.{held_at, alone, After, after_days}
use Rattle.table.specs.Checks.{no_refusal, refused, Verdict}

-- ---- nine numbers read back

-- What a part holds is what the row holds there.
part_at : (a e i : ℕ) (row : List ℕ) → i < e - a → at_place row (a + i) ≡ at_place (part a e row) i
part_at a e i row l = sym (get_or-take (e - a) (drop a row) i 0 l ∙ get_or-drop a row i 0)

-- Nine numbers are the answer that they were written from.
nine_read : (j : ℕ) (answers : List ℕ) (a : Answer) → part (9 * j) (9 * j + 9) answers ≡ nine a → answer_in j answers ≡ a
nine_read j answers a same =
    rw (first, at 1 (omega arith), at 2 (omega arith), at 3 (omega arith), at 4 (omega arith), at 5 (omega arith), at 6 (omega arith), at 7 (omega arith), at 8 (omega arith))
  where
    at : (i : ℕ) → i < 9 → at_place answers (9 * j + i) ≡ at_place (nine a) i
    at i l = part_at (9 * j) (9 * j + 9) i answers (omega arith) ∙ ap (λ (row : List ℕ). at_place row i) same

    first : at_place answers (9 * j) ≡ a.refusal
    first = let here : 9 * j ≡ 9 * j + 0 = omega arith in ap (at_place answers) here ∙ at 0 (omega arith)

-- ---- each day

-- A day's answer, flows and marks make up what it left, beside its work row.
same_day : {a b : Answer} {f g s u : List ℕ} (w : List ℕ) → a ≡ b → f ≡ g → s ≡ u → left a f s w ≡ left b g u w
same_day w p q r = rw (p, q, r)

-- Demands 2 and 3 do not look at the work row.
other_work : (t : Table) (a : Answer) (flow side work other : List ℕ) → Meets t (left a flow side work) → Meets t (left a flow side other)
other_work t a flow side work other m = record { best = m.best; bounded = m.bounded }

-- What is held after the last day keeps the promise of each day.
pub each_day : (d : Days) (flow side work answers : List ℕ) → Ready d (length flow) (length side) (length answers)
    → (h : Held) → h ≡ first_days d (tables d) (held no_tally flow side work answers)
    → EachDay d flow side work answers h.flow h.side h.work h.answers (month_sums h.tally)
each_day d flow side work answers ready h same =
    rw same
    (record {
      alone = by_itself;
      meets =
          λ j l none.
          other_work (day_table d j).table _ _ _ _ last.work
          (plain_meets (day_table d j) (at_place d.stamps j) (arcs_of d j flow) (marks_of j side) work _ (by_itself j l) none);
      cleared_to = so.work_is;
      summed =
          summed_same (tables d) _ _ _ _ _ _ _
          (λ j l. ap (λ (x : Left). eqb x.answer.refusal 0) (sym (by_itself j l)))
          (λ j l. ap (λ (x : Left). x.answer.value) (sym (by_itself j l)))
          so.counts.summed;
      untouched = so.untouched;
    })
  where
    last : Held
    last = held_at d flow side work answers ready (tables d)

    so : After d flow side work answers ready (tables d)
    so = after_days d flow side work answers ready (tables d) (omega arith)

    by_itself : (j : ℕ) → j < tables d → day_in d j last.flow last.side last.answers (solved_day d j flow side work).work ≡ solved_day d j flow side work
    by_itself j l =
        same_day (solved_day d j flow side work).work (nine_read j last.answers (solved_day d j flow side work).answer (so.answers_done j l)) (so.flow_done j l) (so.side_done j l)

-- ---- the promise, by what the checks find

-- The whole promise.
abbrev pub Promised : Days → (flow side work answers : List ℕ) → MonthLeft → Type 0
Promised d flow side work answers l =
    (l ≡ month d flow side work answers) × (l.month.refusal ≡ 0 → EachDay d flow side work answers l.flow l.side l.work l.answers l.month)

module _ (d : Days) (flow side work answers : List ℕ) (v : Verdict) (found : v ≡ month_verdict d (length flow) (length side) (length answers)) where
  -- Where the checks refuse, the month is that refusal, and the rows stay.
  pub refused_promise : (name : Name) (place : ℕ) → v ≡ refused name place → (r : Month) → r ≡ month_refusal name place
      → Promised d flow side work answers (month_left r flow side work answers)
  unfolding month month_as
  refused_promise name place e r f =
      (rw (← found, e) (ap (λ (m : Month). month_left m flow side work answers) f), λ none. absurd (number_positive name (sym (ap (λ (m : Month). m.refusal) f) ∙ none)))

  -- Where they do not, the month is ready,
  pub fine_is_ready : v ≡ no_refusal → Ready d (length flow) (length side) (length answers)
  fine_is_ready e = fine_ready d (length flow) (length side) (length answers) (sym found ∙ e)

  -- and the sums and rows after the last day are its promise.
  pub fine_promise : v ≡ no_refusal → (h : Held) → h ≡ first_days d (tables d) (held no_tally flow side work answers) → (r : Month) → r ≡ month_sums h.tally
      → Promised d flow side work answers (month_left r h.flow h.side h.work h.answers)
  unfolding month month_as
  fine_promise e h same r f = (
    rw (← found, e) (ap (λ (m : Month). month_left m h.flow h.side h.work h.answers) f ∙ ap month_of same),
    λ _. rw f (each_day d flow side work answers (fine_is_ready e) h same),
  )
