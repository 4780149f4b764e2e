-- The run that stops early: where it stops, and that what CR 7 says holds of it.
use Prim.Native.Nat.{ℕ, zero, suc, ◌+◌, ◌≤◌, ◌<◌}
use mathlib.Core.Path.{◌≡◌, ap, sym, subst, ◌∙◌}
use mathlib.Core.Bool.{Bool, true, false, true≢false, cond}
use native.Mathlib.Omega.{arith}
use borrow.Author.Tests.{leb-true, leb-false, le-leb, lt-leb}
use lib.Dec.{leb}
use Rattle.rows.proofs.Sums.{by_test, by_equal}
use Rattle.table.specs.Table.{Table}
use Rattle.table.specs.Accepted.{Accepted}
use Rattle.run.specs.Phase.{Run, run, value}
use Rattle.run.specs.Rows.{steps}
use Rattle.until.specs.Stepwise.{after_steps}
use Rattle.until.specs.Stopping.{into_sink, reaches, stops_after, steps_until, stopped, Stops}
use Rattle.until.proofs.Stepwise.{run_after, run_stays, counted_after}
use Rattle.until.proofs.Growing.{Grows, steps_grow, sink_never_falls, end_value}

module _ (t : Table) (q : ℕ) where
  -- Where q is reached after some steps, the run stops after these.
  reached_stops : (j : ℕ) → reaches t q (after_steps t j) ≡ true → stops_after t q j ≡ true
  reached_stops j e = e

  -- So it takes no further step,
  until_stays : (most : ℕ) → reaches t q (after_steps t (steps_until t q most)) ≡ true → steps_until t q (suc most) ≡ steps_until t q most
  unfolding steps_until
  until_stays most e = ap (λ (b : Bool). cond b (steps_until t q most) (suc (steps_until t q most))) (reached_stops (steps_until t q most) e)

  -- and else it goes on.
  until_goes : (most : ℕ) → reaches t q (after_steps t (steps_until t q most)) ≡ false → steps_until t q (suc most) ≡ suc (steps_until t q most)
  unfolding steps_until
  until_goes most e = ap (λ (b : Bool). cond b (steps_until t q most) (suc (steps_until t q most))) e

  -- It takes no more steps than it may,
  until_most : (most : ℕ) → steps_until t q most ≤ most
  unfolding steps_until
  until_most zero = omega arith
  until_most (suc most) =
      by_test (reaches t q (after_steps t (steps_until t q most)))
      (λ e. omega (arith, until_stays most e, until_most most))
      (λ e. omega (arith, until_goes most e, until_most most))

  -- none after q is reached,
  until_first : (most j : ℕ) → j < steps_until t q most → reaches t q (after_steps t j) ≡ false
  unfolding steps_until
  until_first zero j l = absurd (omega arith)
  until_first (suc most) j l =
      by_test (reaches t q (after_steps t (steps_until t q most)))
      (λ e. until_first most j (omega (arith, until_stays most e)))
      (λ e.
      by_equal j (steps_until t q most)
      (λ same. ap (λ (x : ℕ). reaches t q (after_steps t x)) same ∙ e)
      (λ ne. until_first most j (omega (arith, ne, until_goes most e))))

  -- and all that it may take where q is not reached.
  until_all : (most : ℕ) → reaches t q (after_steps t (steps_until t q most)) ≡ false → steps_until t q most ≡ most
  until_all zero e = omega (arith, until_most zero)
  until_all (suc most) e =
      by_test (reaches t q (after_steps t (steps_until t q most)))
      (λ said. absurd (true≢false (sym said ∙ ap (λ (x : ℕ). reaches t q (after_steps t x)) (sym (until_stays most said)) ∙ e)))
      (λ denied. until_goes most denied ∙ ap suc (until_all most denied))

  -- While q is not reached the run takes each step,
  pub until_on : (j : ℕ) → steps_until t q j ≡ j → into_sink t (after_steps t j).state.flow < q → steps_until t q (suc j) ≡ suc j
  until_on j here below =
      until_goes j (ap (λ (x : ℕ). reaches t q (after_steps t x)) here ∙ lt-leb q (into_sink t (after_steps t j).state.flow) below) ∙ ap suc here

  -- and where it is reached no further one.
  until_held : (j e : ℕ) → steps_until t q j ≡ j → reaches t q (after_steps t j) ≡ true → j ≤ e → steps_until t q e ≡ j
  until_held j zero here said l = let none : j ≡ 0 = omega arith in ap (steps_until t q) (sym none) ∙ here
  until_held j (suc e) here said l =
      by_equal j (suc e)
      (λ same. ap (steps_until t q) (sym same) ∙ here)
      (λ ne.
      let before : steps_until t q e ≡ j = until_held j e here said (omega (arith, ne)) in
      until_stays e (ap (λ (x : ℕ). reaches t q (after_steps t x)) before ∙ said) ∙ before)

  module _ (ok : Accepted t) where
    -- What the stopped run is.
    pub stopped_stops : Stops t q (stopped t q)
    unfolding stopped
    stopped_stops =
        record {
          yes = by_test (reaches t q here) said_yes said_no;
          part = ap (after_steps t) (sym counted);
          saturating = omega (arith, grown.saturating);
          nonsaturating = omega (arith, grown.nonsaturating);
          relabels = omega (arith, grown.relabels);
          all = all;
          first = λ j l. leb-false q (into_sink t (after_steps t j).state.flow) (until_first total j (omega (arith, counted)));
        }
      where
        total : ℕ
        total = steps (run t).counts

        here : Run
        here = after_steps t (steps_until t q total)

        counted : steps here.counts ≡ steps_until t q total
        counted = counted_after t ok (steps_until t q total) (until_most total)

        grown : Grows t here (run t)
        grown = subst (Grows t here) (sym (run_after t ok)) (steps_grow t ok (steps_until t q total) total (until_most total))

        all : reaches t q here ≡ false → here ≡ run t
        all denied = ap (after_steps t) (until_all total denied) ∙ sym (run_after t ok)

        said_no : reaches t q here ≡ false → reaches t q here ≡ leb q (value t (run t).state.flow)
        said_no denied = ap (reaches t q) (all denied) ∙ ap (leb q) (end_value t ok)

        said_yes : reaches t q here ≡ true → reaches t q here ≡ leb q (value t (run t).state.flow)
        said_yes said =
            said
            ∙ sym
            (le-leb q (value t (run t).state.flow)
            (omega (
              arith,
              leb-true q (into_sink t here.state.flow) said,
              sink_never_falls t ok (steps_until t q total) total (until_most total),
              ap (λ (r : Run). into_sink t r.state.flow) (run_after t ok),
              end_value t ok,
            )))

    -- Where q is above the value the stopped run is the whole run.
    pub stopped_whole : value t (run t).state.flow < q → stopped t q ≡ run t
    stopped_whole above = stopped_stops.all (stopped_stops.yes ∙ lt-leb q (value t (run t).state.flow) above)

    module _ (r : Run) (part : after_steps t (steps r.counts) ≡ r) (each : steps_until t q (steps r.counts) ≡ steps r.counts) where
      -- It has no more steps than the run.
      steps_most : steps r.counts ≤ steps (run t).counts
      steps_most =
          let j : ℕ = steps r.counts in
          let on : Grows t (after_steps t j) (after_steps t (j + steps (run t).counts)) = steps_grow t ok j (j + steps (run t).counts) (omega arith) in
          omega (
            arith,
            on.saturating,
            on.nonsaturating,
            on.relabels,
            ap (λ (x : Run). x.counts.saturating) part,
            ap (λ (x : Run). x.counts.nonsaturating) part,
            ap (λ (x : Run). x.counts.relabels) part,
            ap (λ (x : Run). x.counts.saturating) (run_stays t ok (j + steps (run t).counts) (omega arith)),
            ap (λ (x : Run). x.counts.nonsaturating) (run_stays t ok (j + steps (run t).counts) (omega arith)),
            ap (λ (x : Run). x.counts.relabels) (run_stays t ok (j + steps (run t).counts) (omega arith)),
          )

      -- A run that took each step so far, and has reached q, is the stopped one.
      pub stopped_here : q ≤ into_sink t r.state.flow → r ≡ stopped t q
      unfolding stopped
      stopped_here reached =
          sym part
          ∙ ap (after_steps t)
          (sym
          (until_held (steps r.counts) (steps (run t).counts) each
          (ap (reaches t q) part ∙ le-leb q (into_sink t r.state.flow) reached) steps_most))

    -- The whole run is, if it took each step.
    pub stopped_last : (r : Run) → r ≡ run t → steps_until t q (steps r.counts) ≡ steps r.counts → r ≡ stopped t q
    unfolding stopped
    stopped_last r e each =
        let whole : steps_until t q (steps (run t).counts) ≡ steps (run t).counts =
        subst (λ (x : Run). steps_until t q (steps x.counts) ≡ steps x.counts) e each in
        e ∙ run_after t ok ∙ ap (after_steps t) (sym whole)
