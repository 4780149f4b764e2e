-- From the checks to an accepted table, and from the parts of an answer to what solving promises.
use Rattle.std.specs.Prelude.{Ok, Err}
use Prim.Native.Nat.{ℕ, ◌≤◌}
use mathlib.Core.Path.{◌≡◌, refl, sym, ap, ◌∙◌, subst}
use mathlib.Core.List.{List, ◌++◌, append-nil}
use mathlib.Core.Bool.{true}
use native.Mathlib.Omega.{arith}
use borrow.Author.Tests.{leb-true}
use Rattle.rows.proofs.Sums.{both_true}
use Rattle.rows.proofs.Storing.{sets_front}
use lib.ListN.{length, take, drop, drop_of_length-le}
use lib.Seq.{sets, take_at, length-take-le}
use Rattle.rows.specs.Row.{at_place, cleared}
use Rattle.network.specs.Network.{inflow, outflow}
use Rattle.table.specs.Table.{Table, arcs, network_of}
use Rattle.table.specs.Checks.{is_fine, no_refusal, refused, Verdict}
use Rattle.table.specs.Accepted.{Accepted}
use Rattle.table.specs.declared.Name.{Name}
use Rattle.table.proofs.Numbers.{number_positive}
use Rattle.table.proofs.Accepts.{check_accepts}
use Rattle.reach.specs.Side.{side_of}
use Rattle.reach.proofs.Side.{length_of_side}
use Rattle.run.specs.Phase.{run, value}
use Rattle.run.specs.Demands.{Best}
use Rattle.run.specs.declared.Outcome.{Outcome}
use Rattle.run.proofs.Networks.{accepted_sound}
use Rattle.run.proofs.Whole.{run_bounded}
use Rattle.run.proofs.Answers.{run_best, run_fits}
use Rattle.start.specs.Sums.{sum_at}
use Rattle.arcs.specs.Work.{work_need}
use Rattle.work.specs.Held.{Ran}
use Rattle.solver.specs.declared.Answer.{Answer}
use Rattle.solver.specs.Filled.{Filled}
use Rattle.solver.specs.Solving.{Left, left, has_room, refusal, answer_with, solved, solving_as, solving_verdict, solving, Meets}

-- The lent rows are long enough.
pub record Roomy (n m flow side work : ℕ) : Type 0 where
  pub for_flow : m ≤ flow
  pub for_side : n ≤ side
  pub for_work : work_need n m ≤ work

-- The test for room says so.
pub room_roomy : (n m flow side work : ℕ) → has_room n m flow side work ≡ true → Roomy n m flow side work
unfolding has_room
room_roomy n m flow side work e =
    let (a, rest) = both_true _ _ e in
    let (b, c) = both_true _ _ rest in
    record { for_flow = leb-true _ _ a; for_side = leb-true _ _ b; for_work = leb-true _ _ c }

-- The sums of the value: no more comes into the source than leaves it.
pub source_sums : (t : Table) → Accepted t → (flow : List ℕ) → flow ≡ (run t).state.flow
    → sum_at t.heads flow t.source (length t.heads) ≤ sum_at t.tails flow t.source (length t.tails)
unfolding inflow outflow
source_sums t ok flow same =
    let heads_long : length t.heads ≡ arcs t = omega (arith, ok.rows.ends.heads_long, ok.rows.capacities_long) in
    let tails_long : length t.tails ≡ arcs t = omega (arith, ok.rows.capacities_long) in
    rw (same, heads_long, tails_long) (omega (arith, (run_best t ok).net))

-- ---- a solved table's rows

module _ (t : Table) (ok : Accepted t) where
  -- The flow at the end.
  abbrev done : List ℕ
  done = (run t).state.flow

  -- The first m flows are the run's,
  pub solved_flows : (flow : List ℕ) → take (arcs t) (done ++ drop (arcs t) flow) ≡ done
  solved_flows flow = take_at done (drop (arcs t) flow) (arcs t) (run_fits t ok).flow

  -- and the first n marks are the side.
  pub solved_marks : (side : List ℕ) → take t.nodes (side_of t done ++ drop t.nodes side) ≡ side_of t done
  solved_marks side =
      take_at (side_of t done) (drop t.nodes side) t.nodes
      (length_of_side (network_of t) (at_place done) (accepted_sound t ok))

  -- So these rows hold the best answer.
  solved_best : (flow side : List ℕ)
      → Best t (take (arcs t) (done ++ drop (arcs t) flow)) (take t.nodes (side_of t done ++ drop t.nodes side)) (value t done)
  solved_best flow side = rw (solved_flows flow, solved_marks side) (run_best t ok)

-- Demands 2 and 3 hold of an accepted table that is solved.
pub solved_meets : (t : Table) (stamp : ℕ) (flow side work : List ℕ) → Accepted t → Meets t (solved t stamp flow side work)
unfolding solved answer_with
solved_meets t stamp flow side work ok =
    record { best = solved_best t ok flow side; bounded = run_bounded t ok }

-- ---- the answer of its parts

-- Equal parts make equal answers and rows.
pub same_left : {a b : Answer} {f g s u w x : List ℕ} → a ≡ b → f ≡ g → s ≡ u → w ≡ x → left a f s w ≡ left b g u x
same_left p q e d = rw (p, q, e, d)

-- The run's results, its value and its side are what is left while the lists stand.
pub filled_by : (t : Table) (stamp : ℕ) (side work : List ℕ) (outcome : Outcome) (worth : ℕ) (r : Answer) (flow_left side_left work_left : List ℕ)
    → Ran t work outcome flow_left work_left → worth ≡ value t flow_left
    → side_left ≡ side_of t flow_left ++ drop t.nodes side
    → r ≡ answer_with stamp worth outcome.scale outcome.phases outcome.counts
    → Filled t stamp side work r flow_left side_left work_left
filled_by t stamp side work outcome worth r flow_left side_left work_left ran e f g =
    record {
      answer_is = g ∙ rw (e, ran.flow_is, ran.scale_is, ran.phases_are, ran.counts_are);
      flow_is = ran.flow_is;
      side_is = f ∙ ap (λ (l : List ℕ). side_of t l ++ drop t.nodes side) ran.flow_is;
      lists_stay = ran.lists_stay;
    }

-- With the work row cleared that is a solved table's, where the flow row has just m places.
pub solved_rows : (t : Table) (stamp : ℕ) (flow side work filled : List ℕ) (r : Answer) (flow_left side_left worked work_left : List ℕ)
    → length flow ≡ arcs t → Filled t stamp side filled r flow_left side_left worked
    → work_left ≡ cleared (work_need t.nodes (arcs t)) work
    → left r flow_left side_left work_left ≡ solved t stamp flow side work
unfolding solved
solved_rows t stamp flow side work filled r flow_left side_left worked work_left long done e =
    same_left done.answer_is (done.flow_is ∙ sym (nothing_later (run t).state.flow flow (arcs t) long)) done.side_is e
  where
    -- A row of just m places has no later ones.
    nothing_later : (front row : List ℕ) (m : ℕ) → length row ≡ m → front ++ drop m row ≡ front
    nothing_later front row m all = let past : length row ≤ m = omega arith in rw (drop_of_length-le row past, append-nil)

-- The flow row's later places are as they were, where its first m were lent.
pub solved_longer : (t : Table) (stamp : ℕ) (flow side work : List ℕ) (r : Answer) (flow_left side_left work_left : List ℕ)
    → arcs t ≤ length flow → left r flow_left side_left work_left ≡ solved t stamp (take (arcs t) flow) side work
    → left r (flow_left ++ drop (arcs t) flow) side_left work_left ≡ solved t stamp flow side work
unfolding solved
solved_longer t stamp flow side work r flow_left side_left work_left room e =
    let past : length (take (arcs t) flow) ≤ arcs t = omega (arith, length-take-le (arcs t) flow room) in
    ap (λ (l : Left). left l.answer (l.flow ++ drop (arcs t) flow) l.side l.work) e
    ∙ rw (drop_of_length-le (take (arcs t) flow) past, append-nil)

-- A row's first numbers stored into another: they stand in front of its later places.
pub front_stored : (row from after : List ℕ) (k : ℕ) → k ≤ length from → k ≤ length row → after ≡ sets row 0 (take k from)
    → after ≡ take k from ++ drop k row
front_stored row from after k l room e =
    let long = length-take-le k from l in
    e ∙ sets_front row (take k from) (omega (arith, long)) ∙ ap (λ i. take k from ++ drop i row) long

-- ---- the promise, by what the checks find

module _ (t : Table) (stamp : ℕ) (flow side work : List ℕ) (v : Verdict) (found : v ≡ solving_verdict t (length flow) (length side) (length work)) where
  -- Where the checks refuse, solving gives that refusal and leaves the rows.
  pub refused_solving : (name : Name) (place : ℕ) → v ≡ refused name place → (r : Answer) → r ≡ refusal name place
      → left r flow side work ≡ solving t stamp flow side work
  unfolding solving solving_as
  refused_solving name place e r f = rw (← found, e) (ap (λ (a : Answer). left a flow side work) f)

  -- Where they do not, it gives the solved table.
  pub fine_solving : v ≡ no_refusal → (l : Left) → l ≡ solved t stamp flow side work → l ≡ solving t stamp flow side work
  unfolding solving solving_as
  fine_solving e l f = rw (← found, e) f

  -- A table that passes is accepted,
  pub fine_accepted : v ≡ no_refusal → Accepted t
  fine_accepted e = (check_accepts t (has_room t.nodes (arcs t) (length flow) (length side) (length work)) (ap is_fine (sym found ∙ e))).0

  -- and the rows have room.
  pub fine_roomy : v ≡ no_refusal → Roomy t.nodes (arcs t) (length flow) (length side) (length work)
  fine_roomy e =
      room_roomy _ _ _ _ _ (check_accepts t (has_room t.nodes (arcs t) (length flow) (length side) (length work)) (ap is_fine (sym found ∙ e))).1

-- ---- rows handed over

module _ (t : Table) (ok : Accepted t) where
  -- What was solved in rows of a call's own and is handed over leaves the lent rows as solving leaves them.
  pub handed_over_lem : (stamp : ℕ) (flow side work own_flow own_side own_work : List ℕ) (a : Answer) (flow_own side_own work_own flow_left side_left work_left : List ℕ)
      → left a flow_own side_own work_own ≡ solved t stamp own_flow own_side own_work
      → flow_left ≡ take (arcs t) flow_own ++ drop (arcs t) flow → side_left ≡ take t.nodes side_own ++ drop t.nodes side
      → work_left ≡ cleared (work_need t.nodes (arcs t)) work
      → left a flow_left side_left work_left ≡ solved t stamp flow side work
  unfolding solved
  handed_over_lem stamp flow side work own_flow own_side own_work a flow_own side_own work_own flow_left side_left work_left e f g h =
      same_left (ap (λ (l : Left). l.answer) e)
      (f ∙ ap (λ (l : List ℕ). l ++ drop (arcs t) flow) (ap (λ (l : Left). take (arcs t) l.flow) e ∙ solved_flows t ok own_flow))
      (g ∙ ap (λ (l : List ℕ). l ++ drop t.nodes side) (ap (λ (l : Left). take t.nodes l.side) e ∙ solved_marks t ok own_side))
      h

-- What refuses nothing meets demands 2 and 3.
pub solving_meets : (t : Table) (stamp : ℕ) (flow side work : List ℕ) (l : Left) → l ≡ solving t stamp flow side work → l.answer.refusal ≡ 0 → Meets t l
solving_meets t stamp flow side work l same none = go (solving_verdict t (length flow) (length side) (length work)) refl
  where
    go : (v : Verdict) → v ≡ solving_verdict t (length flow) (length side) (length work) → Meets t l
    go (Ok _) e =
        subst (Meets t) (fine_solving t stamp flow side work no_refusal e refl (solved t stamp flow side work) refl ∙ sym same)
        (solved_meets t stamp flow side work (fine_accepted t stamp flow side work no_refusal e refl))
    go (Err why) e =
        absurd (number_positive why.name (ap (λ (x : Left). x.answer.refusal) (refused_solving t stamp flow side work (refused why.name why.place) e why.name why.place refl (refusal why.name why.place) refl ∙ sym same) ∙ none))
