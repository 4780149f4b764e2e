-- Our own answer: the solution text of the run's value and flow, with its side, is a full plan, and checking says so.
use Prim.Native.Nat.{ℕ, ◌-◌, ◌<◌, ◌≤◌}
use mathlib.Core.Path.{◌≡◌, refl, sym, ap, ap₂, subst, ◌∙◌}
use mathlib.Core.Bool.{Bool, true, not, ◌&&◌}
use mathlib.Core.List.{List, ◌++◌}
use native.Mathlib.Omega.{arith}
use lib.Dec.{eqb, leb}
use lib.ListN.{length, length-append, get_or-append}
use borrow.Author.Tests.{le-leb}
use Rattle.std.specs.Prelude.{Result, Ok}
use Rattle.rows.specs.Row.{Node, at_place}
use Rattle.rows.specs.Sum.{sum, only}
use Rattle.rows.proofs.Rows.{node_at}
use Rattle.rows.proofs.Sums.{only_le, sum_ext, sum_bound}
use Rattle.network.specs.Network.{leaves, leaving}
use Rattle.table.specs.Table.{Table, arcs, tail, head, capacity, network_of}
use Rattle.table.specs.Accepted.{Accepted}
use Rattle.table.specs.Checks.{is_fine, or_else, no_refusal, Verdict}
use Rattle.minimums.specs.BoundedTable.{BoundedTable}
use Rattle.minimums.specs.Checks.{plain_check}
use Rattle.reach.specs.Side.{marked, side_of}
use Rattle.reach.proofs.Side.{length_of_side}
use Rattle.run.specs.Phase.{run, value}
use Rattle.run.proofs.Answers.{run_best, run_fits}
use Rattle.run.proofs.Networks.{accepted_sound}
use Rattle.scan.specs.Parts.{lines}
use Rattle.scan.specs.Parts.{run as front_run}
use Rattle.wording.specs.Text.{value_front, flow_lines, solution_text}
use Rattle.wording.proofs.Speaking.{Fitting, ends_fit, text_short, text_front}
use Rattle.intake.proofs.Verdicts.{text_fine}
use Rattle.scan.specs.declared.Fault.{Fault}
use Rattle.amounts.specs.Lines.{step_of, onwards, judge, judged, amount_in, amounts_of}
use Rattle.sharing.specs.Full.{is_pair, Full}
use Rattle.plan.specs.declared.Checked.{Checked}
use Rattle.plan.specs.Checking.{lines_verdict, plan_verdict, checked_with, Flags, Answers, Checks}
use Rattle.plan.proofs.Worded.{lines_next, kind_value, arc_amounts, judge_flows, amounts_flows, amounts_pairs}

-- What an answer says where nothing is refused.
answers_yes : (verdict : Verdict) (said : Result ℕ Fault) (t : Table) (text side : List ℕ) (r : Checked) (v : ℕ) → verdict ≡ no_refusal → said ≡ Ok v → Answers verdict said t text side r
    → (r ≡ checked_with 0 0 r.full) × Flags r.full (Full t v (amounts_of (lines text)) side)
unfolding Answers
answers_yes verdict said t text side r v e f a =
    subst (λ (j : Result ℕ Fault). Answers no_refusal j t text side r) f (subst (λ (w : Verdict). Answers w said t text side r) e a)

module _ (t : Table) (ok : Accepted t) where
  -- The run's flow,
  abbrev pub own_flow : List ℕ
  own_flow = (run t).state.flow

  -- its value,
  abbrev pub own_value : ℕ
  own_value = value t own_flow

  -- and its side.
  abbrev pub own_side : List ℕ
  own_side = side_of t own_flow

  -- The capacity of a cut is at most 4,096,000,000.
  cut_small : (X : ℕ → Bool) → leaving (network_of t) X (capacity t) ≤ 4096000000
  unfolding leaving
  cut_small X =
      omega (
        arith,
        sum_bound (arcs t) 1000000 (λ k. only (leaves (network_of t) X k) (capacity t k)) (λ k l. omega (arith, only_le (leaves (network_of t) X k) (capacity t k), ok.rows.small k l)),
        ok.rows.capacities_long,
        ok.rows.ends.few_arcs,
      )

  -- So the value fits a field,
  value_fits : own_value ≤ 4294967295
  value_fits = omega (arith, (run_best t ok).cut, cut_small (marked own_side))

  -- and so do the flows, one for each arc.
  flow_long : length own_flow ≡ arcs t
  flow_long = (run_fits t ok).flow

  -- There is a mark for each node.
  side_long : length own_side ≡ t.nodes
  side_long = length_of_side (network_of t) (at_place own_flow) (accepted_sound t ok)

  -- Each is within its capacity.
  flow_fits : Fitting own_flow
  flow_fits k l =
      let here : k < arcs t = omega (arith, flow_long) in
      omega (arith, (run_best t ok).answer.valid.high k here, ok.rows.small k here)

  -- The text says the value,
  own_judged : judged (solution_text t own_value own_flow) ≡ Ok own_value
  unfolding judge onwards step_of solution_text front_run
  own_judged =
      let (ft, fh, fc) = ends_fit t ok in
      let rest = flow_lines t.tails t.heads own_flow in
      rw (lines_next value_front own_value rest refl value_fits, kind_value own_value value_fits) (judge_flows t.tails t.heads own_flow own_value 2 ft fh flow_fits)

  -- and the flows.
  own_amounts : amounts_of (lines (solution_text t own_value own_flow)) ≡ arc_amounts t.tails t.heads own_flow
  unfolding amounts_of amount_in solution_text front_run
  own_amounts =
      let (ft, fh, fc) = ends_fit t ok in
      let rest = flow_lines t.tails t.heads own_flow in
      rw (lines_next value_front own_value rest refl value_fits, kind_value own_value value_fits) (amounts_flows t.tails t.heads own_flow ft fh flow_fits)

  -- The marks of the lent row are those of the side,
  same_marks : (rest : List ℕ) (i : ℕ) → Node t.nodes i → marked (own_side ++ rest) i ≡ marked own_side i
  same_marks rest i v =
      let long : length own_side ≡ t.nodes = side_long in
      ap (λ (x : ℕ). eqb x 1) (node_at (own_side ++ rest) i v.0 ∙ get_or-append own_side rest 0 (i - 1) (omega (arith, v)) ∙ sym (node_at own_side i v.0))

  -- so its cut has the same capacity.
  same_leaving : (rest : List ℕ) → leaving (network_of t) (marked (own_side ++ rest)) (capacity t) ≡ leaving (network_of t) (marked own_side) (capacity t)
  unfolding leaving
  same_leaving rest =
      sum_ext (arcs t) _ _
      (λ k l.
      let v = ok.rows.ends.tail_node k (omega (arith, ok.rows.capacities_long)) in
      let w = ok.rows.ends.head_node k (omega (arith, ok.rows.capacities_long)) in
      ap₂ (λ (x y : Bool). only (x && not y) (capacity t k)) (same_marks rest (tail t k) v) (same_marks rest (head t k) w))

  -- The plan is full, also with marks that a longer lent row has.
  pub own_full : (rest : List ℕ) → Full t own_value (amounts_of (lines (solution_text t own_value own_flow))) (own_side ++ rest)
  own_full rest =
      let best = run_best t ok in
      let long = ok.rows.capacities_long in
      rw own_amounts
      (record {
        flow = at_place own_flow;
        valid = best.answer.valid;
        shared =
            λ a b.
            ap (λ (n : ℕ). sum n (λ k. only (is_pair a b (at_place t.tails k) (at_place t.heads k)) (at_place own_flow k))) long
            ∙ amounts_pairs t.tails t.heads own_flow a b ok.rows.ends.heads_long (flow_long ∙ long);
        net = best.net;
        cut =
            record {
              source = same_marks rest t.source ok.source ∙ best.answer.least.cut.source;
              sink = same_marks rest t.sink ok.sink ∙ best.answer.least.cut.sink;
            };
        least = same_leaving rest ∙ sym best.cut;
      })

-- CR 1's text of our own answer, with our side, always gets a yes: whatever stands behind the flows and the marks in the rows that solving filled.
pub own_yes : (b : BoundedTable) (fine : is_fine (plain_check b true) ≡ true) (ok : Accepted b.table) (flow side : List ℕ) (r : Checked)
    → Checks b (solution_text b.table (own_value b.table ok) (own_flow b.table ok ++ flow)) (own_side b.table ok ++ side) r → r ≡ checked_with 0 0 1
unfolding plan_verdict or_else lines_verdict
own_yes b fine ok flow side r c =
    let t = b.table in
    let text = solution_text t (own_value t ok) (own_flow t ok) in
    let marks = own_side t ok ++ side in
    let written : solution_text t (own_value t ok) (own_flow t ok ++ flow) ≡ text = text_front t (own_value t ok) (own_flow t ok) flow (flow_long t ok ∙ ok.rows.capacities_long) in
    let enough : t.nodes ≤ length marks = omega (arith, length-append (own_side t ok) side, side_long t ok) in
    let before = text_fine b (length text) (leb t.nodes (length marks)) (text_short t ok (own_value t ok) (own_flow t ok)) {found = plain_check b true} refl fine (le-leb t.nodes (length marks) enough) in
    let verdict : plan_verdict b text (length marks) ≡ no_refusal = rw (← before, own_judged t ok) refl in
    let checked : Checks b text marks r = subst (λ (bytes' : List ℕ). Checks b bytes' marks r) written c in
    let (is, flags) = answers_yes (plan_verdict b text (length marks)) (judged text) t text marks r (own_value t ok) verdict (own_judged t ok) checked in
    is ∙ ap (checked_with 0 0) (flags.told (own_full t ok side))
