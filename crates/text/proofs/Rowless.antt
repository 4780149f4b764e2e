-- Reading a text never gives ROWS, number 2: its lines are refused as LINE or COUNT, and its arcs give rows of one length.
use Rattle.std.specs.Prelude.{Option, Some, None, Ok, Err}
use Rattle.std.specs.Option.{is_some}
use Prim.Native.Nat.{ℕ, suc}
use mathlib.Core.Path.{◌≡◌}
use mathlib.Core.Bool.{Bool, true, false, cond, not, ◌&&◌}
use mathlib.Core.List.{List, [], ◌∷◌}
use native.Mathlib.Omega.{arith}
use lib.Dec.{eqb, ltb}
use lib.ListN.{length}
use Rattle.table.specs.declared.Name.TheVariants.{Long}
use Rattle.table.specs.Refusals.{number_of}
use Rattle.minimums.proofs.Rowless.{Rowless, records_rowless}
use Rattle.scan.specs.Parts.{lines}
use Rattle.text.specs.declared.Kind.{Kind}
use Rattle.text.specs.declared.Kind.TheVariants.{Comment, Problem, Source, Sink, ArcLine, Other}
use Rattle.text.specs.declared.Progress.{Progress}
use Rattle.text.specs.declared.Header.{Header}
use Rattle.text.specs.Lines.{Given, Step, kind_of, problem_step, source_step, sink_step, arc_step, arc_behind, header_of, step_of, end_step, end_behind, onwards, judge, fresh, arcs_of}
use Rattle.text.specs.Reading.{has_arc_room, table_verdict, given_as, after_judging, given_by, values_of}
use Rattle.table.specs.Checks.{refusal_at, Verdict}

-- The number of the refusal that a line's step gives, 0 where it goes on,
abbrev step_in : Step → ℕ
step_in (Ok p) = 0
step_in (Err name) = number_of name

-- and the number of the fault that judging finds, 0 where it finds none.
abbrev fault_in : Given → ℕ
fault_in (Ok h) = 0
fault_in (Err why) = number_of why.name

-- One of two steps.
step_either : (b : Bool) (x y : Step) → (step_in x ≡ 2 → ⊥) → (step_in y ≡ 2 → ⊥) → step_in (cond b x y) ≡ 2 → ⊥
step_either true x y f g = f
step_either false x y f g = g

-- One of two findings.
fault_either : (b : Bool) (x y : Given) → (fault_in x ≡ 2 → ⊥) → (fault_in y ≡ 2 → ⊥) → fault_in (cond b x y) ≡ 2 → ⊥
fault_either true x y f g = f
fault_either false x y f g = g

-- What an `a` line does is not ROWS,
arc_rowless : (p : Progress) (h : Option Header) → step_in (arc_behind p h) ≡ 2 → ⊥
unfolding arc_behind
arc_rowless p None = λ h. omega arith
arc_rowless p (Some h) = step_either (ltb p.arcs h.arcs) _ _ (λ h. omega arith) (λ h. omega arith)

-- nor what any line does,
step_rowless : (p : Progress) (k : Kind) → step_in (step_of p k) ≡ 2 → ⊥
unfolding step_of problem_step source_step sink_step arc_step
step_rowless p Comment = λ h. omega arith
step_rowless p (Problem n m) = step_either (not (is_some p.sizes)) _ _ (λ h. omega arith) (λ h. omega arith)
step_rowless p (Source id) = step_either (is_some p.sizes && not (is_some p.source)) _ _ (λ h. omega arith) (λ h. omega arith)
step_rowless p (Sink id) = step_either (is_some p.sizes && not (is_some p.sink)) _ _ (λ h. omega arith) (λ h. omega arith)
step_rowless p (ArcLine arc) = arc_rowless p (header_of p)
step_rowless p Other = λ h. omega arith

-- nor what the end does,
end_rowless : (arcs : ℕ) (h : Option Header) (place : ℕ) → fault_in (end_behind arcs h place) ≡ 2 → ⊥
unfolding end_behind
end_rowless arcs None place = λ h. omega arith
end_rowless arcs (Some h) place = fault_either (eqb arcs h.arcs) _ _ (λ h. omega arith) (λ h. omega arith)

-- nor a line with the others behind it,
onwards_rowless : (s : Step) (place : ℕ) (rest : Progress → ℕ → Given) → (step_in s ≡ 2 → ⊥) → ((p : Progress) (at : ℕ) → fault_in (rest p at) ≡ 2 → ⊥)
    → fault_in (onwards s place rest) ≡ 2 → ⊥
unfolding onwards
onwards_rowless (Ok p) place rest f g = g p (suc place)
onwards_rowless (Err name) place rest f g = f

-- so judging is not.
judge_rowless : (ls : List (List ℕ)) (p : Progress) (place : ℕ) → fault_in (judge ls p place) ≡ 2 → ⊥
unfolding judge end_step
judge_rowless [] p place = end_rowless p.arcs (header_of p) place
judge_rowless (line ∷ rest) p place = onwards_rowless (step_of p (kind_of line)) place (judge rest) (step_rowless p (kind_of line)) (judge_rowless rest)

-- What reading returns by the table's verdict.
given_rowless : (v : Verdict) (h : Header) → Rowless v → (values_of (given_as v h)).refusal ≡ 2 → ⊥
unfolding given_as values_of
given_rowless (Ok _) p other e = omega arith
given_rowless (Err why) p other e = other e

-- What reading returns after the lines were judged.
judged_rowless : (ls : List (List ℕ)) (j : Given) (tails heads capacities minimums : ℕ) → (fault_in j ≡ 2 → ⊥) → (values_of (after_judging ls j tails heads capacities minimums)).refusal ≡ 2 → ⊥
unfolding after_judging table_verdict values_of
judged_rowless ls (Ok h) tails heads capacities minimums other =
    given_rowless (table_verdict ls h tails heads capacities minimums) h (records_rowless h.nodes h.source h.sink (arcs_of ls) (has_arc_room h.arcs tails heads capacities minimums))
judged_rowless ls (Err why) tails heads capacities minimums other = other

-- A text is never refused as ROWS.
pub text_never_rows : (text : List ℕ) (tails heads capacities minimums : ℕ) → (values_of (given_by text tails heads capacities minimums)).refusal ≡ 2 → ⊥
unfolding given_by values_of
text_never_rows text tails heads capacities minimums =
    by (ltb 1048576 (length text)) (judged_rowless (lines text) (judge (lines text) fresh 1) tails heads capacities minimums (judge_rowless (lines text) fresh 1))
  where
    by : (long : Bool) → ((values_of (after_judging (lines text) (judge (lines text) fresh 1) tails heads capacities minimums)).refusal ≡ 2 → ⊥)
        → (values_of (cond long (Err (refusal_at Long 0)) (after_judging (lines text) (judge (lines text) fresh 1) tails heads capacities minimums))).refusal ≡ 2 → ⊥
    by true rest e = omega arith
    by false rest e = rest e
