-- A text whose lines give a table has as many arcs as its p line says, and so have its rows.
use Prim.Native.Nat.{ℕ, suc, ◌+◌}
use mathlib.Core.Path.{◌≡◌, refl, sym, ◌∙◌}
use mathlib.Core.Bool.{Bool, true, false, cond, not, ◌&&◌}
use mathlib.Core.List.{List, [], ◌∷◌}
use native.Mathlib.Nat.{add-zero}
use native.Mathlib.Omega.{arith}
use lib.Dec.{ltb, eqb}
use lib.ListN.{length, length-append, length-map}
use borrow.Author.Tests.{eqb-true}
use Rattle.table.specs.declared.Name.{Name}
use Rattle.table.specs.declared.Name.TheVariants.{Line, Count}
use Rattle.scan.specs.Parts.{lines}
use Rattle.text.specs.declared.Kind.{Kind}
use Rattle.text.specs.declared.Kind.TheVariants.{Comment, Problem, Source, Sink, ArcLine, Other}
use Rattle.text.specs.declared.Progress.{Progress}
use Rattle.text.specs.declared.Header.{Header}
use Rattle.table.specs.Checks.{refusal_at, sizes_of}
use Rattle.minimums.specs.declared.Arc.{Arc}
use Rattle.minimums.specs.BoundedTable.{tails_of, heads_of, capacities_of, minimums_of}
use Rattle.minimums.specs.Checks.{bounded_sizes}
use Rattle.minimums.proofs.Faults.{sizes_three}
use Rattle.std.specs.Prelude.{Option, Some, None, Ok, Err}
use Rattle.std.specs.Option.{is_some}
use Rattle.text.specs.Lines.{Step, kind_of, fresh, problem_step, source_step, sink_step, arc_step, arc_behind, header_of, step_of, end_step, end_behind, onwards, judge, arc_in, arcs_of}

-- A line that goes on behind a test leaves as many arcs as it says.
tested : (b : Bool) (name : Name) (r q : Progress) → cond b (Ok r) (Err name) ≡ Ok q → q.arcs ≡ r.arcs
tested true name r q e = cc
tested false name r q e = cc

-- So does one that goes on behind what the p line and both n lines say.
tested_header : (p q : Progress) (h : Option Header) → arc_behind p h ≡ Ok q → q.arcs ≡ p.arcs + 1
unfolding arc_behind
tested_header p q None e = cc
tested_header p q (Some h) e = tested (ltb p.arcs h.arcs) Count _ q e

-- A line that goes on raises the number of arcs by those that it has.
step_arcs : (p : Progress) (kind : Kind) (q : Progress) → step_of p kind ≡ Ok q → q.arcs ≡ p.arcs + length (arc_in kind)
unfolding step_of arc_in problem_step source_step sink_step arc_step
step_arcs p Comment q e = tested true Line p q e ∙ sym (add-zero _)
step_arcs p (Problem n m) q e = tested (not (is_some p.sizes)) Line _ q e ∙ sym (add-zero _)
step_arcs p (Source id) q e = tested (is_some p.sizes && not (is_some p.source)) Line _ q e ∙ sym (add-zero _)
step_arcs p (Sink id) q e = tested (is_some p.sizes && not (is_some p.sink)) Line _ q e ∙ sym (add-zero _)
step_arcs p (ArcLine arc) q e = tested_header p q (header_of p) e
step_arcs p Other q e = cc

-- The end of lines that give a table stands behind m arcs.
ended : (b : Bool) (arcs : ℕ) (h k : Header) (place : ℕ) → (b ≡ true → arcs ≡ h.arcs) → cond b (Ok h) (Err (refusal_at Count place)) ≡ Ok k → arcs ≡ k.arcs
ended true arcs h k place all e = let same = all refl in cc
ended false arcs h k place all e = cc

-- So it does behind what the p line and both n lines say.
ended_header : (arcs : ℕ) (h : Option Header) (k : Header) (place : ℕ) → end_behind arcs h place ≡ Ok k → arcs ≡ k.arcs
unfolding end_behind
ended_header arcs None k place e = cc
ended_header arcs (Some h) k place e = ended (eqb arcs h.arcs) arcs h k place (eqb-true arcs h.arcs) e

-- A line with its arc, and the lines behind it, come to m arcs.
counts_more : (line : List ℕ) (rest : List (List ℕ)) (p : Progress) (q : Header) (place : ℕ) (s : Step) → step_of p (kind_of line) ≡ s
    → ((r : Progress) (k : ℕ) → judge rest r k ≡ Ok q → r.arcs + length (arcs_of rest) ≡ q.arcs)
    → onwards s place (judge rest) ≡ Ok q → p.arcs + length (arcs_of (line ∷ rest)) ≡ q.arcs
unfolding onwards arcs_of
counts_more line rest p q place (Ok r) e more f =
    let one = step_arcs p (kind_of line) r e in
    let others = more r (suc place) f in
    rw length-append (omega arith)
counts_more line rest p q place (Err name) e more f = cc

-- The arcs before lines that give a table, and those of the lines, are m.
judge_counts : (ls : List (List ℕ)) (p : Progress) (q : Header) (place : ℕ) → judge ls p place ≡ Ok q → p.arcs + length (arcs_of ls) ≡ q.arcs
unfolding judge end_step arcs_of
judge_counts [] p q place e =
    add-zero _ ∙ ended_header p.arcs (header_of p) q place e
judge_counts (line ∷ rest) p q place e = counts_more line rest p q place (step_of p (kind_of line)) refl (λ r k. judge_counts rest r q k) e

-- A text whose lines give a table has m arcs.
pub accepted_count : (text : List ℕ) (q : Header) → judge (lines text) fresh 1 ≡ Ok q → length (arcs_of (lines text)) ≡ q.arcs
accepted_count text q e = omega (arith, judge_counts (lines text) fresh q 1 e)

-- The sizes that m says of a table with m arcs are those of its four rows.
pub sizes_of_arcs : (h : Header) (arcs : List Arc) → length arcs ≡ h.arcs
    → sizes_of h.nodes h.arcs h.arcs h.arcs h.source h.sink
    ≡ bounded_sizes h.nodes (length (tails_of arcs)) (length (heads_of arcs)) (length (capacities_of arcs)) (length (minimums_of arcs)) h.source h.sink
sizes_of_arcs h arcs count =
    rw (length-map arcs (λ a. a.tail), length-map arcs (λ a. a.head), length-map arcs (λ a. a.capacity), length-map arcs (λ a. a.minimum), count)
    (sizes_three h.nodes h.arcs h.arcs h.arcs h.arcs h.source h.sink refl)
