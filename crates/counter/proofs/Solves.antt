-- Solving takes each table that passes the checks, in the rows that the desk lends: it is solved, or no flow keeps all arcs between their numbers.
use Rattle.std.specs.Prelude.{Ok, Err}
use Prim.Native.Nat.{ℕ, ◌≤◌}
use mathlib.Core.Path.{◌≡◌, refl, sym, ap, subst, ◌∙◌}
use mathlib.Core.Bool.{Bool, true, false, cond}
use mathlib.Core.List.{List}
use native.Mathlib.Omega.{arith}
use lib.Dec.{eqb}
use lib.ListN.{length, length-replicate, replicate}
use borrow.Author.Tests.{le-leb, eqb-true, eqb-false}
use Rattle.rows.proofs.Sums.{by_test}
use Rattle.table.specs.declared.Name.TheVariants.{Impossible as ImpossibleName}
use Rattle.table.specs.Table.{arcs}
use Rattle.table.specs.Checks.{is_fine, no_refusal, refused, Verdict}
use Rattle.minimums.specs.BoundedTable.{BoundedTable, AcceptedBounded}
use Rattle.minimums.specs.Checks.{plain}
use Rattle.minimums.proofs.Accepting.{plain_check_lem}
use Rattle.minimums.proofs.Faults.{bounded_accepts}
use Rattle.arcs.specs.Work.{work_need}
use Rattle.feasible.specs.Flows.{NoFlow}
use Rattle.solver.specs.Solving.{has_room, answer_with, solved, solving_verdict, solving}
use Rattle.solver.proofs.Solved.{fine_solving}
use Rattle.pen.specs.Wrote.{Wrote}
use Rattle.report.specs.Printed.{refused_text}
use Rattle.planner.specs.Solving.{SignedLeft, left_with_sign, Bounding, impossible, found, BoundingAs, bounded_verdict, SolvesAs, Solves}
use Rattle.counter.specs.Desk.{zeros, left_text, text_by, Printed, Passes}
use Rattle.counter.specs.Desk.{solved as of_solved, impossible as of_none}

-- The one verdict that is fine.
fine_is : (v : Verdict) → is_fine v ≡ true → v ≡ no_refusal
fine_is (Ok _) e = refl
fine_is (Err why) e = cc

module _ (b : BoundedTable) (ok : Passes b) where
  -- It is accepted,
  pub accepted : AcceptedBounded b
  accepted = (bounded_accepts b true ok).0

  -- has at most 512 nodes,
  pub few_nodes : b.table.nodes ≤ 512
  few_nodes = accepted.rows.arcs.ends.few_nodes

  -- and at most 4,096 arcs.
  pub few_arcs : arcs b.table ≤ 4096
  few_arcs = omega (arith, accepted.rows.arcs.ends.few_arcs, accepted.rows.arcs.capacities_long)

  -- In rows as long as the desk's.
  module _ (flow side work : List ℕ) (flow_long : length flow ≡ 4096) (side_long : length side ≡ 512) (work_long : length work ≡ 10241) where
    -- There is room,
    room : has_room b.table.nodes (arcs b.table) (length flow) (length side) (length work) ≡ true
    unfolding has_room
    room =
        rw (le-leb (arcs b.table) (length flow) (omega (arith, few_arcs)), le-leb b.table.nodes (length side) (omega (arith, few_nodes)))
        (le-leb (work_need b.table.nodes (arcs b.table)) (length work) (omega (arith, few_arcs, few_nodes)))

    -- so no check refuses it,
    passes : bounded_verdict b (length flow) (length side) (length work) ≡ no_refusal
    passes = fine_is (bounded_verdict b (length flow) (length side) (length work)) (rw room ok)

    -- and where all minimums are 0 it is solved.
    pub is_solved : plain b ≡ true → solving b.table 0 flow side work ≡ solved b.table 0 flow side work
    is_solved all =
        let fine : no_refusal ≡ solving_verdict b.table (length flow) (length side) (length work)
        = sym (sym (plain_check_lem b (has_room b.table.nodes (arcs b.table) (length flow) (length side) (length work)) all) ∙ passes) in
        sym (fine_solving b.table 0 flow side work no_refusal fine refl (solved b.table 0 flow side work) refl)

    -- What was solved refuses nothing.
    solved_fine : (solved b.table 0 flow side work).answer.refusal ≡ 0
    unfolding solved answer_with
    solved_fine = refl

    -- So a refusal says that no flow keeps all arcs between their numbers.
    pub refused_none : (l : SignedLeft) → Solves b 0 flow side work l → (l.answer.refusal ≡ 0 → ⊥) → NoFlow b
    refused_none l so refused = by (plain b) refl so
      where
        bounding : {k : SignedLeft} → (k.answer.refusal ≡ 0 → ⊥) → Bounding b 0 flow side work k → NoFlow b
        bounding r (impossible none) = none
        bounding r (found value flow' side' holds best) = absurd (r refl)

        by : (p : Bool) → p ≡ plain b → SolvesAs p b 0 flow side work l → NoFlow b
        by true q x = absurd (refused (ap (λ (k : SignedLeft). k.answer.refusal) (x ∙ ap left_with_sign (is_solved (sym q))) ∙ solved_fine))
        by false q x = bounding refused (subst (λ v. BoundingAs v b 0 flow side work l) passes x)

-- What was printed of it may be.
pub prints_left : (b : BoundedTable) → Passes b → (l : SignedLeft) → Solves b 0 (replicate 4096 0) (replicate 512 0) (replicate 10241 0) l
    → {row row' : List ℕ} {behind : ℕ} → Wrote row 0 (text_by l.answer.refusal (left_text b.table.nodes (arcs b.table) l)) row' behind → Printed b row row' behind
unfolding zeros
prints_left b ok l so {row} {row'} {behind} wrote =
    by_test (eqb l.answer.refusal 0)
    (λ e.
    record {
      printed = left_text b.table.nodes (arcs b.table) l;
      may = of_solved l so (eqb-true l.answer.refusal 0 e);
      wrote = subst (λ z. Wrote row 0 (cond z (left_text b.table.nodes (arcs b.table) l) (refused_text ImpossibleName 0)) row' behind) e wrote;
    })
    (λ e.
    record {
      printed = refused_text ImpossibleName 0;
      may = of_none (refused_none b ok (replicate 4096 0) (replicate 512 0) (replicate 10241 0) (length-replicate {A = ℕ} 4096 0) (length-replicate {A = ℕ} 512 0) (length-replicate {A = ℕ} 10241 0) l so (eqb-false l.answer.refusal 0 e));
      wrote = subst (λ z. Wrote row 0 (cond z (left_text b.table.nodes (arcs b.table) l) (refused_text ImpossibleName 0)) row' behind) e wrote;
    })
