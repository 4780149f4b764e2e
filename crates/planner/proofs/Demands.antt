-- Demands 2 and 3 of what solving a table of four rows leaves.
use Rattle.std.specs.Prelude.{Ok, Err}
use Prim.Native.Nat.{ℕ}
use mathlib.Core.Path.{◌≡◌, refl, sym, ap, subst, subst₂, ◌∙◌}
use mathlib.Core.Bool.{Bool, true, false, false≢true}
use mathlib.Core.List.{List}
use lib.IntN.{pos}
use lib.ListN.{length}
use Rattle.table.specs.Accepted.{Accepted}
use Rattle.table.specs.declared.Name.TheVariants.{Impossible}
use Rattle.table.proofs.Numbers.{number_positive}
use Rattle.run.specs.Phase.{run, value}
use Rattle.run.proofs.Whole.{run_bounded}
use Rattle.solver.specs.Solving.{refusal, answer_with, solving_verdict, solved}
use Rattle.solver.proofs.Solved.{refused_solving, fine_solving, fine_accepted, solved_flows, solved_marks}
use Rattle.minimums.specs.BoundedTable.{BoundedTable}
use Rattle.minimums.specs.Checks.{plain}
use Rattle.bounded.specs.Bounded.{GreatestBounded}
use Rattle.planner.specs.Solving.{SignedLeft, left_with_sign, Bounding, impossible, found, BoundingAs, bounded_verdict, SolvesAs, Solves, SolvesWell}
use Rattle.planner.proofs.Plain.{plain_greatest}
use Rattle.table.specs.Checks.{no_refusal, refused, Verdict}

module _ (b : BoundedTable) (stamp : ℕ) (flow side work : List ℕ) where
  -- A solved table without minimums meets them,
  solved_well : plain b ≡ true → Accepted b.table → SolvesWell b (left_with_sign (solved b.table stamp flow side work))
  unfolding solved answer_with
  solved_well all ok =
      record {
        greatest = rw (solved_flows b.table ok flow, solved_marks b.table ok side) (plain_greatest b ok all);
        bounded = λ _. run_bounded b.table ok;
      }

  -- by what its checks find;
  plain_well : (l : SignedLeft) → plain b ≡ true → SolvesAs true b stamp flow side work l → l.answer.refusal ≡ 0 → SolvesWell b l
  plain_well l all same none = by (solving_verdict b.table (length flow) (length side) (length work)) refl
    where
      by : (v : Verdict) → v ≡ solving_verdict b.table (length flow) (length side) (length work) → SolvesWell b l
      by (Ok _) e =
          subst (SolvesWell b) (ap left_with_sign (fine_solving b.table stamp flow side work no_refusal e refl (solved b.table stamp flow side work) refl) ∙ sym same)
          (solved_well all (fine_accepted b.table stamp flow side work no_refusal e refl))
      by (Err why) e =
          absurd
          (number_positive why.name
          (ap (λ (x : SignedLeft). x.answer.refusal)
          (ap left_with_sign (refused_solving b.table stamp flow side work (refused why.name why.place) e why.name why.place refl (refusal why.name why.place) refl) ∙ sym same)
          ∙ none))

  -- so does one with a minimum above 0.
  bounding_well : plain b ≡ false → (l : SignedLeft) → Bounding b stamp flow side work l → l.answer.refusal ≡ 0 → SolvesWell b l
  bounding_well some l (impossible p) none = absurd (number_positive Impossible none)
  bounding_well some l (found value flow' side' holds best) none = record { greatest = best; bounded = λ all. absurd (false≢true (sym some ∙ all)) }

  some_well : plain b ≡ false → (v : Verdict) (l : SignedLeft) → BoundingAs v b stamp flow side work l → l.answer.refusal ≡ 0 → SolvesWell b l
  some_well some (Ok _) l so none = bounding_well some l so none
  some_well some (Err why) l so none = absurd (number_positive why.name (ap (λ (x : SignedLeft). x.answer.refusal) (sym so) ∙ none))

  -- What refuses nothing meets them.
  pub solves_well : (l : SignedLeft) → Solves b stamp flow side work l → l.answer.refusal ≡ 0 → SolvesWell b l
  solves_well l so none = by (plain b) refl so
    where
      by : (p : Bool) → p ≡ plain b → SolvesAs p b stamp flow side work l → SolvesWell b l
      by true q x = plain_well l (sym q) x none
      by false q x = some_well (sym q) (bounded_verdict b (length flow) (length side) (length work)) l x none
