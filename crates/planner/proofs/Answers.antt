-- From the parts of an answer to what solving a table of four rows promises.
use Prim.Native.Nat.{ℕ, ◌≤◌}
use mathlib.Core.Path.{◌≡◌, refl, sym, ap, ap₂, subst, ◌∙◌}
use mathlib.Core.Bool.{Bool, true, false, ◌&&◌}
use mathlib.Core.List.{List}
use borrow.Author.Tests.{eq-eqb}
use lib.Dec.{eqb}
use lib.IntN.{ℤ}
use mir.Syntax.{w64}
use mir.Val.{to_z, of_z}
use lib.ListN.{length}
use Rattle.std.specs.Prelude.{Option, Some, None}
use Rattle.rows.specs.Row.{cleared}
use Rattle.table.specs.Table.{Table, arcs}
use Rattle.table.specs.Checks.{is_fine, no_refusal, refused, Verdict}
use Rattle.table.specs.Accepted.{Accepted}
use Rattle.table.specs.declared.Name.{Name}
use Rattle.table.specs.declared.Name.TheVariants.{Impossible}
use Rattle.run.specs.Phase.{run, value}
use Rattle.run.proofs.Answers.{run_value}
use Rattle.arcs.specs.Work.{work_need}
use Rattle.solver.specs.Solving.{Left, left, has_room, refusal, solving_verdict, solved, answer_with}
use Rattle.solver.specs.declared.Answer.{Answer}
use Rattle.solver.proofs.Solved.{room_roomy, refused_solving, fine_solving}
use Rattle.minimums.specs.BoundedTable.{BoundedTable}
use Rattle.bounded.specs.Solving.{Solvable, Leaves}
use Rattle.bounded.proofs.Signed.{reads, reads_back}
use Rattle.planner.specs.Solving.{SignedLeft, signed_left, with_sign, left_with_sign, signed_answer, signed_refusal, Bounding, impossible, found, BoundingAs, bounded_verdict, FineAs, SolvesAs, Solves}
use Rattle.minimums.specs.Checks.{all_zero, plain}
use Rattle.planner.specs.declared.Signed.{Signed}
use Rattle.minimums.proofs.Faults.{bounded_accepts}
use Rattle.minimums.proofs.Accepting.{plain_check_lem}

-- ---- document 01's value fits

-- So is the value of a solved table.
pub solved_value : (t : Table) → Accepted t → (stamp : ℕ) (flow side work : List ℕ) → (solved t stamp flow side work).answer.value ≤ 4096000000
unfolding solved answer_with
solved_value t ok stamp flow side work = run_value t ok

-- An answer of document 01 with another value.
abbrev valued : Answer → ℤ → Signed
valued a z =
    record {
      refusal = a.refusal;
      place = a.place;
      stamp = a.stamp;
      value = z;
      scale = a.scale;
      phases = a.phases;
      saturating = a.saturating;
      nonsaturating = a.nonsaturating;
      relabels = a.relabels;
    }

-- A value that fits is the same with a sign.
pub with_sign_is : (a : Answer) → a.value ≤ 4096000000 → valued a (to_z w64 a.value) ≡ with_sign a
with_sign_is a h = ap (valued a) (reads a.value h)

-- ---- the cases of a bounded table

module _ (b : BoundedTable) (stamp : ℕ) (flow side work : List ℕ) where
  -- No flow keeps all arcs between their numbers.
  pub bounding_none : {flow' side' : List ℕ} {r : Signed} {a : Option ℤ} → Leaves b flow side a flow' side' → a ≡ None
      → r ≡ signed_refusal Impossible 0 → Bounding b stamp flow side work (signed_left r flow' side' work)
  bounding_none {flow'} {side'} {r} {a} left is e =
      let (no_flow, same) = subst (λ x. Leaves b flow side x flow' side') is left in
      subst (Bounding b stamp flow side work)
      (sym (ap₂ (λ f s. signed_left r f s work) same.0 same.1 ∙ ap (λ x. signed_left x flow side work) e))
      (impossible no_flow)

  -- One of greatest value was found: the value as it is read back from its 64 bits.
  pub bounding_found : {flow' side' work' : List ℕ} {r : Signed} {a : Option ℤ} {v : ℤ} → Leaves b flow side a flow' side' → a ≡ Some v
      → r ≡ signed_answer 0 0 stamp (to_z w64 (of_z w64 v)) → work' ≡ cleared (work_need b.table.nodes (arcs b.table)) work
      → Bounding b stamp flow side work (signed_left r flow' side' work')
  bounding_found {flow'} {side'} {work'} {r} {a} {v} left is e w =
      let (holds, best) = subst (λ x. Leaves b flow side x flow' side') is left in
      subst (Bounding b stamp flow side work) (sym (ap₂ (λ x y. signed_left x flow' side' y) (e ∙ ap (signed_answer 0 0 stamp) (reads_back v best.range)) w))
      (found v flow' side' holds best)

  -- No check refuses the table: all minimums are 0,
  pub fine_plain : (l : SignedLeft) {z : Bool} → z ≡ true → z ≡ all_zero b.minimums → l ≡ left_with_sign (solved b.table stamp flow side work)
      → FineAs (all_zero b.minimums) b stamp flow side work l
  fine_plain l e is so = subst (λ z. FineAs z b stamp flow side work l) (sym e ∙ is) so

  -- or not all.
  pub fine_bounded : (l : SignedLeft) {z : Bool} → z ≡ false → z ≡ all_zero b.minimums → Bounding b stamp flow side work l
      → FineAs (all_zero b.minimums) b stamp flow side work l
  fine_bounded l e is so = subst (λ z. FineAs z b stamp flow side work l) (sym e ∙ is) so

  -- What the checks find.
  module _ {v : Verdict} (is : v ≡ bounded_verdict b (length flow) (length side) (length work)) where
    -- Where all minimums are 0 it is what document 01's solving finds.
    as_plain : plain b ≡ true → v ≡ solving_verdict b.table (length flow) (length side) (length work)
    as_plain e = is ∙ plain_check_lem b (has_room b.table.nodes (arcs b.table) (length flow) (length side) (length work)) e

    -- The checks refuse,
    pub solves_refused : {name : Name} {place : ℕ} {r : Signed} → v ≡ refused name place → r ≡ signed_refusal name place
        → Solves b stamp flow side work (signed_left r flow side work)
    solves_refused {name} {place} {r} e f = by (plain b) refl
      where
        by : (p : Bool) → p ≡ plain b → SolvesAs p b stamp flow side work (signed_left r flow side work)
        by true q =
            ap (λ x. signed_left x flow side work) f
            ∙ ap left_with_sign (refused_solving b.table stamp flow side work v (as_plain (sym q)) name place e (refusal name place) refl)
        by false q = subst (λ x. BoundingAs x b stamp flow side work (signed_left r flow side work)) (sym e ∙ is) (ap (λ x. signed_left x flow side work) f)

    -- or they don't:
    module _ (e : v ≡ no_refusal) where
      -- then the table is accepted, and the rows have room.
      pub fine_solvable : Solvable b flow side × (work_need b.table.nodes (arcs b.table) ≤ length work)
      fine_solvable =
          let (accepted, room) = bounded_accepts b (has_room b.table.nodes (arcs b.table) (length flow) (length side) (length work)) (ap is_fine (sym is ∙ e)) in
          let roomy = room_roomy b.table.nodes (arcs b.table) (length flow) (length side) (length work) room in (
            record { accepted = accepted; flow_long = roomy.for_flow; side_long = roomy.for_side },
            roomy.for_work,
          )

      -- and whether all minimums are 0 decides.
      pub solves_fine : (l : SignedLeft) → FineAs (all_zero b.minimums) b stamp flow side work l → Solves b stamp flow side work l
      solves_fine l so =
          by (plain b) refl
          (subst (λ p. FineAs p b stamp flow side work l)
          (sym (ap (λ x. x && all_zero b.minimums) (eq-eqb (length b.minimums) (arcs b.table) fine_solvable.0.accepted.rows.minimums_long))) so)
        where
          by : (p : Bool) → p ≡ plain b → FineAs p b stamp flow side work l → SolvesAs p b stamp flow side work l
          by true q f = f ∙ ap left_with_sign (fine_solving b.table stamp flow side work v (as_plain (sym q)) e (solved b.table stamp flow side work) refl)
          by false q f = subst (λ x. BoundingAs x b stamp flow side work l) (sym e ∙ is) f

-- Document 01's answer with its value signed.
pub signed_same : {a : Answer} {r : Signed} {f s w : List ℕ} {l : Left} → r ≡ with_sign a → left a f s w ≡ l → signed_left r f s w ≡ left_with_sign l
signed_same {a} {r} {f} {s} {w} {l} e is = ap (λ x. signed_left x f s w) e ∙ ap left_with_sign is
