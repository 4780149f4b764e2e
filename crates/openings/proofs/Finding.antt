-- From the checks to the promise: solving's demands and document 02's theorem of a table that nothing refuses.
use Rattle.std.specs.Prelude.{Ok, Err}
use Prim.Native.Nat.{ℕ, suc}
use mathlib.Core.Path.{◌≡◌, refl, sym, ap, subst⁻¹, ◌∙◌}
use mathlib.Core.List.{List}
use native.Mathlib.Omega.{arith}
use lib.ListN.{length}
use Rattle.rows.specs.Row.{at_place}
use Rattle.table.specs.Table.{Table, arcs, network_of}
use Rattle.table.specs.Accepted.{Accepted}
use Rattle.table.specs.Checks.{is_fine, or_else, no_refusal, refused, Verdict}
use Rattle.table.specs.declared.Name.{Name}
use Rattle.table.proofs.Numbers.{number_positive}
use Rattle.minimums.specs.BoundedTable.{BoundedTable}
use Rattle.minimums.proofs.Accepting.{plain_accepts}
use Rattle.reach.specs.Side.{marked, side_of, sink_side_of}
use Rattle.reach.proofs.Turning.{sink_side_reached}
use Rattle.run.proofs.Networks.{accepted_sound, no_minimums}
use Rattle.run.proofs.Answers.{run_best}
use Rattle.solver.specs.Solving.{left, refusal, solution, solved, Meets}
use Rattle.solver.proofs.Solved.{Roomy, room_roomy, solved_meets}
use Rattle.listing.proofs.Ranking.{filled_lists}
use Rattle.raising.proofs.Raising.{raising_value, raising_never}
use Rattle.openings.specs.declared.Openings.{Openings}
use Rattle.openings.specs.Helping.{flow_of, source_nodes, sink_nodes, helps, helping_places, HelpsExactly}
use Rattle.openings.specs.Finding.{LeftOpenings, HoldsLists, left_openings, openings_with, lists_verdict, finding_verdict, found, finding_as, finding}
use Rattle.openings.proofs.Sides.{side_long, sinks_long}
use Rattle.verdicts.specs.Plain.{plain_verdict}

-- Document 02's theorem of every accepted table: raising an arc raises the value by one exactly where it is listed, and never elsewhere.
pub helps_exactly : (t : Table) → Accepted t → HelpsExactly t
helps_exactly t ok =
    let sound = accepted_sound t ok in
    let drains = sink_side_reached t sound (flow_of t) in
    let best = run_best t ok in
    record {
      one =
          raising_value (network_of t) sound (no_minimums t) (at_place (flow_of t)) (marked (side_of t (flow_of t))) best.answer best.reached
          (marked (sink_side_of t (flow_of t))) drains;
      never =
          raising_never (network_of t) sound (no_minimums t) (at_place (flow_of t)) (marked (side_of t (flow_of t))) best.answer best.reached
          (marked (sink_side_of t (flow_of t))) drains;
    }

-- The three lists of an accepted table.
found_lists : (t : Table) → Accepted t → (stamp : ℕ) (flow side work sources sinks places : List ℕ)
    → HoldsLists t (found t stamp flow side work sources sinks places)
unfolding found
found_lists t ok stamp flow side work sources sinks places =
    record {
      sources =
          filled_lists (marked (side_of t (flow_of t))) (suc t.nodes) (suc (length (side_of t (flow_of t)))) (length (source_nodes t))
          sources (ap suc (side_long t ok (flow_of t))) refl;
      sinks =
          filled_lists (marked (sink_side_of t (flow_of t))) (suc t.nodes) (suc (length (sink_side_of t (flow_of t)))) (length (sink_nodes t))
          sinks (ap suc (sinks_long t ok (flow_of t))) refl;
      places = filled_lists (helps t) (arcs t) (length t.tails) (length (helping_places t)) places (sym ok.rows.capacities_long) refl;
    }

-- Where two verdicts refuse nothing, the first does not.
first_fine : (a b : Verdict) → or_else a b ≡ no_refusal → a ≡ no_refusal
unfolding or_else
first_fine (Ok _) b e = refl
first_fine (Err why) b e = absurd (let z : ◌≡◌ {A = ℕ} 0 1 = cc in omega arith)

-- A solved table's answer and rows are those that it is made of.
solved_parts : (t : Table) (stamp : ℕ) (flow side work : List ℕ)
    → left (solution t stamp) (solved t stamp flow side work).flow (solved t stamp flow side work).side (solved t stamp flow side work).work
    ≡ solved t stamp flow side work
unfolding solved
solved_parts t stamp flow side work = refl

module _ (b : BoundedTable) (stamp : ℕ) (flow side work sources sinks places : List ℕ) where
  module _ (v : Verdict) (checked : v ≡ plain_verdict b (length flow) (length side) (length work)) where
    -- Where the table's checks refuse, the call gives that refusal and leaves the rows.
    pub refused_finding : (name : Name) (place : ℕ) → v ≡ refused name place → (r : Openings) → r ≡ openings_with (refusal name place) 0 0 0
        → left_openings r flow side work sources sinks places ≡ finding b stamp flow side work sources sinks places
    unfolding finding finding_as or_else
    refused_finding name place e r f = rw (← checked, e) (ap (λ (a : Openings). left_openings a flow side work sources sinks places) f)

    module _ (fine : v ≡ no_refusal) where
      -- Where they do not, the lists' room decides.
      pub fine_finding : (l : LeftOpenings) → l ≡ finding_as (lists_verdict b.table (length sources) (length sinks) (length places)) b.table stamp flow side work sources sinks places
          → l ≡ finding b stamp flow side work sources sinks places
      unfolding finding or_else
      fine_finding l f = rw (← checked, fine) f

      -- The table is accepted,
      pub fine_accepted : Accepted b.table
      fine_accepted = (plain_accepts b _ (ap is_fine (sym checked ∙ fine))).0

      -- and solving's rows have room.
      pub fine_roomy : Roomy b.table.nodes (arcs b.table) (length flow) (length side) (length work)
      fine_roomy = room_roomy _ _ _ _ _ (plain_accepts b _ (ap is_fine (sym checked ∙ fine))).1

  -- What refuses nothing meets solving's demands, and the places listed are those that help.
  pub finding_best : (l : LeftOpenings) → l ≡ finding b stamp flow side work sources sinks places → l.openings.answer.refusal ≡ 0
      → Meets b.table (left l.openings.answer l.flow l.side l.work) × HelpsExactly b.table
  unfolding finding finding_as found
  finding_best l same none = go (finding_verdict b (length flow) (length side) (length work) (length sources) (length sinks) (length places)) refl
    where
      by : Verdict → LeftOpenings
      by v = finding_as v b.table stamp flow side work sources sinks places

      go : (v : Verdict) → finding_verdict b (length flow) (length side) (length work) (length sources) (length sinks) (length places) ≡ v
          → Meets b.table (left l.openings.answer l.flow l.side l.work) × HelpsExactly b.table
      go (Ok _) e =
          let ok = fine_accepted no_refusal (sym (first_fine _ _ e)) refl in
          let parts = ap (λ (x : LeftOpenings). left x.openings.answer x.flow x.side x.work) (same ∙ ap by e) ∙ solved_parts b.table stamp flow side work in
          (subst⁻¹ (Meets b.table) parts (solved_meets b.table stamp flow side work ok), helps_exactly b.table ok)
      go (Err why) e = absurd (number_positive why.name (ap (λ (x : LeftOpenings). x.openings.answer.refusal) (sym (same ∙ ap by e)) ∙ none))

  -- Where nothing is refused, the three lists hold what they should, rising.
  pub finding_lists : (l : LeftOpenings) → l ≡ finding b stamp flow side work sources sinks places → l.openings.answer.refusal ≡ 0 → HoldsLists b.table l
  unfolding finding finding_as
  finding_lists l same none = go (finding_verdict b (length flow) (length side) (length work) (length sources) (length sinks) (length places)) refl
    where
      by : Verdict → LeftOpenings
      by v = finding_as v b.table stamp flow side work sources sinks places

      go : (v : Verdict) → finding_verdict b (length flow) (length side) (length work) (length sources) (length sinks) (length places) ≡ v
          → HoldsLists b.table l
      go (Ok _) e =
          subst⁻¹ (HoldsLists b.table) (same ∙ ap by e)
          (found_lists b.table (fine_accepted no_refusal (sym (first_fine _ _ e)) refl) stamp flow side work sources sinks places)
      go (Err why) e = absurd (number_positive why.name (ap (λ (x : LeftOpenings). x.openings.answer.refusal) (sym (same ∙ ap by e)) ∙ none))
