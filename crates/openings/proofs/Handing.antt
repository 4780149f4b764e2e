-- What is handed over is what the call promises of an accepted table.
use Prim.Native.Nat.{ℕ}
use mathlib.Core.Path.{◌≡◌, refl, sym, ap, ◌∙◌}
use mathlib.Core.Bool.{Bool, true, false, not, cond}
use mathlib.Core.List.{List, ◌++◌}
use lib.ListN.{length, take, drop}
use Rattle.rows.specs.Row.{cleared}
use Rattle.table.specs.Table.{Table, arcs}
use Rattle.table.specs.Accepted.{Accepted}
use Rattle.table.specs.Checks.{refuse_if, no_refusal}
use Rattle.table.specs.declared.Name.TheVariants.{Room}
use Rattle.arcs.specs.Work.{work_need}
use Rattle.reach.specs.Side.{side_of, sink_side_of}
use Rattle.solver.specs.declared.Answer.{Answer}
use Rattle.solver.specs.Solving.{refusal, solution, solved}
use Rattle.listing.specs.Passing.{filled_with}
use Rattle.openings.specs.declared.Openings.{Openings}
use Rattle.openings.specs.Helping.{flow_of, source_nodes, sink_nodes, helping_places}
use Rattle.openings.specs.Finding.{left_openings, openings_with, has_lists, lists_verdict, found, finding_as, Listed, handed_lists, handed}
use Rattle.openings.proofs.Sides.{flow_long, side_long}

-- The first k numbers of a row, in front of the later places of another.
pub whole_front : (from row after : List ℕ) (k : ℕ) → length (take k from) ≡ k → after ≡ take k from ++ drop k row → after ≡ filled_with (take k from) row
whole_front from row after k long e = e ∙ rw long

-- Equal parts make equal answers and rows.
same_openings : {a b : Openings} {f g s u w x c d k l p q : List ℕ} → a ≡ b → f ≡ g → s ≡ u → w ≡ x → c ≡ d → k ≡ l → p ≡ q
    → left_openings a f s w c k p ≡ left_openings b g u x d l q
same_openings e1 e2 e3 e4 e5 e6 e7 = rw (e1, e2, e3, e4, e5, e6, e7)

module _ (sides ends helping : List ℕ) (need : ℕ) (answer : Answer) (flows marks flow side work sources sinks places : List ℕ) where
  -- A list is too short: ROOM, and nothing is written.
  pub handed_short : (r : Openings) → false ≡ has_lists sides ends helping (length sources) (length sinks) (length places)
      → r ≡ openings_with (refusal Room 0) 0 0 0
      → left_openings r flow side work sources sinks places ≡ handed_lists sides ends helping need answer flows marks flow side work sources sinks places
  unfolding handed_lists
  handed_short r short e = rw (← short, e)

  -- All lists are long enough.
  pub handed_full : (r : Openings) (flow_left side_left work_left sources_left sinks_left places_left : List ℕ)
      → true ≡ has_lists sides ends helping (length sources) (length sinks) (length places)
      → flow_left ≡ filled_with flows flow → side_left ≡ filled_with marks side → work_left ≡ cleared need work
      → Listed sides ends helping answer sources sinks places r sources_left sinks_left places_left
      → left_openings r flow_left side_left work_left sources_left sinks_left places_left
      ≡ handed_lists sides ends helping need answer flows marks flow side work sources sinks places
  unfolding handed_lists
  handed_full r flow_left side_left work_left sources_left sinks_left places_left room a b c known =
      rw (← room) (same_openings known.openings_are a b c known.sources_are known.sinks_are known.places_are)

-- What is handed over of an accepted table with both sides marked is what the call answers, once solving's checks refuse nothing.
pub handed_finding : (t : Table) → Accepted t → (stamp : ℕ) (answer : Answer) (flows marks drains flow side work sources sinks places : List ℕ)
    → answer ≡ solution t stamp → flows ≡ flow_of t → marks ≡ side_of t (flow_of t) → drains ≡ sink_side_of t (flow_of t)
    → handed t.nodes answer t.tails t.heads flows marks drains flow side work sources sinks places
    ≡ finding_as (lists_verdict t (length sources) (length sinks) (length places)) t stamp flow side work sources sinks places
unfolding handed_lists finding_as found solved
handed_finding t ok stamp answer flows marks drains flow side work sources sinks places e f g h =
    rw (e, f, g, h)
    (go (has_lists (source_nodes t) (sink_nodes t) (helping_places t) (length sources) (length sinks) (length places)))
  where
    tails_long : length t.tails ≡ arcs t
    tails_long = sym ok.rows.capacities_long

    go : (fits : Bool) →
        cond fits
        (left_openings (openings_with (solution t stamp) (length (source_nodes t)) (length (sink_nodes t)) (length (helping_places t)))
        (filled_with (flow_of t) flow) (filled_with (side_of t (flow_of t)) side) (cleared (work_need t.nodes (length t.tails)) work)
        (filled_with (source_nodes t) sources) (filled_with (sink_nodes t) sinks) (filled_with (helping_places t) places))
        (left_openings (openings_with (refusal Room 0) 0 0 0) flow side work sources sinks places)
        ≡ finding_as (refuse_if (not fits) Room 0 no_refusal) t stamp flow side work sources sinks places
    go true =
        same_openings refl (ap (λ (l : ℕ). flow_of t ++ drop l flow) (flow_long t ok)) (ap (λ (l : ℕ). side_of t (flow_of t) ++ drop l side) (side_long t ok (flow_of t)))
        (ap (λ (l : ℕ). cleared (work_need t.nodes l) work) tails_long) refl refl refl
    go false = refl
