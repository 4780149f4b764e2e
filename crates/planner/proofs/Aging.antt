-- How old an answer is: after d rebuilds of the table it reads STALE at d, with the two stamps exchanged AHEAD at d, and both the other way round.
use Prim.Native.Nat.{ℕ, ◌^◌, ◌≤◌, ◌<◌}
use mathlib.Core.Path.{◌≡◌, refl, subst⁻¹}
use mathlib.Core.Bool.{Bool, true, false}
use native.Mathlib.Omega.{arith}
use lib.Dec.{leb}
use mathlib.Core.List.{List}
use lib.ListN.{length}
use Rattle.table.specs.Table.{arcs}
use Rattle.minimums.specs.BoundedTable.{BoundedTable}
use Rattle.minimums.specs.Checks.{bounded_check}
use Rattle.table.specs.Refusals.{number_of, refusal_in, place_in}
use Rattle.table.specs.Checks.{refuse_if, or_else, no_refusal}
use Rattle.table.specs.declared.Name.TheVariants.{Stale, Ahead, Place}
use Rattle.stamps.specs.Stamp.{behind, relation_at, relation_number, distance_in, rebuilt, Means}
use Rattle.stamps.specs.declared.Relation.{Relation}
use Rattle.stamps.specs.declared.Relation.TheVariants.{Same, Unordered}
use Rattle.stamps.specs.declared.Relation.TheVariants.{Stale as StaleBy, Ahead as AheadBy}
use Rattle.stamps.proofs.Rebuilds.{stale_after, ahead_after, compared_means}
use Rattle.planner.specs.declared.Reading.{Reading}
use Rattle.planner.specs.Reading.{refused_reading, read_at, stamp_verdict, place_verdict, has_answer, reading_verdict, reading_as, reading}

-- A relation's number is that of its refusal, and its distance the place.
pub stamp_number : (r : Relation) → (refusal_in (stamp_verdict r) ≡ relation_number r) × (place_in (stamp_verdict r) ≡ distance_in r)
stamp_number Same = (refl, refl)
stamp_number (StaleBy distance) = (refl, refl)
stamp_number Unordered = (refl, refl)
stamp_number (AheadBy distance) = (refl, refl)

module _
    (b : BoundedTable) (flow side : List ℕ) (place : ℕ)
    (fine : bounded_check b (has_answer b.table.nodes (arcs b.table) (length flow) (length side)) ≡ no_refusal) where
  module _ (d stamp : ℕ) (small : stamp < 2 ^ 32) (some : 1 ≤ d) (few : d < 2 ^ 31) where
    -- After d rebuilds of a table that no check refuses, an answer reads STALE at d.
    pub reads_stale : reading b (rebuilt d stamp) stamp flow side place ≡ refused_reading Stale d
    unfolding reading reading_as reading_verdict or_else
    reads_stale = rw (fine, stale_after d stamp small some few)

    -- With the two stamps exchanged it reads AHEAD at d.
    pub reads_ahead : reading b stamp (rebuilt d stamp) flow side place ≡ refused_reading Ahead d
    unfolding reading reading_as reading_verdict or_else
    reads_ahead = rw (fine, ahead_after d stamp small some few)

  -- What is told by one relation of the stamps.
  told_by : Relation → Reading
  told_by r = reading_as (or_else (stamp_verdict r) (place_verdict (arcs b.table) place)) (read_at b.table flow side place)

  -- It is what reading tells.
  told_is : (stamp answer : ℕ) → reading b stamp answer flow side place ≡ told_by (relation_at (behind stamp answer))
  unfolding reading reading_verdict or_else told_by
  told_is stamp answer = rw fine

  module _ (stamp answer : ℕ) (small : stamp < 2 ^ 32) (also : answer < 2 ^ 32) where
    -- The other way round: what reads STALE was rebuilt as often as its place says,
    pub stale_reads : (reading b stamp answer flow side place).refusal ≡ number_of Stale
        → Means stamp answer (StaleBy (reading b stamp answer flow side place).place)
    unfolding told_by reading_as or_else
    stale_reads e =
        subst⁻¹ (λ (x : Reading). x.refusal ≡ number_of Stale → Means stamp answer (StaleBy x.place)) (told_is stamp answer)
        (go (relation_at (behind stamp answer)) (compared_means stamp answer small also)) e
      where
        at_place_lem : (past : Bool) → (reading_as (refuse_if past Place place no_refusal) (read_at b.table flow side place)).refusal ≡ number_of Stale → ⊥
        at_place_lem true e = omega arith
        at_place_lem false e = omega arith

        go : (r : Relation) → Means stamp answer r → (told_by r).refusal ≡ number_of Stale
            → Means stamp answer (StaleBy (told_by r).place)
        go Same m e = absurd (at_place_lem (leb (arcs b.table) place) e)
        go (StaleBy d) m e = m
        go Unordered m e = absurd (omega arith)
        go (AheadBy d) m e = absurd (omega arith)

    -- and so is what reads AHEAD, with the two stamps exchanged.
    pub ahead_reads : (reading b stamp answer flow side place).refusal ≡ number_of Ahead
        → Means stamp answer (AheadBy (reading b stamp answer flow side place).place)
    unfolding told_by reading_as or_else
    ahead_reads e =
        subst⁻¹ (λ (x : Reading). x.refusal ≡ number_of Ahead → Means stamp answer (AheadBy x.place)) (told_is stamp answer)
        (go (relation_at (behind stamp answer)) (compared_means stamp answer small also)) e
      where
        at_place_lem : (past : Bool) → (reading_as (refuse_if past Place place no_refusal) (read_at b.table flow side place)).refusal ≡ number_of Ahead → ⊥
        at_place_lem true e = omega arith
        at_place_lem false e = omega arith

        go : (r : Relation) → Means stamp answer r → (told_by r).refusal ≡ number_of Ahead
            → Means stamp answer (AheadBy (told_by r).place)
        go Same m e = absurd (at_place_lem (leb (arcs b.table) place) e)
        go (StaleBy d) m e = absurd (omega arith)
        go Unordered m e = absurd (omega arith)
        go (AheadBy d) m e = m
