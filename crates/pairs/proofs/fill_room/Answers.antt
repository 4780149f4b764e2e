-- `fill_room` meets its contract: each place holds the capacities of the arcs so far whose pair has it.
use Prim.Native.Nat.{ℕ, suc, ◌<◌, ◌≤◌}
use mathlib.Core.Path.{◌≡◌, refl, sym, ap, ◌∙◌}
use native.Mathlib.Numerals.{add-one}
use native.Mathlib.Omega.{arith}
use lib.Dec.{eqb}
use lib.ListN.{length, length-set}
use Rattle.rows.specs.Row.{at_place}
use Rattle.rows.specs.Sum.{sum, only}
use Rattle.sharing.specs.Full.{is_pair}
use Rattle.pairs.specs.Places.{first_to, counted}
use Rattle.pairs.proofs.Room.{place_within, own_place, held_more, held_most, held_all}
use Rattle.pairs.proofs.fill_room.Goals.{in-Some, in_default}
use Rattle.pairs.proofs.fill_room.Goals as goal

pub loop-place-init : goal.loop-place-init
unfolding sum
loop-place-init c = (refl, c.requires.arc_rows.2)

pub offset_bounds-room-at : goal.offset_bounds-room-at
offset_bounds-room-at c =
    let here : ℕ = c.loop-place.place in
    let found : suc c.in-Some.at ≡ first_to (at_place c.args.tails.now) (at_place c.args.heads.now) (length c.args.tails.now) (at_place c.args.tails.now here) (at_place c.args.heads.now here) = ap counted (sym c.in-Some.is) ∙ c.find_pair.ensures (first_to (at_place c.args.tails.now) (at_place c.args.heads.now) (length c.args.tails.now)) c.requires.places in
    let bound : c.in-Some.at < length c.loop-place.room = omega (arith, found, place_within c.requires.places (at_place c.args.tails.now here) (at_place c.args.heads.now here), c.requires.arc_rows.0.ends.heads_long, c.requires.arc_rows.1, c.loop-place.invariant.0) in
    omega (arith, bound)

pub bounds-room-at : goal.bounds-room-at
bounds-room-at c =
    let here : ℕ = c.loop-place.place in
    let found : suc c.in-Some.at ≡ first_to (at_place c.args.tails.now) (at_place c.args.heads.now) (length c.args.tails.now) (at_place c.args.tails.now here) (at_place c.args.heads.now here) = ap counted (sym c.in-Some.is) ∙ c.find_pair.ensures (first_to (at_place c.args.tails.now) (at_place c.args.heads.now) (length c.args.tails.now)) c.requires.places in
    let bound : c.in-Some.at < length c.loop-place.room = omega (arith, found, place_within c.requires.places (at_place c.args.tails.now here) (at_place c.args.heads.now here), c.requires.arc_rows.0.ends.heads_long, c.requires.arc_rows.1, c.loop-place.invariant.0) in
    bound

pub overflow_add-room : goal.overflow_add-room
overflow_add-room c =
    let a = c.args in
    omega (
      arith,
      c.loop-place.invariant.1 c.in-Some.at,
      held_most (length a.tails.now) (at_place a.tails.now) (at_place a.heads.now) (at_place a.capacities.now) (λ k h. c.requires.arc_rows.0.small k (omega (arith, c.requires.arc_rows.0.capacities_long))) c.loop-place.place (suc c.in-Some.at) (omega (arith, c.requires.arc_rows.0.capacities_long)),
      c.requires.arc_rows.0.small c.loop-place.place c.loop-place-test.true,
      c.requires.arc_rows.0.capacities_long,
      c.requires.arc_rows.0.ends.few_arcs,
    )

pub bounds-room-at-in-Some : goal.bounds-room-at-in-Some
bounds-room-at-in-Some c =
    let here : ℕ = c.loop-place.place in
    let found : suc c.in-Some.at ≡ first_to (at_place c.args.tails.now) (at_place c.args.heads.now) (length c.args.tails.now) (at_place c.args.tails.now here) (at_place c.args.heads.now here) = ap counted (sym c.in-Some.is) ∙ c.find_pair.ensures (first_to (at_place c.args.tails.now) (at_place c.args.heads.now) (length c.args.tails.now)) c.requires.places in
    let bound : c.in-Some.at < length c.loop-place.room = omega (arith, found, place_within c.requires.places (at_place c.args.tails.now here) (at_place c.args.heads.now here), c.requires.arc_rows.0.ends.heads_long, c.requires.arc_rows.1, c.loop-place.invariant.0) in
    bound

pub loop-place-preserved : goal.loop-place-preserved
loop-place-preserved c =
    let a = c.args in
    let here : ℕ = c.loop-place.place in
    let found : counted c.find_pair.result ≡ first_to (at_place c.args.tails.now) (at_place c.args.heads.now) (length c.args.tails.now) (at_place c.args.tails.now here) (at_place c.args.heads.now here) = c.find_pair.ensures (first_to (at_place c.args.tails.now) (at_place c.args.heads.now) (length c.args.tails.now)) c.requires.places in
    let some : 1 ≤ counted c.find_pair.result = omega (arith, found, own_place (length c.args.tails.now) (at_place c.args.tails.now) (at_place c.args.heads.now) (at_place c.args.capacities.now) here (omega (arith, c.requires.arc_rows.0.capacities_long))) in
    elim c.match-find_pair.branch [
      | in-Some w ↦
          let at : suc w.in-Some.at ≡ counted c.find_pair.result = ap counted (sym w.in-Some.is) in
          let bound : w.in-Some.at < length c.loop-place.room = omega (arith, at, found, place_within c.requires.places (at_place c.args.tails.now here) (at_place c.args.heads.now here), c.requires.arc_rows.0.ends.heads_long, c.requires.arc_rows.1, c.loop-place.invariant.0) in
          rw w.room-is (
            simp length-set c.loop-place.invariant.0,
            rw add-one (held_more (length a.tails.now) (at_place a.tails.now) (at_place a.heads.now) (at_place a.capacities.now) c.loop-place.room c.loop-place.place w.in-Some.at c.loop-place.invariant.1 (omega (arith, at, found)) bound),
          )
      | in_default w ↦ absurd (omega (arith, some, ap counted w.in_default.is))
    ]

pub returns : goal.returns
returns c =
    let a = c.args in
    let all : c.loop-place.place ≡ length a.tails.now = omega (arith, c.requires.arc_rows.0.capacities_long) in
    λ x y.
    held_all (length a.tails.now) (at_place a.tails.now) (at_place a.heads.now) (at_place a.capacities.now) c.loop-place.room
    (λ p. c.loop-place.invariant.1 p ∙ ap (λ (k : ℕ). sum k (λ j. only (eqb (first_to (at_place a.tails.now) (at_place a.heads.now) (length a.tails.now) (at_place a.tails.now j) (at_place a.heads.now j)) (suc p)) (at_place a.capacities.now j))) all)
    x y
    ∙ ap (λ (k : ℕ). sum k (λ j. only (is_pair x y (at_place a.tails.now j) (at_place a.heads.now j)) (at_place a.capacities.now j))) (sym c.requires.arc_rows.0.capacities_long)
