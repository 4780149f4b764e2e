-- `take_pair` meets its contract: what is left of the pair tells.
use Prim.Native.Nat.{ℕ, suc, ◌<◌}
use mathlib.Core.Path.{◌≡◌, refl, sym, ◌∙◌, ap}
use native.Mathlib.Omega.{arith}
use lib.ListN.{length}
use Rattle.pairs.specs.Places.{Places, counted}
use Rattle.pairs.proofs.Room.{place_within, took_none, took_little, took_one}
use Rattle.pairs.proofs.take_pair.Goals as goal

pub returns-in_default : goal.returns-in_default
returns-in_default c =
    let a = c.args in
    λ place p. took_none place a.room.now a.x (sym (c.find_pair.ensures place p) ∙ ap counted c.in_default.is) _ refl

pub offset_bounds-room-at : goal.offset_bounds-room-at
offset_bounds-room-at c =
    let found : (place : ℕ → ℕ → ℕ) → Places c.args.n c.args.heads.now c.args.first.now c.args.next.now place → place c.args.x.tail c.args.x.head ≡ suc c.in-Some.at = λ place p. sym (ap counted (sym c.in-Some.is) ∙ c.find_pair.ensures place p) in
    let bound : c.in-Some.at < length c.args.room.now = let (place, p) = c.requires.0 in omega (arith, found place p, place_within p c.args.x.tail c.args.x.head, c.requires.1) in
    omega (arith, bound)

pub offset_bounds-room-at-2 : goal.offset_bounds-room-at-2
offset_bounds-room-at-2 c =
    let found : (place : ℕ → ℕ → ℕ) → Places c.args.n c.args.heads.now c.args.first.now c.args.next.now place → place c.args.x.tail c.args.x.head ≡ suc c.in-Some.at = λ place p. sym (ap counted (sym c.in-Some.is) ∙ c.find_pair.ensures place p) in
    let bound : c.in-Some.at < length c.args.room.now = let (place, p) = c.requires.0 in omega (arith, found place p, place_within p c.args.x.tail c.args.x.head, c.requires.1) in
    omega (arith, bound)

pub bounds-room-at : goal.bounds-room-at
bounds-room-at c =
    let found : (place : ℕ → ℕ → ℕ) → Places c.args.n c.args.heads.now c.args.first.now c.args.next.now place → place c.args.x.tail c.args.x.head ≡ suc c.in-Some.at = λ place p. sym (ap counted (sym c.in-Some.is) ∙ c.find_pair.ensures place p) in
    let bound : c.in-Some.at < length c.args.room.now = let (place, p) = c.requires.0 in omega (arith, found place p, place_within p c.args.x.tail c.args.x.head, c.requires.1) in
    bound

pub bounds-room-at-2 : goal.bounds-room-at-2
bounds-room-at-2 c =
    let found : (place : ℕ → ℕ → ℕ) → Places c.args.n c.args.heads.now c.args.first.now c.args.next.now place → place c.args.x.tail c.args.x.head ≡ suc c.in-Some.at = λ place p. sym (ap counted (sym c.in-Some.is) ∙ c.find_pair.ensures place p) in
    let bound : c.in-Some.at < length c.args.room.now = let (place, p) = c.requires.0 in omega (arith, found place p, place_within p c.args.x.tail c.args.x.head, c.requires.1) in
    bound

pub bounds-room-at-3 : goal.bounds-room-at-3
bounds-room-at-3 c =
    let found : (place : ℕ → ℕ → ℕ) → Places c.args.n c.args.heads.now c.args.first.now c.args.next.now place → place c.args.x.tail c.args.x.head ≡ suc c.in-Some.at = λ place p. sym (ap counted (sym c.in-Some.is) ∙ c.find_pair.ensures place p) in
    let bound : c.in-Some.at < length c.args.room.now = let (place, p) = c.requires.0 in omega (arith, found place p, place_within p c.args.x.tail c.args.x.head, c.requires.1) in
    bound

pub returns-then-room-at : goal.returns-then-room-at
returns-then-room-at c =
    let found : (place : ℕ → ℕ → ℕ) → Places c.args.n c.args.heads.now c.args.first.now c.args.next.now place → place c.args.x.tail c.args.x.head ≡ suc c.in-Some.at = λ place p. sym (ap counted (sym c.in-Some.is) ∙ c.find_pair.ensures place p) in
    let a = c.args in
    λ place p. took_little place a.room.now a.x c.in-Some.at (found place p) c.if-room-at.true a.room.now

pub returns : goal.returns
returns c =
    let found : (place : ℕ → ℕ → ℕ) → Places c.args.n c.args.heads.now c.args.first.now c.args.next.now place → place c.args.x.tail c.args.x.head ≡ suc c.in-Some.at = λ place p. sym (ap counted (sym c.in-Some.is) ∙ c.find_pair.ensures place p) in
    let bound : c.in-Some.at < length c.args.room.now = let (place, p) = c.requires.0 in omega (arith, found place p, place_within p c.args.x.tail c.args.x.head, c.requires.1) in
    let a = c.args in
    λ place p. took_one place a.room.now a.x p.apart c.in-Some.at (found place p) bound c.if-room-at.false
