-- Laws of reading by place for the server: the refusals before the arcs, and the library's own call.
use Prim.Native.Nat.{ℕ, zero, suc, ◌+◌, ◌*◌, ◌≤◌}
use mathlib.Core.Path.{◌≡◌, refl, sym, ap, ◌∙◌}
use mathlib.Core.Bool.{Bool, true, false}
use mathlib.Core.List.{List, [], ◌∷◌, ◌++◌}
use native.Mathlib.Omega.{arith}
use borrow.Author.Tests.{eq-eqb, ne_eqb, le-leb}
use lib.ListN.{length, take, drop, replicate, length-replicate}
use Rattle.rows.proofs.Rows.{length_places, zeros_taken}
use Rattle.table.specs.Table.{Table, arcs}
use Rattle.table.specs.Checks.{or_else, check_of, no_refusal, refused}
use Rattle.table.specs.Refusals.{number_of}
use Rattle.table.specs.declared.Name.{Name}
use Rattle.table.specs.declared.Name.TheVariants.{Room}
use Rattle.table.proofs.Numbers.{number_positive}
use Rattle.minimums.specs.Checks.{bounded_check, with_minimums, all_zero, plain}
use Rattle.minimums.proofs.Accepting.{plain_check_lem}
use Rattle.planner.specs.declared.Reading.{Reading}
use Rattle.planner.specs.Reading.{has_answer, reading_verdict, reading_as, reading}
use Rattle.little.specs.Little.{number32, bytes_of_all}
use Rattle.wire.specs.Rows.{without_minimums, flow_row, returned_of, has_byte_room}
use Rattle.wire.specs.Place.{Told, told, three, told_as, telling}
use Rattle.wire.proofs.Sizes.{sizes, sizes_first, room_next, roomy}

-- ---- minimums of 0

-- Zeros are all 0.
zeros_are : (m : ℕ) → all_zero (replicate m 0) ≡ true
unfolding all_zero
zeros_are zero = refl
zeros_are (suc m) = zeros_are m

-- There is a minimum for each arc, and all are 0.
pub no_minimums : (t : Table) → plain (without_minimums t) ≡ true
no_minimums t = rw (eq-eqb (length {A = ℕ} (replicate (arcs t) 0)) (arcs t) (length-replicate (arcs t) 0)) (zeros_are (arcs t))

-- As many of 4,096 zeros as a table has arcs are its minimums.
pub without_minimums_lem : (m : ℕ) (t : Table) → m ≤ 4096 → m ≡ arcs t → {u : Table} → u ≡ t → with_minimums u (take m (replicate 4096 0)) ≡ without_minimums t
without_minimums_lem m t few same e = rw (e, zeros_taken m 4096 few, same)

-- ---- a reading as bytes

module _ (r : Reading) (result : List ℕ) where
  -- Of a refusal.
  pub tells_refusal : (r.refusal ≡ 0 → ⊥) → {x : ℕ} → x ≡ returned_of r.refusal r.place → told x result ≡ told_as r result
  unfolding told_as
  tells_refusal some e = rw (ne_eqb r.refusal 0 some) (ap (λ (x : ℕ). told x result) e)

  -- Of what stands at the place.
  pub tells_reading : r.refusal ≡ 0 → {result' : List ℕ} → result' ≡ bytes_of_all 8 (three r) ++ drop 24 result → told 0 result' ≡ told_as r result
  unfolding told_as
  tells_reading none e = rw (eq-eqb r.refusal 0 none) (ap (told 0) e)

-- The three numbers, widened.
pub three_are : (r : Reading) (x y z : ℕ) → x ≡ r.flow → y ≡ r.capacity → z ≡ r.crossing → x ∷ y ∷ z ∷ [] ≡ three r
three_are r x y z p q e = rw (p, q, e)

-- ---- the call

module _ (t : Table) (stamp answer : ℕ) (flow side : List ℕ) (place : ℕ) (result : List ℕ) where
  -- Where the table's checks refuse, that is the answer.
  refuses : (name : Name) (at : ℕ) → check_of t (has_byte_room 24 t.nodes (arcs t) (length flow) (length side) (length result)) ≡ refused name at
      → {x : ℕ} → x ≡ returned_of (number_of name) at → told x result ≡ telling t stamp answer flow side place result
  unfolding telling reading_as told_as or_else
  refuses name at e f = rw (e, ne_eqb (number_of name) 0 (number_positive name)) (ap (λ (x : ℕ). told x result) f)

  -- A refusal of sizes,
  pub tells_sizes : (name : Name) (at : ℕ) → sizes t ≡ refused name at → {x : ℕ} → x ≡ returned_of (number_of name) at → told x result ≡ telling t stamp answer flow side place result
  tells_sizes name at e f = refuses name at (sizes_first t _ name at e) f

  -- and ROOM.
  pub tells_no_room : sizes t ≡ no_refusal → {m : ℕ} → m ≡ arcs t → {b : Bool} → b ≡ has_byte_room 24 t.nodes m (length flow) (length side) (length result) → b ≡ false
      → {x : ℕ} → x ≡ returned_of (number_of Room) 0 → told x result ≡ telling t stamp answer flow side place result
  tells_no_room e same is none f =
      refuses Room 0 (room_next t _ e (ap (λ (m : ℕ). has_byte_room 24 t.nodes m (length flow) (length side) (length result)) (sym same) ∙ sym is ∙ none)) f

  -- Where there is room, the library's own call says what is told.
  pub tells_own : {m : ℕ} → m ≡ arcs t → has_byte_room 24 t.nodes m (length flow) (length side) (length result) ≡ true
      → {r : Reading} → r ≡ reading (without_minimums t) stamp answer (flow_row m flow) side place → {x : Told} → x ≡ told_as r result → x ≡ telling t stamp answer flow side place result
  unfolding telling reading reading_verdict has_answer
  tells_own same room is e =
      e ∙ ap (λ (r : Reading). told_as r result) (is ∙ ap (λ (m : ℕ). reading (without_minimums t) stamp answer (flow_row m flow) side place) same)
      ∙ own_reading (ap (λ (m : ℕ). has_byte_room 24 t.nodes m (length flow) (length side) (length result)) (sym same) ∙ room)
    where
      own_reading : has_byte_room 24 t.nodes (arcs t) (length flow) (length side) (length result) ≡ true
          → told_as (reading (without_minimums t) stamp answer (flow_row (arcs t) flow) side place) result ≡ telling t stamp answer flow side place result
      own_reading room =
          let (_, marks, _) = roomy 24 t.nodes (arcs t) (length flow) (length side) (length result) room in
          let flows : length (flow_row (arcs t) flow) ≡ arcs t = length_places (λ k. number32 flow (4 * k + 0)) (arcs t) in
          let checks : bounded_check (without_minimums t) (has_answer t.nodes (arcs t) (length (flow_row (arcs t) flow)) (length side)) ≡ check_of t true =
          plain_check_lem (without_minimums t) _ (no_minimums t)
          ∙ ap (check_of t) (rw (flows, le-leb (arcs t) (arcs t) (omega arith), le-leb t.nodes (length side) marks)) in
          rw (room, checks)
