-- Laws of solving for the server: its refusals, the rows that it writes, and that the answer is the library's own.
use Rattle.std.specs.Prelude.{Ok, Err}
use Prim.Native.Nat.{ℕ, ◌*◌, ◌≤◌, ◌<◌}
use mathlib.Core.Path.{◌≡◌, refl, sym, ap, ◌∙◌}
use mathlib.Core.Bool.{Bool, true, false}
use mathlib.Core.List.{List, [], ◌∷◌, ◌++◌}
use native.Mathlib.Omega.{arith}
use borrow.Author.Tests.{eq-eqb, ne_eqb}
use lib.ListN.{length, take, drop}
use Rattle.little.specs.Little.{bytes_of_all}
use Rattle.table.specs.Table.{Table, arcs}
use Rattle.table.specs.Accepted.{Accepted}
use Rattle.table.specs.Checks.{is_fine, check_of, no_refusal, refused, Verdict}
use Rattle.table.specs.Refusals.{number_of}
use Rattle.table.specs.declared.Name.{Name}
use Rattle.table.specs.declared.Name.TheVariants.{Room}
use Rattle.table.proofs.Numbers.{number_positive}
use Rattle.table.proofs.Accepts.{check_accepts}
use Rattle.solver.specs.declared.Answer.{Answer}
use Rattle.solver.specs.Solving.{Left, left, has_room, answer_with, solved, solving_as, solving_verdict, solving}
use Rattle.solver.proofs.Solved.{solved_flows, solved_marks}
use Rattle.wire.specs.Rows.{returned_of, has_byte_room}
use Rattle.wire.specs.Solve.{Served, served, seven, served_as, serving_verdict, serving}
use Rattle.wire.proofs.Sizes.{sizes, sizes_first, room_next, roomy, short_result}

-- The seven numbers, two of them widened.
pub seven_are : (a : Answer) (x y : ℕ) → x ≡ a.stamp → y ≡ a.phases → x ∷ a.value ∷ a.scale ∷ y ∷ a.saturating ∷ a.nonsaturating ∷ a.relabels ∷ [] ≡ seven a
seven_are a x y p q = rw (p, q)

-- What a call that refuses nothing may rest on: an accepted table within the limits, and byte rows with room.
pub record Ready (t : Table) (flow side result : List ℕ) : Type 0 where
  pub accepted : Accepted t
  pub few_arcs : arcs t ≤ 4096
  pub few_nodes : t.nodes ≤ 512
  pub for_flow : 4 * arcs t ≤ length flow
  pub for_side : t.nodes ≤ length side
  pub for_result : 56 ≤ length result

-- It may.
pub ready : (t : Table) (flow side result : List ℕ) → serving_verdict t flow side result ≡ no_refusal → Ready t flow side result
ready t flow side result fine =
    let (ok, room) = check_accepts t _ (ap is_fine fine) in
    let (a, b, c) = roomy _ t.nodes (arcs t) (length flow) (length side) (length result) room in
    record {
      accepted = ok;
      few_arcs = omega (arith, ok.rows.ends.few_arcs, ok.rows.capacities_long);
      few_nodes = ok.rows.ends.few_nodes;
      for_flow = a;
      for_side = b;
      for_result = omega (arith, c);
    }

module _ (t : Table) (stamp : ℕ) (flow side result : List ℕ) where
  -- Where the checks refuse, that is the answer,
  pub serves_refusal : (name : Name) (place : ℕ) → serving_verdict t flow side result ≡ refused name place → {r : ℕ} → r ≡ returned_of (number_of name) place
      → served r flow side result ≡ serving t stamp flow side result
  unfolding serving solving_as served_as
  serves_refusal name place e f = rw (e, ne_eqb (number_of name) 0 (number_positive name)) (ap (λ (r : ℕ). served r flow side result) f)

  -- one of sizes first,
  pub serves_sizes : (name : Name) (place : ℕ) → sizes t ≡ refused name place → {r : ℕ} → r ≡ returned_of (number_of name) place
      → served r flow side result ≡ serving t stamp flow side result
  serves_sizes name place e f = serves_refusal name place (sizes_first t _ name place e) f

  -- and a result row shorter than 56 bytes is ROOM in its place.
  pub short_is_room : sizes t ≡ no_refusal → length result < 56 → serving t stamp flow side result ≡ served (returned_of 5 0) flow side result
  short_is_room e short = sym (serves_refusal Room 0 (room_next t _ e (short_result 56 t.nodes (arcs t) (length flow) (length side) (length result) short)) refl)

  -- Only the answer, m flows and n marks count.
  by_parts : (n m : ℕ) (l k : Left) → l.answer ≡ k.answer → take m l.flow ≡ take m k.flow → take n l.side ≡ take n k.side
      → served_as n m l flow side result ≡ served_as n m k flow side result
  unfolding served_as
  by_parts n m l k p q r = rw (p, q, r)

  -- An accepted table's answer, flows and marks are the same in any rows,
  same_solved : Accepted t → (flows marks work flows_too marks_too work_too : List ℕ)
      → served_as t.nodes (arcs t) (solved t stamp flows marks work) flow side result ≡ served_as t.nodes (arcs t) (solved t stamp flows_too marks_too work_too) flow side result
  unfolding solved
  same_solved ok flows marks work flows_too marks_too work_too =
      by_parts t.nodes (arcs t) (solved t stamp flows marks work) (solved t stamp flows_too marks_too work_too) refl
      (solved_flows t ok flows ∙ sym (solved_flows t ok flows_too)) (solved_marks t ok marks ∙ sym (solved_marks t ok marks_too))

  -- so what was solved in rows of the call's own and written as bytes is the answer.
  pub serves_solved : serving_verdict t flow side result ≡ no_refusal → (flows marks work : List ℕ)
      → {a : Answer} {f s w : List ℕ} → left a f s w ≡ solved t stamp flows marks work
      → {flow' side' result' : List ℕ} → flow' ≡ bytes_of_all 4 (take (arcs t) f) ++ drop (4 * arcs t) flow → side' ≡ take t.nodes s ++ drop t.nodes side
      → result' ≡ bytes_of_all 8 (seven a) ++ drop 56 result → served 0 flow' side' result' ≡ serving t stamp flow side result
  unfolding serving solving_as served_as solved answer_with
  serves_solved fine flows marks work {a} {f} {s} {w} same p q r =
      rw (p, q, r)
      (written (left a f s w) (ap (λ (l : Left). l.answer.refusal) same)
      ∙ ap (λ (l : Left). served_as t.nodes (arcs t) l flow side result) same
      ∙ same_solved (ready t flow side result fine).accepted flows marks work [] [] []
      ∙ rw fine)
    where
      written : (l : Left) → l.answer.refusal ≡ 0
          → served 0 (bytes_of_all 4 (take (arcs t) l.flow) ++ drop (4 * arcs t) flow) (take t.nodes l.side ++ drop t.nodes side) (bytes_of_all 8 (seven l.answer) ++ drop 56 result)
          ≡ served_as t.nodes (arcs t) l flow side result
      written l none = rw (eq-eqb l.answer.refusal 0 none)

  -- The library's own call answers the same, in any rows that have room.
  pub own_rows : (flows marks work : List ℕ) → has_room t.nodes (arcs t) (length flows) (length marks) (length work) ≡ true
      → has_byte_room 56 t.nodes (arcs t) (length flow) (length side) (length result) ≡ true
      → serving t stamp flow side result ≡ served_as t.nodes (arcs t) (solving t stamp flows marks work) flow side result
  unfolding serving solving solving_as served_as
  own_rows flows marks work enough room =
      let theirs : serving_verdict t flow side result ≡ check_of t true = ap (check_of t) room in
      let ours : solving_verdict t (length flows) (length marks) (length work) ≡ check_of t true = ap (check_of t) enough in
      rw (theirs, ours) (go (check_of t true) refl)
    where
      go : (v : Verdict) → v ≡ check_of t true
          → served_as t.nodes (arcs t) (solving_as v t stamp [] [] []) flow side result ≡ served_as t.nodes (arcs t) (solving_as v t stamp flows marks work) flow side result
      go (Ok _) e = same_solved (check_accepts t true (ap is_fine (sym e))).0 [] [] [] flows marks work
      go (Err why) e = rw (ne_eqb (number_of why.name) 0 (number_positive why.name))
