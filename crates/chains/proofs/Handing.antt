-- From a table that was solved in rows of the call's own to what is handed over, and from there to the listed table.
use Prim.Native.Nat.{ℕ, ◌≤◌, ◌<◌}
use native.Mathlib.Omega.{arith}
use mathlib.Core.Path.{◌≡◌, refl, ap, sym, ◌∙◌}
use mathlib.Core.Bool.{Bool, true, false, cond}
use mathlib.Core.List.{List, ◌++◌}
use borrow.Author.Tests.{lt-ltb, le-ltb}
use lib.Dec.{ltb}
use lib.ListN.{length, take, drop}
use Rattle.rows.specs.Row.{cleared}
use Rattle.table.specs.Table.{Table, arcs}
use Rattle.table.specs.Accepted.{Accepted}
use Rattle.table.specs.declared.Name.TheVariants.{Room}
use Rattle.arcs.specs.Work.{work_need}
use Rattle.run.specs.Phase.{run}
use Rattle.solver.specs.declared.Answer.{Answer}
use Rattle.solver.specs.Solving.{Left, left, refusal, solved}
use Rattle.solver.proofs.Solved.{solved_flows, handed_over_lem}
use Rattle.pieces.specs.Chains.{list_of}
use Rattle.pieces.proofs.Lowest.{cond_true, cond_false}
use Rattle.chains.specs.declared.Listed.{Listed}
use Rattle.chains.specs.Listing.{unlisted, Shown, shown, shown_by, run_list, listing_as, listing_checked, handed_over}
use Rattle.table.specs.Checks.{no_refusal, refused}

module _ (answer : Answer) (n m : ℕ) (flows marks numbers flow side work list : List ℕ) (count : ℕ) (counted : count ≡ length numbers) where
  -- The list is longer than its row,
  pub too_long : length list < count → (r : Listed) → r ≡ unlisted Room 0
      → shown_by r flow side work list ≡ handed_over answer n m flows marks numbers flow side work list
  unfolding handed_over
  too_long l r e =
      ap (λ (x : Listed). shown_by x flow side work list) e
      ∙ sym (cond_true _ _ _ (lt-ltb (length list) (length numbers) (omega arith)))

  -- or is not.
  pub short_enough : count ≤ length list → (flow_left side_left work_left list_left : List ℕ) (filled : ℕ)
      → flow_left ≡ take m flows ++ drop m flow → side_left ≡ take n marks ++ drop n side → work_left ≡ cleared (work_need n m) work
      → filled ≡ length numbers → (filled ≤ length list → list_left ≡ numbers ++ drop filled list)
      → shown (left answer flow_left side_left work_left) filled list_left ≡ handed_over answer n m flows marks numbers flow side work list
  unfolding handed_over
  short_enough l flow_left side_left work_left list_left filled f g h c wrote =
      let all : list_left ≡ numbers ++ drop (length numbers) list = wrote (omega arith) ∙ ap (λ i. numbers ++ drop i list) c in
      rw (f, g, h, c, all) (sym (cond_false _ _ _ (le-ltb (length list) (length numbers) (omega arith))))

module _ (t : Table) (ok : Accepted t) where
  -- Where the table was solved in those rows, handing them over is listing the table.
  pub handed_listing : (stamp : ℕ) (flow side work list own_flow own_side own_work : List ℕ) (a : Answer) (flows marks works : List ℕ)
      → left a flows marks works ≡ solved t stamp own_flow own_side own_work → (m : ℕ) → m ≡ arcs t
      → (l : Shown) → l ≡ handed_over a t.nodes m flows marks (list_of t.nodes t.source t.sink t.tails t.heads (take m flows)) flow side work list
      → l ≡ listing_checked t stamp flow side work list
  unfolding handed_over listing_as solved
  handed_listing stamp flow side work list own_flow own_side own_work a flows marks works e m same l f =
      f ∙ rw (same, flows_are) (by_room (ltb (length list) (length (run_list t))))
    where
      flows_are : take (arcs t) flows ≡ (run t).state.flow
      flows_are = ap (λ (x : Left). take (arcs t) x.flow) e ∙ solved_flows t ok own_flow

      by_room : (b : Bool) →
          cond b (shown (left (refusal Room 0) flow side work) 0 list)
          (shown (left a ((run t).state.flow ++ drop (arcs t) flow) (take t.nodes marks ++ drop t.nodes side) (cleared (work_need t.nodes (arcs t)) work)) (length (run_list t)) (run_list t ++ drop (length (run_list t)) list))
          ≡ listing_as (cond b (refused Room 0) no_refusal) t stamp flow side work list
      by_room true = refl
      by_room false =
          ap (λ (x : Left). shown x (length (run_list t)) (run_list t ++ drop (length (run_list t)) list))
          (handed_over_lem t ok stamp flow side work own_flow own_side own_work a flows marks works _ _ _ e (ap (λ (x : List ℕ). x ++ drop (arcs t) flow) (sym flows_are)) refl refl)
