-- From the checks to what listing promises, and what holds of a listed table.
use Rattle.std.specs.Prelude.{Ok, Err}
use Prim.Native.Nat.{ℕ, ◌+◌, ◌*◌, ◌≤◌}
use native.Mathlib.Omega.{arith}
use mathlib.Core.Path.{◌≡◌, refl, ap, sym, subst, ◌∙◌}
use mathlib.Core.Bool.{Bool, true, false, cond}
use mathlib.Core.List.{List, ◌++◌}
use borrow.Author.Tests.{le-ltb}
use lib.Dec.{ltb}
use lib.ListN.{length, drop}
use lib.Seq.{take_at}
use Rattle.table.specs.Table.{Table, arcs}
use Rattle.table.specs.Accepted.{Accepted}
use Rattle.table.specs.Checks.{is_fine, refuse_if, or_else, no_refusal, refused, Verdict}
use Rattle.table.specs.declared.Name.{Name}
use Rattle.table.specs.declared.Name.TheVariants.{Room}
use Rattle.table.proofs.Numbers.{number_positive}
use Rattle.minimums.specs.BoundedTable.{BoundedTable}
use Rattle.minimums.proofs.Accepting.{plain_fine, plain_accepts}
use Rattle.solver.specs.declared.Answer.{Answer}
use Rattle.solver.specs.Solving.{left, refusal, answer_with, solved, solving}
use Rattle.solver.proofs.Solved.{Roomy, room_roomy, fine_solving, solved_flows, solved_meets}
use Rattle.pieces.proofs.Whole.{run_chains, run_few, run_short}
use Rattle.chains.specs.declared.Listed.{Listed}
use Rattle.chains.specs.Listing.{unlisted, Shown, shown, shown_by, run_list, room_verdict, listing_verdict, listing_as, listing_checked, listing, Shows}
use Rattle.verdicts.specs.Plain.{plain_verdict}

module _ (b : BoundedTable) (stamp : ℕ) (flow side work list : List ℕ) (v : Verdict) (found : v ≡ plain_verdict b (length flow) (length side) (length work)) where
  -- Where the first checks refuse, listing gives that refusal and leaves the rows.
  pub refused_listing : (name : Name) (place : ℕ) → v ≡ refused name place → (r : Listed) → r ≡ unlisted name place
      → shown_by r flow side work list ≡ listing b stamp flow side work list
  unfolding listing listing_verdict listing_as or_else
  refused_listing name place e r f = rw (← found, e) (ap (λ (x : Listed). shown_by x flow side work list) f)

  -- Where they do not, the list's ROOM decides;
  pub fine_listing : v ≡ no_refusal → (l : Shown) → l ≡ listing_checked b.table stamp flow side work list
      → l ≡ listing b stamp flow side work list
  unfolding listing listing_verdict or_else
  fine_listing e l f = rw (← found, e) f

  -- the table is accepted,
  pub fine_accepted : v ≡ no_refusal → Accepted b.table
  fine_accepted e = (plain_accepts b _ (ap is_fine (sym found ∙ e))).0

  -- and solving's rows have room.
  pub fine_roomy : v ≡ no_refusal → Roomy b.table.nodes (arcs b.table) (length flow) (length side) (length work)
  fine_roomy e = room_roomy _ _ _ _ _ (plain_accepts b _ (ap is_fine (sym found ∙ e))).1

-- ---- what holds of a listed table

-- Demands 2 and 3, and document 02's promises of the list.
listed_shows : (t : Table) (stamp : ℕ) (flow side work list : List ℕ) → Accepted t → Shows t (listing_as no_refusal t stamp flow side work list)
unfolding listing_as solved answer_with
listed_shows t stamp flow side work list ok =
    let flow_is = solved_flows t ok flow in
    record {
      meets = solved_meets t stamp flow side work ok;
      list_is = rw flow_is (take_at (run_list t) (drop (length (run_list t)) list) (length (run_list t)) refl);
      whole = rw flow_is (run_chains t ok);
      few = rw flow_is (run_few t ok);
    }

module _ (b : BoundedTable) (stamp : ℕ) (flow side work list : List ℕ) (l : Shown) (same : l ≡ listing b stamp flow side work list) (none : l.solving.answer.refusal ≡ 0) where
  -- What refuses nothing has passed the checks, and the table is listed.
  passed : (plain_verdict b (length flow) (length side) (length work) ≡ no_refusal) × (l ≡ listing_as no_refusal b.table stamp flow side work list)
  unfolding listing listing_verdict listing_as or_else
  passed =
      let (fine, e) = go (plain_verdict b (length flow) (length side) (length work)) (ltb (length list) (length (run_list b.table))) (sym (ap (λ (x : Shown). x.solving.answer.refusal) same) ∙ none) in
      (fine, same ∙ e)
    where
      go : (v : Verdict) (long : Bool)
          → (listing_as (or_else v (cond long (refused Room 0) no_refusal)) b.table stamp flow side work list).solving.answer.refusal ≡ 0
          → (v ≡ no_refusal) × (listing_as (or_else v (cond long (refused Room 0) no_refusal)) b.table stamp flow side work list ≡ listing_as no_refusal b.table stamp flow side work list)
      go (Err why) long zero_number = absurd (number_positive why.name zero_number)
      go (Ok _) true zero_number = absurd (number_positive Room zero_number)
      go (Ok _) false zero_number = (refl, refl)

  -- It shows who sits where,
  pub listing_shows : Shows b.table l
  listing_shows =
      subst (Shows b.table) (sym passed.1)
      (listed_shows b.table stamp flow side work list (fine_accepted b stamp flow side work list _ refl passed.0))

  -- with solving's own result and rows.
  pub listing_solves : l.solving ≡ solving b.table stamp flow side work
  unfolding listing_as
  listing_solves =
      fine_solving b.table stamp flow side work no_refusal (sym (plain_fine b _ (ap is_fine passed.0))) refl _
      (ap (λ (x : Shown). x.solving) passed.1)

-- A row of m (3 + n) numbers has room for every list.
pub room_enough : (t : Table) → Accepted t → (list : ℕ) → arcs t * (3 + t.nodes) ≤ list → room_verdict t list ≡ no_refusal
room_enough t ok list room =
    ap (λ (b : Bool). refuse_if b Room 0 no_refusal) (le-ltb list (length (run_list t)) (omega (arith, run_short t ok)))
