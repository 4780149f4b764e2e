-- Document 02, CR 3: show who sits where. What listing the chains and rings of a table answers, and what the lent rows hold afterwards.
use Rattle.std.specs.Prelude.{ℕ, ◌≤◌, ◌≡◌, cond, List, ◌++◌, ltb, length, take, drop, Ok, Err}
use Rattle.rows.specs.Row.{cleared}
use Rattle.table.specs.Table.{Table, arcs, network_of}
use Rattle.table.specs.Checks.{refuse_if, or_else, no_refusal, Verdict}
use Rattle.table.specs.declared.Name.{Name}
use Rattle.table.specs.declared.Name.TheVariants.{Room}
use Rattle.arcs.specs.Work.{work_need}
use Rattle.run.specs.Phase.{run}
use Rattle.minimums.specs.BoundedTable.{BoundedTable}
use Rattle.verdicts.specs.Plain.{plain_verdict}
use Rattle.solver.specs.declared.Answer.{Answer}
use Rattle.solver.specs.Solving.{Left, left, refusal, solved, Meets}
use Rattle.pieces.specs.Chains.{chains_of, numbers, list_of}
use Rattle.pieces.specs.Meaning.{Whole}
use Rattle.chains.specs.declared.Listed.{Listed}

-- What the call returns, and what the rows lent to it hold afterwards: as for solving; how many numbers of the list were filled; and the list's row.
pub record Shown : Type 0 where
  pub solving : Left
  pub filled : ℕ
  pub list : List ℕ

-- The same, from its parts.
abbrev pub shown : Left → ℕ → List ℕ → Shown
shown solving filled list = record { solving = solving; filled = filled; list = list }

-- The result of a refusal: solving's, and no number filled.
abbrev pub unlisted : Name → ℕ → Listed
unlisted name place = record { answer = refusal name place; filled = 0 }

-- The same, from what was returned and the four rows.
abbrev pub shown_by : Listed → (flow side work list : List ℕ) → Shown
shown_by r flow side work list = shown (left r.answer flow side work) r.filled list

-- The list of a table: the numbers of the chains and rings of the flow that its run ends with.
abbrev pub run_list : Table → List ℕ
run_list t = numbers (chains_of t (run t).state.flow)

-- ROOM, exactly when this list is longer than its row.
abbrev pub room_verdict : Table → (list : ℕ) → Verdict
room_verdict t list = refuse_if (ltb list (length (run_list t))) Room 0 no_refusal

-- The order: the refusals as for solving, BOUNDED, and last the list's ROOM.
unfoldable pub listing_verdict : BoundedTable → (flow side work list : ℕ) → Verdict
listing_verdict b flow side work list = or_else (plain_verdict b flow side work) (room_verdict b.table list)

-- A listed table: solving's rows as solving leaves them, and the list in the first places of its row, later places as they were. A refusal leaves every lent row unchanged.
unfoldable pub listing_as : Verdict → Table → (stamp : ℕ) → (flow side work list : List ℕ) → Shown
listing_as (Ok _) t stamp flow side work list =
    shown (solved t stamp flow side work) (length (run_list t)) (run_list t ++ drop (length (run_list t)) list)
listing_as (Err why) t stamp flow side work list = shown (left (refusal why.name why.place) flow side work) 0 list

-- Listing a table that the checks do not refuse: the list's ROOM decides.
abbrev pub listing_checked : Table → (stamp : ℕ) → (flow side work list : List ℕ) → Shown
listing_checked t stamp flow side work list = listing_as (room_verdict t (length list)) t stamp flow side work list

-- Listing the chains and rings of a table with its stamp, with these rows lent.
unfoldable pub listing : BoundedTable → (stamp : ℕ) → (flow side work list : List ℕ) → Shown
unfolding listing_verdict listing_as
listing b stamp flow side work list =
    listing_as (listing_verdict b (length flow) (length side) (length work) (length list)) b.table stamp flow side work list

-- What a listing that refuses nothing shows: demands 2 and 3; the numbers filled are those of the chains and rings of the flow in the flow row; the chains add up to the value, chains and rings to each arc's flow, and each is as it should be; their number is at most m.
pub record Shows (t : Table) (s : Shown) : Type 0 where
  pub meets : Meets t s.solving
  pub list_is : take s.filled s.list ≡ numbers (chains_of t (take (arcs t) s.solving.flow))
  pub whole : Whole (network_of t) (take (arcs t) s.solving.flow) s.solving.answer.value (chains_of t (take (arcs t) s.solving.flow))
  pub few : length (chains_of t (take (arcs t) s.solving.flow)) ≤ arcs t

-- ---- for the contract of a private function

-- What was solved in rows of the call's own is handed over with these numbers as its list, where that is not longer than its row; else ROOM, and the lent rows stay.
unfoldable pub handed_over : Answer → (n m : ℕ) (flows marks numbers flow side work list : List ℕ) → Shown
handed_over answer n m flows marks numbers flow side work list =
    cond (ltb (length list) (length numbers))
    (shown (left (refusal Room 0) flow side work) 0 list)
    (shown
    (left answer (take m flows ++ drop m flow) (take n marks ++ drop n side) (cleared (work_need n m) work))
    (length numbers) (numbers ++ drop (length numbers) list))

-- The same with the list of the flow among these arcs.
abbrev pub handed_with : Answer → (n s t : ℕ) (tails heads flows marks flow side work list : List ℕ) → Shown
handed_with answer n s t tails heads flows marks flow side work list =
    handed_over answer n (length tails) flows marks (list_of n s t tails heads (take (length tails) flows)) flow side work list
