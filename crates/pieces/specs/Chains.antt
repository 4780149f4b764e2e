-- Document 02, CR 3: chains from source to sink and rings of a flow, as lists of places. All of it computes.
use Rattle.std.specs.Prelude.{ℕ, zero, suc, ◌-◌, min, Bool, cond, ◌&&◌, List, [], ◌∷◌, ◌++◌, length, set, drop, eqb, ltb}
use Rattle.rows.specs.Row.{at_place}
use Rattle.table.specs.Table.{Table}

-- ---- the lowest place

-- The lowest of so many numbers from `at` on that passes; where none does, the number after them.
unfoldable pub lowest : (passes : ℕ → Bool) (more at : ℕ) → ℕ
lowest passes zero at = at
lowest passes (suc more) at = cond (passes at) at (lowest passes more (suc at))

-- The place k has flow left.
abbrev pub has_left : (left : List ℕ) (k : ℕ) → Bool
has_left left k = ltb 0 (at_place left k)

-- The place k leaves node i and has flow left.
abbrev pub leads_on : (tails left : List ℕ) (i k : ℕ) → Bool
leads_on tails left i k = eqb (at_place tails k) i && has_left left k

-- The lowest place with flow left; the number of places where none has.
unfoldable pub remaining : (tails left : List ℕ) → ℕ
unfolding lowest
remaining tails left = lowest (has_left left) (length tails) 0

-- The lowest place with flow left that leaves node i; the number of places where none does.
unfoldable pub onward : (tails left : List ℕ) (i : ℕ) → ℕ
unfolding lowest
onward tails left i = lowest (leads_on tails left i) (length tails) 0

-- How many places were walked when the walk left node j; all of them where j is not on the walk.
unfoldable pub standing : (tails walked : List ℕ) (j : ℕ) → ℕ
unfolding lowest
standing tails walked j = lowest (λ q. eqb (at_place tails (at_place walked q)) j) (length walked) 0

-- ---- the walk

-- What a walk found: 1 for a chain or 2 for a ring, and its places as walked (0 and no places: it found neither, which never is).
pub record Found : Type 0 where
  pub kind : ℕ
  pub places : List ℕ

-- The same, from its parts.
abbrev pub found : (kind : ℕ) (places : List ℕ) → Found
found kind places = record { kind = kind; places = places }

-- The walk came to node j: the sink ends a chain, a node already on the walk closes a ring from that node on, and else it goes on.
unfoldable pub arrive : (tails : List ℕ) (sink : ℕ) (walked : List ℕ) (j : ℕ) (goes_on : Found) → Found
unfolding standing
arrive tails sink walked j goes_on =
    cond (eqb j sink) (found 1 walked)
    (cond (ltb (standing tails walked j) (length walked)) (found 2 (drop (standing tails walked j) walked)) goes_on)

-- The walk, in so many steps at most, from node i on with these places behind it: it always follows the lowest place with flow left.
unfoldable pub walk : (tails heads : List ℕ) (sink : ℕ) (left : List ℕ) (steps : ℕ) (walked : List ℕ) (i : ℕ) → Found
unfolding onward arrive
walk tails heads sink left zero walked i = found 0 []
walk tails heads sink left (suc steps) walked i =
    cond (ltb (onward tails left i) (length tails))
    (arrive tails sink (walked ++ (onward tails left i ∷ [])) (at_place heads (onward tails left i))
    (walk tails heads sink left steps (walked ++ (onward tails left i ∷ [])) (at_place heads (onward tails left i))))
    (found 0 [])

-- Where the walk starts: at the source; once nothing leaves it, at the tail of the lowest place with flow left.
unfoldable pub start_at : (tails : List ℕ) (source : ℕ) (left : List ℕ) → ℕ
unfolding onward remaining
start_at tails source left = cond (ltb (onward tails left source) (length tails)) source (at_place tails (remaining tails left))

-- ---- taking away

-- The least of `so` and of the flows left at these places.
unfoldable pub least_of : (left places : List ℕ) (so : ℕ) → ℕ
least_of left [] so = so
least_of left (k ∷ ks) so = least_of left ks (min so (at_place left k))

-- The least flow left at these places; 0 where there are none.
unfoldable pub least : (left places : List ℕ) → ℕ
unfolding least_of
least left [] = 0
least left (k ∷ ks) = least_of left ks (at_place left k)

-- The flow left once an amount is taken away at each of these places.
unfoldable pub take_away : (amount : ℕ) (places left : List ℕ) → List ℕ
take_away amount [] left = left
take_away amount (k ∷ ks) left = take_away amount ks (set left k (at_place left k - amount))

-- ---- the pieces

-- A chain or a ring with the amount that it carries.
pub record Piece : Type 0 where
  pub kind : ℕ
  pub amount : ℕ
  pub places : List ℕ

-- The same, from its parts.
abbrev pub piece : (kind amount : ℕ) (places : List ℕ) → Piece
piece kind amount places = record { kind = kind; amount = amount; places = places }

-- What the walk from its start finds, in a step for each node (proved: walk_finds, so many are enough).
unfoldable pub found_in : (nodes source sink : ℕ) (tails heads left : List ℕ) → Found
unfolding walk start_at
found_in nodes source sink tails heads left = walk tails heads sink left nodes [] (start_at tails source left)

-- What was found, with the least amount on it.
unfoldable pub piece_of : (left : List ℕ) → Found → Piece
unfolding least
piece_of left f = piece f.kind (least left f.places) f.places

-- The next piece.
unfoldable pub next : (nodes source sink : ℕ) (tails heads left : List ℕ) → Piece
unfolding found_in piece_of
next nodes source sink tails heads left = piece_of left (found_in nodes source sink tails heads left)

-- The flow left after a piece is taken away.
unfoldable pub without : Piece → (left : List ℕ) → List ℕ
unfolding take_away
without p left = take_away p.amount p.places left

-- So many pieces at most, one after the other, until no flow is left.
unfoldable pub pieces : (nodes source sink : ℕ) (tails heads : List ℕ) (more : ℕ) (left : List ℕ) → List Piece
unfolding remaining next without
pieces nodes source sink tails heads zero left = []
pieces nodes source sink tails heads (suc more) left =
    cond (ltb (remaining tails left) (length tails))
    (next nodes source sink tails heads left
    ∷ pieces nodes source sink tails heads more (without (next nodes source sink tails heads left) left))
    []

-- The chains and rings of a table's flow: at most one for each place.
abbrev pub chains_of : Table → (flow : List ℕ) → List Piece
chains_of t flow = pieces t.nodes t.source t.sink t.tails t.heads (length t.tails) flow

-- ---- the list of numbers

-- For each piece 1 for a chain or 2 for a ring, the amount, how many places, and these as walked.
unfoldable pub numbers : List Piece → List ℕ
numbers [] = []
numbers (p ∷ ps) = p.kind ∷ p.amount ∷ length p.places ∷ (p.places ++ numbers ps)

-- The whole list of numbers of a flow's chains and rings.
abbrev pub list_of : (nodes source sink : ℕ) (tails heads flow : List ℕ) → List ℕ
list_of nodes source sink tails heads flow = numbers (pieces nodes source sink tails heads (length tails) flow)
