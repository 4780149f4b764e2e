-- What is asked of the chains and rings of a flow: walks over arcs, and sums.
use Rattle.std.specs.Prelude.{ℕ, ◌+◌, ◌<◌, ◌≡◌, ◌⊎◌, List, [], ◌∷◌, length, eqb}
use Rattle.rows.specs.Row.{at_place}
use Rattle.rows.specs.Sum.{only}
use Rattle.table.specs.Table.{Table}
use Rattle.network.specs.Network.{Network}
use Rattle.pieces.specs.Chains.{Piece, remaining, next, without}

-- Every arc out of the sink is empty.
abbrev pub Silent : Network → (ℕ → ℕ) → Type 0
Silent N flow = (k : ℕ) → k < N.m → N.tail k ≡ N.t → flow k ≡ 0

-- These places lead from node a to node b, one after the other.
abbrev pub Links : Network → (places : List ℕ) (a b : ℕ) → Type 0
Links N [] a b = a ≡ b
Links N (k ∷ ks) a b = (k < N.m) × (N.tail k ≡ a) × Links N ks (N.head k) b

-- None of these places leaves node i.
abbrev pub Avoids : Network → (i : ℕ) (places : List ℕ) → Type 0
Avoids N i [] = Unit {0}
Avoids N i (k ∷ ks) = (N.tail k ≡ i → ⊥) × Avoids N i ks

-- These places leave different nodes.
abbrev pub Simple : Network → (places : List ℕ) → Type 0
Simple N [] = Unit {0}
Simple N (k ∷ ks) = Avoids N (N.tail k) ks × Simple N ks

-- A chain goes from source to sink, and a ring from a node back to it.
abbrev pub ChainOrRing : Network → (kind : ℕ) (places : List ℕ) → Type 0
ChainOrRing N kind places =
    ((kind ≡ 1) × Links N places N.s N.t) ⊎ ((kind ≡ 2) × ((a : ℕ) × Links N places a a))

-- A piece as it is listed: some places, from different nodes, and an amount above 0.
pub record Proper (N : Network) (p : Piece) : Type 0 where
  pub some : 0 < length p.places
  pub simple : Simple N p.places
  pub carries : 0 < p.amount
  pub shape : ChainOrRing N p.kind p.places

-- Each of these is so.
abbrev pub AllProper : Network → List Piece → Type 0
AllProper N [] = Unit {0}
AllProper N (p ∷ ps) = Proper N p × AllProper N ps

-- What these places bring to place k, each d.
unfoldable pub brings : (d : ℕ) (places : List ℕ) (k : ℕ) → ℕ
brings d [] k = 0
brings d (p ∷ ps) k = only (eqb p k) d + brings d ps k

-- What the pieces carry over place k together.
unfoldable pub carried : List Piece → (k : ℕ) → ℕ
unfolding brings
carried [] k = 0
carried (p ∷ ps) k = brings p.amount p.places k + carried ps k

-- What a piece adds to the value: the amount of a chain.
abbrev pub adds : Piece → ℕ
adds p = only (eqb p.kind 1) p.amount

-- The amounts of all chains together.
unfoldable pub in_chains : List Piece → ℕ
in_chains [] = 0
in_chains (p ∷ ps) = adds p + in_chains ps

-- Pieces that are the whole of a flow of value v: chains add up to v, chains and rings to each place's flow, and each is as it should be.
pub record Whole (N : Network) (flow : List ℕ) (v : ℕ) (ps : List Piece) : Type 0 where
  pub proper : AllProper N ps
  pub chains : in_chains ps ≡ v
  pub places : (k : ℕ) → k < N.m → carried ps k ≡ at_place flow k

-- The next piece of a table with this flow left.
abbrev pub next_of : Table → (left : List ℕ) → Piece
next_of t left = next t.nodes t.source t.sink t.tails t.heads left

-- What is left of a table's flow at some time, as its pieces are taken away one after the other.
pub data LeftOf (t : Table) (flow : List ℕ) : List ℕ → Type 0 where
  whole_flow : LeftOf t flow flow
  piece_less : (left : List ℕ) → LeftOf t flow left → remaining t.tails left < length t.tails → LeftOf t flow (without (next_of t left) left)
