-- Rows of numbers: read by place and by node, parts of them, and rows made of a function.
use Rattle.std.specs.Prelude.{ℕ, zero, suc, ◌-◌, ◌≤◌, List, [], ◌∷◌, ◌++◌, get_or, take, drop, replicate}

-- `i` is one of the nodes 1 to n.
abbrev pub Node : ℕ → ℕ → Type 0
Node n i = (1 ≤ i) × (i ≤ n)

-- What a row holds at a place, and 0 past its end.
abbrev pub at_place : List ℕ → ℕ → ℕ
at_place row k = get_or row k 0

-- What a row by node holds of a node: node 1 stands at place 0. It is 0 for the number 0 and past the row's end.
abbrev pub at_node : List ℕ → ℕ → ℕ
at_node row zero = 0
at_node row (suc k) = get_or row k 0

-- The part of a row from place a up to place e.
abbrev pub part : ℕ → ℕ → List ℕ → List ℕ
part a e row = take (e - a) (drop a row)

-- The first numbers of a row, those before `end`, are 0 and the rest is unchanged.
abbrev pub cleared : ℕ → List ℕ → List ℕ
cleared end row = replicate end 0 ++ drop end row

-- The row f 0, .., f (m - 1).
unfoldable pub by_place : (ℕ → ℕ) → ℕ → List ℕ
by_place f zero = []
by_place f (suc k) = by_place f k ++ (f k ∷ [])

-- The row by node f 1, .., f n.
abbrev pub by_node : (ℕ → ℕ) → ℕ → List ℕ
by_node f n = by_place (λ k. f (suc k)) n
