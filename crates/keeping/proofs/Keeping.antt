-- Laws of what is kept: nodes from 1 on, lists in the first places of rows, and the ends' new numbers.
use Prim.Native.Nat.{ℕ, suc, ◌≤◌, ◌<◌}
use mathlib.Core.Path.{◌≡◌, refl, ap, sym, ◌∙◌, subst⁻¹}
use mathlib.Core.Bool.{Bool, false}
use mathlib.Core.List.{List, [], ◌∷◌, map}
use native.Mathlib.Omega.{arith}
use borrow.Author.Tests.{ne_eqb}
use lib.ListN.{length, take, drop}
use lib.Seq.{take_at}
use Rattle.rows.specs.Row.{Node, at_place, at_node, by_node}
use Rattle.rows.proofs.Rows.{at_nodes}
use Rattle.arcs.specs.Residual.{Places}
use Rattle.listing.specs.Passing.{passing, filled_with}
use Rattle.listing.proofs.Ranking.{ranked_at}
use Rattle.shrinking.specs.Smaller.{node_by, up_to}

-- The number 0 is not kept,
pub node_zero : (ahead behind : List ℕ) (s t : ℕ) → 1 ≤ s → 1 ≤ t → node_by ahead behind s t 0 ≡ false
node_zero ahead behind s t a b = rw (ne_eqb 0 s (λ e. omega arith), ne_eqb 0 t (λ e. omega arith))

-- so before node 1 there is none.
pub none_before : (ahead behind : List ℕ) (s t : ℕ) → 1 ≤ s → 1 ≤ t → passing (node_by ahead behind s t) 1 ≡ []
unfolding passing
none_before ahead behind s t a b = rw (node_zero ahead behind s t a b)

-- Functions that agree on the numbers of a list make one row of it.
map_same : (f g : ℕ → ℕ) (l : List ℕ) → ((q : ℕ) → q < length l → f (at_place l q) ≡ g (at_place l q)) → map f l ≡ map g l
map_same f g [] same = refl
map_same f g (x ∷ l) same = rw (same 0 (omega arith), map_same f g l (λ q h. same (suc q) (omega arith)))

-- The first numbers of a row that is filled with a list are the list.
pub filled_front : (l old row : List ℕ) (count : ℕ) → count ≡ length l → row ≡ filled_with l old → take count row ≡ l
filled_front l old row count all e = ap (take count) e ∙ take_at l (drop (length l) old) count (sym all)

-- Numbers that pass are places below m.
pub passing_places : (test : ℕ → Bool) (m : ℕ) (l : List ℕ) → l ≡ passing test m → Places m l
passing_places test m l e = subst⁻¹ (Places m) e (λ q h. (ranked_at test m q h).below)

-- The row of an end's new numbers, read from the row of all new numbers.
pub ends_numbered : (test keeps : ℕ → Bool) (n m : ℕ) (numbers ends l : List ℕ) → numbers ≡ by_node (up_to test) n → l ≡ passing keeps m
    → ((k : ℕ) → k < m → Node n (at_place ends k))
    → map (λ (k : ℕ). at_node numbers (at_place ends k)) l ≡ map (λ (k : ℕ). up_to test (at_place ends k)) (passing keeps m)
ends_numbered test keeps n m numbers ends l are from nodes =
    rw (from, are)
    (map_same _ _ (passing keeps m) (λ q h. at_nodes (up_to test) n (at_place ends (at_place (passing keeps m) q)) (nodes (at_place (passing keeps m) q) (ranked_at keeps m q h).below)))
