-- Lists that are filled, rising: the numbers that pass a test, and a row with a list in its first places.
use Rattle.std.specs.Prelude.{ℕ, zero, suc, ◌<◌, ◌≡◌, Bool, true, cond, List, [], ◌∷◌, ◌++◌, length, drop}
use Rattle.rows.specs.Row.{at_place}

-- The numbers below n that pass a test, rising.
unfoldable pub passing : (ℕ → Bool) → (n : ℕ) → List ℕ
passing test zero = []
passing test (suc k) = cond (test k) (passing test k ++ (k ∷ [])) (passing test k)

-- A row with these numbers in its first places, and the later ones as they were.
abbrev pub filled_with : (numbers row : List ℕ) → List ℕ
filled_with numbers row = numbers ++ drop (length numbers) row

-- What such a list is: each number in it is below n and passes, each that does is in it, and they rise.
pub record Lists (test : ℕ → Bool) (n : ℕ) (list : List ℕ) : Type 0 where
  pub each : (i : ℕ) → i < length list → (at_place list i < n) × (test (at_place list i) ≡ true)
  pub all : (k : ℕ) → k < n → test k ≡ true → (i : ℕ) × (i < length list) × (at_place list i ≡ k)
  pub rising : (i j : ℕ) → i < j → j < length list → at_place list i < at_place list j
