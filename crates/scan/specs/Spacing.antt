-- Document 02, request 2: texts that differ only in how many separators stand where one stood.
use Rattle.std.specs.Prelude.{ℕ, ◌≤◌, ◌≡◌, Bool, true, false, ◌&&◌, List, [], ◌∷◌, ◌++◌, eqb, length}
use Rattle.scan.specs.Parts.{is_separator, LF}

-- The bytes are all separators.
unfoldable pub separators : List ℕ → Bool
separators [] = true
separators (b ∷ rest) = is_separator b && separators rest

-- Some separators may stand where others stand: one or more where there is one or more (`between`), and any number before a line's end, at its LF (`ending`) or at the text's end behind another byte (`last`). All other bytes are the same.
pub data Respaced : List ℕ → List ℕ → Type 0 where
  done : Respaced [] []
  same : {xs ys : List ℕ} (b : ℕ) → Respaced xs ys → Respaced (b ∷ xs) (b ∷ ys)
  between : {xs ys : List ℕ} (r s : List ℕ) → separators r ≡ true → separators s ≡ true → 1 ≤ length r → 1 ≤ length s → Respaced xs ys → Respaced (r ++ xs) (s ++ ys)
  ending : {xs ys : List ℕ} (r s : List ℕ) → separators r ≡ true → separators s ≡ true → Respaced xs ys → Respaced (r ++ (LF ∷ xs)) (s ++ (LF ∷ ys))
  last : (b : ℕ) (r s : List ℕ) → eqb b LF ≡ false → separators r ≡ true → separators s ≡ true → Respaced (b ∷ r) (b ∷ s)
