-- The names of refusal in one line, a cell of eleven bytes each: the word in a name's cell is its letters.
use Prim.Native.Nat.{ℕ, zero, suc, ◌+◌, ◌*◌, ◌-◌, ◌<◌}
use mathlib.Core.Path.{◌≡◌, refl, ap, sym, ◌∙◌}
use mathlib.Core.List.{List, [], ◌∷◌}
use native.Mathlib.Omega.{arith}
use lib.ListN.{get_or, drop}
use lib.Seq.{drop-drop}
use Rattle.table.specs.Ascii.{bytes}
use Rattle.table.specs.Refusals.{number_of, names, name_text}
use Rattle.table.specs.declared.Name.{Name}
use Rattle.table.proofs.Numbers.{number_known}
use Rattle.scan.specs.Parts.{run}
use Rattle.report.specs.Words.{word_of}

-- All names in the order of their numbers, each filled up with blanks.
abbrev pub line : List ℕ
line = bytes "NODES      ROWS       ARCS       ENDS       ROOM       NODE       LOOP       CAPACITY   STALE      UNORDERED  AHEAD      PLACE      LINE       COUNT      LONG       SOLUTION   MANY       STARTS     MINIMUM    IMPOSSIBLE BOUNDED    LOWER      NOTMAX     "

-- The words of so many cells.
unfoldable words : ℕ → List ℕ → List (List ℕ)
words zero bytes = []
words (suc count) bytes = word_of bytes ∷ words count (drop 11 bytes)

-- The word of a cell is the one at its number among them.
word_at : (count k : ℕ) (bytes : List ℕ) → k < count → get_or (words count bytes) k [] ≡ word_of (drop (11 * k) bytes)
unfolding words
word_at zero k bytes h = absurd (omega arith)
word_at (suc count) zero bytes h = refl
word_at (suc count) (suc k) bytes h =
    let behind : 11 + 11 * k ≡ 11 * suc k = omega arith in
    word_at count k (drop 11 bytes) (omega arith) ∙ ap word_of (drop-drop (11 * k) 11 bytes ∙ ap (λ i. drop i bytes) behind)

-- The words of the line are the names.
words_are : words 23 line ≡ names
unfolding words names run
words_are = refl

-- The word in the cell of a name's number is its letters.
pub name_word : (name : Name) → word_of (drop (11 * (number_of name - 1)) line) ≡ name_text name
unfolding name_text
name_word name =
    sym (word_at 23 (number_of name - 1) line (omega (arith, number_known name)))
    ∙ ap (λ ws. get_or ws (number_of name - 1) []) words_are
