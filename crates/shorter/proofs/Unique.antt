-- What the promises leave open: nothing. Two results that meet one promise are equal, the lent row too.
use Prim.Native.Nat.{ℕ}
use mathlib.Core.Path.{◌≡◌, sym, ◌∙◌}
use mathlib.Core.List.{List}
use Rattle.shorter.specs.Shorter.{shorter_of, LeftPart, copied}

-- The shorter list's part,
pub shorter_unique : (first second : List ℕ) (in_first in_second : ℕ) (x y : List ℕ)
    → x ≡ shorter_of first second in_first in_second → y ≡ shorter_of first second in_first in_second → x ≡ y
shorter_unique first second in_first in_second x y p q = p ∙ sym q

-- and its copy.
pub copy_shorter_unique : (first second : List ℕ) (in_first in_second : ℕ) (row : List ℕ) (x y : LeftPart)
    → x ≡ copied (shorter_of first second in_first in_second) row → y ≡ copied (shorter_of first second in_first in_second) row → x ≡ y
copy_shorter_unique first second in_first in_second row x y p q = p ∙ sym q
