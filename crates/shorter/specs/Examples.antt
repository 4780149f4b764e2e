-- Worked examples of the second call, by computation.
use Rattle.std.specs.Prelude.{◌≡◌, refl, [], ◌∷◌}
use Rattle.shorter.specs.Shorter.{shorter_of}

-- Document 01's listing: of the source side 1 2 3 and the sink's 4 the second is the shorter.
shorter_second : shorter_of (1 ∷ 2 ∷ 3 ∷ 0 ∷ []) (4 ∷ 0 ∷ []) 3 1 ≡ 4 ∷ []
unfolding shorter_of
shorter_second = refl

-- The first if equal,
first_if_equal : shorter_of (1 ∷ 2 ∷ []) (3 ∷ 4 ∷ []) 2 2 ≡ 1 ∷ 2 ∷ []
unfolding shorter_of
first_if_equal = refl

-- and nothing if a length passes its list.
length_too_long : shorter_of (1 ∷ 2 ∷ []) (3 ∷ []) 1 2 ≡ []
unfolding shorter_of
length_too_long = refl
