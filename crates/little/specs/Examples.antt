-- Worked examples of little-endian numbers, by computation.
use Rattle.std.specs.Prelude.{◌≡◌, refl, [], ◌∷◌}
use Rattle.little.specs.Little.{number, bytes_of}

-- 12345678 in the hexadecimal system is written as 78 56 34 12,
lowest_first : bytes_of 4 305419896 ≡ 120 ∷ 86 ∷ 52 ∷ 18 ∷ []
unfolding bytes_of
lowest_first = refl

-- and read back from there.
read_back : number (120 ∷ 86 ∷ 52 ∷ 18 ∷ []) ≡ 305419896
unfolding number
read_back = refl
