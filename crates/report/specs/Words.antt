-- The words of the line of names: for the contract of the function that finds one.
use Rattle.std.specs.Prelude.{ℕ, List, take}
use Prim.Native.Char.{code}
use Rattle.scan.specs.Parts.{up_to}

-- The word at the front of some bytes: up to the first blank.
abbrev pub word_of : List ℕ → List ℕ
word_of bytes = take (up_to (code " ") bytes) bytes
