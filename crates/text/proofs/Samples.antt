-- What some lines are, by computing the definitions.
use Prim.Native.String.{String}
use mathlib.Core.Path.{◌≡◌, refl}
use mathlib.Core.List.{List, [], ◌∷◌, map}
use Rattle.table.specs.Ascii.{bytes}
use Rattle.scan.specs.Parts.{in_front, begins_with, is_these, is_separator, behind, fields}
use Rattle.scan.specs.Numbers.{is_digit, all_digits, decimal, leading_zero, number_form, number_in}
use Rattle.scan.specs.Fields.{is_letter}
use Rattle.text.specs.declared.Kind.{Kind}
use Rattle.text.specs.declared.Kind.TheVariants.{Comment, Problem, Source, Sink, ArcLine, Other}
use Rattle.text.specs.Lines.{problem_from, problem_of, end_from, end_of, arc_from, minimum_in, arc_of, kind_from, kind_of}

-- A line, and what it is.
pub record Sample : Type 0 where
  pub line : String
  pub kind : Kind

-- This line is of this kind.
abbrev pub ◌is◌ : String → Kind → Sample
◌is◌ line kind = record { line = line; kind = kind }

infix 80 ◌is◌
-- Blanks and tabs between fields and before the end; then lines not of their form: no separator, or another byte for one; one before the first letter; nothing but separators; nothing; a field more; a minimum that is no number.
pub samples : List Sample
samples =
    "p max 4 5" is Problem 4 5
    ∷ "p\t max  4\t\t5 \t " is Problem 4 5
    ∷ "n  1\ts" is Source 1
    ∷ "n 4 t\t" is Sink 4
    ∷ "a  1 \t 2\t3 " is ArcLine (record { tail = 1; head = 2; capacity = 3; minimum = 0 })
    ∷ "a 1 2 3 2" is ArcLine (record { tail = 1; head = 2; capacity = 3; minimum = 2 })
    ∷ "c" is Comment
    ∷ "c\tx  y" is Comment
    ∷ "pmax 4 5" is Other
    ∷ "p max2 4 5" is Other
    ∷ "p max4 5" is Other
    ∷ "n 4 t\r" is Other
    ∷ "n\u{b}4 t" is Other
    ∷ " c" is Other
    ∷ "\tn 4 t" is Other
    ∷ " p max 4 5" is Other
    ∷ " \t " is Other
    ∷ "" is Other
    ∷ "n 4 t s" is Other
    ∷ "a 1 2 3 2 1" is Other
    ∷ "a 1 2 3 x" is Other
    ∷ []

-- Each is so.
pub samples_are : map (λ (e : Sample). kind_of (bytes e.line)) samples ≡ map (λ (e : Sample). e.kind) samples
unfolding samples in_front begins_with is_these is_separator behind fields is_digit all_digits decimal leading_zero number_form number_in is_letter problem_from problem_of end_from end_of arc_from minimum_in arc_of kind_from kind_of
samples_are = refl
