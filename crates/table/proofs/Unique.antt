-- What the promises leave open: nothing. Two results that meet one promise are equal.
use Prim.Native.Nat.{ℕ}
use mathlib.Core.Path.{◌≡◌, sym, ◌∙◌}
use mathlib.Core.Bool.{Bool}
use Rattle.table.specs.Table.{Table}
use Rattle.table.specs.Refusals.{number_of}
use Rattle.table.specs.Checks.{Verdict, is_fine, sizes_of, arc_fault, check_of}
use Rattle.table.specs.declared.Name.{Name}

-- The number of a name.
pub number_unique : (name : Name) (a b : ℕ) → a ≡ number_of name → b ≡ number_of name → a ≡ b
number_unique name a b p q = p ∙ sym q

-- Whether nothing is wrong.
pub is_fine_unique : (v : Verdict) (a b : Bool) → a ≡ is_fine v → b ≡ is_fine v → a ≡ b
is_fine_unique v a b p q = p ∙ sym q

-- The check of sizes.
pub sizes_unique : (n tails heads capacities s t : ℕ) (a b : Verdict)
    → a ≡ sizes_of n tails heads capacities s t → b ≡ sizes_of n tails heads capacities s t → a ≡ b
sizes_unique n tails heads capacities s t a b p q = p ∙ sym q

-- The check of an arc.
pub arc_fault_unique : (n place tail head capacity : ℕ) (a b : Verdict)
    → a ≡ arc_fault n place tail head capacity → b ≡ arc_fault n place tail head capacity → a ≡ b
arc_fault_unique n place tail head capacity a b p q = p ∙ sym q

-- All checks of a table.
pub check_unique : (t : Table) (room : Bool) (a b : Verdict) → a ≡ check_of t room → b ≡ check_of t room → a ≡ b
check_unique t room a b p q = p ∙ sym q
