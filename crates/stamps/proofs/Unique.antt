-- What the promise leaves open: nothing.
use Rattle.std.proofs.Common.{◌≡◌, ℕ, sym, ◌∙◌}
use Rattle.stamps.specs.Stamp.{Compared}
use Rattle.stamps.specs.declared.Relation.{Relation}

-- Two comparisons of the same stamps are equal.
pub compare_unique : (table answer : ℕ) (a b : Relation) → Compared table answer a → Compared table answer b → a ≡ b
compare_unique table answer a b p q = p.exact ∙ sym q.exact
