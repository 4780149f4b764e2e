-- What reading a file into a row says, and that it stays within the row: for the contract of the function that reads.
use Rattle.std.specs.Prelude.{ℕ, ◌≤◌, Result, IfOk}

-- What was read whole ends within the row.
abbrev pub TakenWithin : {E : Type 0} → (size : ℕ) → Result ℕ E → Type 0
TakenWithin size taken = IfOk taken (λ length. length ≤ size)
