-- What `?` hands on.
use mathlib.Core.Path.{◌≡◌, ap, ◌∙◌}
use Rattle.std.specs.Prelude.{Result, Err, IsErrAnd}
use Rattle.std.proofs.lemmas.Result.{err_from_is_err_and}

-- What is handed on of an error is that error.
pub handed_on : {T E : Type 0} {Q : E → Type 0} {e : E} (answer : Result T E) → IsErrAnd answer Q → ((y : E) → Q y → y ≡ e) → answer ≡ Err e
handed_on answer is same = let p = err_from_is_err_and answer is in p.1 ∙ ap Err (same _ p.2)
