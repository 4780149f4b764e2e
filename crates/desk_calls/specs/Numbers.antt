-- What reading a text returns to C: document 01's numbers of what the text gives.
use Rattle.std.specs.Prelude.{ℕ, ◌≡◌, List}
use Rattle.text.specs.Lines.{Given}
use Rattle.text.specs.Reading.{Values, values_of, Reads}
use Rattle.desk_calls.specs.declared.Text.{Text}

-- The numbers in the order of C's fields.
abbrev pub text_of : Values → Text
text_of v = record { refusal = v.refusal; place = v.place; n = v.n; m = v.m; s = v.s; t = v.t }

-- Reading returns the numbers of what the text gives, and leaves the arc rows as reading does.
pub record ReadsAs (text tails heads capacities minimums : List ℕ) (r : Text) (tails' heads' capacities' minimums' : List ℕ) : Type 0 where
  pub given : Given
  pub reads : Reads text tails heads capacities minimums given tails' heads' capacities' minimums'
  pub numbers : r ≡ text_of (values_of given)
