-- What the desk may print for a text whose minimums are all 0 is one text alone; so it is for the texts of P6 and P10.
use Prim.Native.Nat.{ℕ}
use mathlib.Core.Path.{◌≡◌, refl}
use mathlib.Core.Bool.{Bool, true, false, cond}
use mathlib.Core.List.{List}
use lib.Dec.{ltb}
use lib.ListN.{length}
use Rattle.table.specs.Ascii.{bytes}
use Rattle.table.specs.declared.Name.TheVariants.{Long}
use Rattle.minimums.specs.Checks.{all_zero}
use Rattle.scan.specs.Parts.{lines}
use Rattle.std.specs.Prelude.{Ok, Err}
use Rattle.text.specs.Lines.{Given}
use Rattle.text.specs.Reading.{text_table, given_by}
use Rattle.text.proofs.Accepting.{read_accepts}
use Rattle.report.specs.Printed.{refused_text}
use Rattle.counter.specs.Desk.{AnswerText, DeskAs, DeskText}
use Rattle.counter.proofs.Plain.{plain_text_lem}
use Rattle.worked.specs.Desk.{answer_text, desk_text, plain_by, plain_text}
use Rattle.worked.specs.Worked.{finding, p6_text, p6_lines}

module _ (text : List ℕ) (printed : List ℕ) where
  -- By the reader's answer,
  by_answer : (a : Given) → given_by text 4096 4096 4096 4096 ≡ a → plain_by text a ≡ true → AnswerText text a printed → printed ≡ answer_text text a
  unfolding answer_text plain_by
  by_answer (Ok h) e all may = plain_text_lem (text_table (lines text) h.nodes h.source h.sink) (read_accepts text 4096 4096 4096 4096 e).passes all may
  by_answer (Err why) e all may = may

  -- by the text's length,
  by_length : (long : Bool) → plain_text text ≡ true → DeskAs long text printed
      → printed ≡ cond long (refused_text Long 0) (answer_text text (given_by text 4096 4096 4096 4096))
  by_length true all may = may
  by_length false all may = by_answer (given_by text 4096 4096 4096 4096) refl all may

  -- it is this.
  pub desk_alone : plain_text text ≡ true → DeskText text printed → printed ≡ desk_text text
  unfolding desk_text
  desk_alone all may = by_length (ltb 65536 (length text)) all may

-- So for P6's text the desk may print these lines alone,
pub p6_alone : (printed : List ℕ) → DeskText (bytes p6_text) printed → printed ≡ bytes p6_lines
unfolding finding plain_by all_zero
p6_alone printed may = desk_alone (bytes p6_text) printed refl may

-- and for P10's these.
pub p10_alone : (printed : List ℕ) → DeskText (bytes "") printed → printed ≡ bytes "refusal=LINE\nplace=1\n"
unfolding finding plain_by
p10_alone printed may = desk_alone (bytes "") printed refl may
