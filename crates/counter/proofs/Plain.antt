-- Where all minimums of a text are 0, one text alone may be printed for it: the run's own numbers, its side and its flows; else all but the flows is one.
use Prim.Native.Nat.{ℕ, min}
use mathlib.Core.Path.{◌≡◌, refl, sym, ap, ap₂, subst, ◌∙◌}
use mathlib.Core.Bool.{Bool, true, false}
use mathlib.Core.List.{List}
use lib.Dec.{ltb}
use lib.ListN.{length, take, length-take, length-replicate}
use Rattle.table.specs.Accepted.{Accepted}
use Rattle.minimums.specs.BoundedTable.{BoundedTable}
use Rattle.minimums.specs.Checks.{plain}
use Rattle.feasible.proofs.Accepting.{table_accepted}
use Rattle.solver.specs.Solving.{solved}
use Rattle.solver.proofs.Solved.{solved_flows, solved_marks}
use Rattle.table.specs.Table.{arcs}
use Rattle.scan.specs.Parts.{lines}
use Rattle.text.specs.Lines.{Given}
use Rattle.std.specs.Prelude.{Ok, Err}
use Rattle.text.specs.Reading.{text_table, given_by}
use Rattle.text.proofs.Accepting.{read_accepts}
use Rattle.planner.specs.Solving.{left_with_sign, SolvesAs}
use Rattle.planner.specs.declared.Signed.{Signed}
use Rattle.planner.proofs.Plain.{plain_greatest}
use Rattle.planner.proofs.Demands.{solves_well}
use Rattle.planner.proofs.Unique.{solve_unique}
use Rattle.report.specs.Printed.{solved_text}
use Rattle.counter.specs.Desk.{zeros, summary_of, left_text, SameLines, equal, but_flows, TableText, AnswerText, DeskAs, DeskText, table_text, Passes, PlainAs}
use Rattle.counter.specs.Desk.{solved as of_solved, impossible as of_none}
use Rattle.counter.proofs.Solves.{accepted, is_solved}
use Rattle.counter.proofs.Serving.{served_once}
use Rattle.counter.specs.Desk.{Served}

-- A row of zeros is as long as it says.
long : (count : ℕ) → length (zeros count) ≡ count
unfolding zeros
long count = length-replicate {A = ℕ} count 0

-- The rows that a solved table leaves hold what is printed of it.
solved_text_lem : (b : BoundedTable) → Accepted b.table
    → left_text b.table.nodes (arcs b.table) (left_with_sign (solved b.table 0 (zeros 4096) (zeros 512) (zeros 10241))) ≡ table_text b.table
unfolding table_text solved
solved_text_lem b ok = rw (solved_flows b.table ok (zeros 4096), solved_marks b.table ok (zeros 512))

-- What may be printed of a table whose minimums are all 0 is this alone.
pub plain_text_lem : (b : BoundedTable) → Passes b → plain b ≡ true → {printed : List ℕ} → TableText b printed → printed ≡ table_text b.table
plain_text_lem b ok all (of_solved l so none) =
    let equal : l ≡ left_with_sign (solved b.table 0 (zeros 4096) (zeros 512) (zeros 10241))
    = subst (λ p. SolvesAs p b 0 (zeros 4096) (zeros 512) (zeros 10241) l) all so
    ∙ ap left_with_sign (is_solved b ok (zeros 4096) (zeros 512) (zeros 10241) (long 4096) (long 512) (long 10241) all) in
    ap (left_text b.table.nodes (arcs b.table)) equal ∙ solved_text_lem b (table_accepted b (accepted b ok))
plain_text_lem b ok all (of_none none) = absurd (none _ (plain_greatest b (table_accepted b (accepted b ok)) all).keeps)

-- Two texts printed by one answer of the reader,
same_answer : (text : List ℕ) (a : Given) → given_by text 4096 4096 4096 4096 ≡ a → PlainAs text a → (x y : List ℕ) → AnswerText text a x → AnswerText text a y → x ≡ y
same_answer text (Ok h) e all x y p q =
    let b = text_table (lines text) h.nodes h.source h.sink in
    let ok = (read_accepts text 4096 4096 4096 4096 e).passes in
    plain_text_lem b ok all p ∙ sym (plain_text_lem b ok all q)
same_answer text (Err why) e all x y p q = p ∙ sym q

-- by its length,
same_as : (long : Bool) (text : List ℕ) → PlainAs text (given_by text 4096 4096 4096 4096) → (x y : List ℕ) → DeskAs long text x → DeskAs long text y → x ≡ y
same_as true text all x y p q = p ∙ sym q
same_as false text all x y p q = same_answer text (given_by text 4096 4096 4096 4096) refl all x y p q

-- are equal.
pub same_desk : (text : List ℕ) → PlainAs text (given_by text 4096 4096 4096 4096) → (x y : List ℕ) → DeskText text x → DeskText text y → x ≡ y
same_desk text all x y p q = same_as (ltb 65536 (length text)) text all x y p q

-- So two results that meet the promise for such a text are equal, and so are the rows that they leave.
pub served_unique : {text row row' row'' : List ℕ} {r s : ℕ} → PlainAs text (given_by text 4096 4096 4096 4096) → Served text row row' r → Served text row row'' s
    → (row' ≡ row'') × (r ≡ s)
served_unique {text} all a b = served_once a b (same_desk text all a.printed b.printed a.may b.may)

-- ---- with minimums

-- What may be printed of one table is the same in all lines but that of the flows:
lines_table : (b : BoundedTable) {p q : List ℕ} → TableText b p → TableText b q → SameLines p q
lines_table b (of_solved l so none) (of_solved k too zero) =
    let n : ℕ = b.table.nodes in
    let m : ℕ = arcs b.table in
    let same = solve_unique b 0 (zeros 4096) (zeros 512) (zeros 10241) l k so too in
    let long : length (take m l.flow) ≡ length (take m k.flow) = simp length-take (ap (min m) same.flow_long) in
    subst (SameLines (left_text n m l))
    (ap₂ (λ (a : Signed) (side : List ℕ). solved_text (summary_of n m a) (take n side) (take m k.flow)) same.answer same.side)
    (but_flows (summary_of n m l.answer) (take n l.side) (take m l.flow) (take m k.flow) long)
lines_table b (of_solved l so none) (of_none never) = absurd (never _ (solves_well b 0 (zeros 4096) (zeros 512) (zeros 10241) l so none).greatest.keeps)
lines_table b (of_none never) (of_solved l so none) = absurd (never _ (solves_well b 0 (zeros 4096) (zeros 512) (zeros 10241) l so none).greatest.keeps)
lines_table b (of_none never) (of_none too) = equal

-- so is what may be printed by one answer of the reader,
lines_answer : (text : List ℕ) (a : Given) (x y : List ℕ) → AnswerText text a x → AnswerText text a y → SameLines x y
lines_answer text (Ok h) x y p q = lines_table (text_table (lines text) h.nodes h.source h.sink) p q
lines_answer text (Err why) x y p q = subst (SameLines x) (p ∙ sym q) equal

-- and for one text.
pub lines_desk : (text x y : List ℕ) → DeskText text x → DeskText text y → SameLines x y
lines_desk text x y p q = by (ltb 65536 (length text)) p q
  where
    by : (long : Bool) → DeskAs long text x → DeskAs long text y → SameLines x y
    by true p q = subst (SameLines x) (p ∙ sym q) equal
    by false p q = lines_answer text (given_by text 4096 4096 4096 4096) x y p q

-- So two results that meet the promise print the same lines but for the flows', for every text.
pub served_lines : {text row row' row'' : List ℕ} {r s : ℕ} (a : Served text row row' r) (b : Served text row row'' s) → SameLines a.printed b.printed
served_lines {text} a b = lines_desk text a.printed b.printed a.may b.may
