-- The desk prints at most 35,061 bytes: eight lines of 233 together; `side=` and 4 bytes for each of 512 nodes; LF, `flow=`, and 8 bytes for
-- each of 4,096 flows; and LF.
use Prim.Native.Nat.{ℕ, suc, ◌+◌, ◌*◌, ◌^◌, ◌<◌, ◌≤◌}
use mathlib.Core.Path.{◌≡◌, refl}
use mathlib.Core.Bool.{Bool, true, false, cond}
use mathlib.Core.List.{List, [], ◌∷◌}
use native.Mathlib.Decide.{dec_lt}
use native.Mathlib.Omega.{arith}
use lib.Dec.{ltb, eqb}
use lib.ListN.{length, get_or, take, length-append, length-take}
use Rattle.table.specs.declared.Name.{Name}
use Rattle.table.specs.declared.Name.TheVariants.{Long, Impossible}
use Rattle.table.proofs.Numbers.{name_short}
use Rattle.table.specs.Ascii.{bytes}
use Rattle.table.specs.Table.{arcs}
use Rattle.minimums.specs.BoundedTable.{BoundedTable}
use Rattle.planner.proofs.Demands.{solves_well}
use Rattle.text.specs.Lines.{Given}
use Rattle.std.specs.Prelude.{Ok, Err}
use Rattle.scan.specs.Parts.{lines}
use Rattle.text.specs.Reading.{text_table, given_by}
use Rattle.text.proofs.Accepting.{read_accepts}
use Rattle.report.specs.declared.Summary.{Summary}
use Rattle.pen.specs.Printed.{further, spaced}
use Rattle.pen.proofs.Digits.{digits_most, digits_below}
use Rattle.report.specs.Printed.{marked_nodes, number_lines, solved_text, refused_text}
use Rattle.counter.specs.Desk.{summary_of, zeros, TableText, solved, impossible, AnswerText, DeskAs, DeskText, Passes}
use Rattle.counter.proofs.Solves.{accepted, few_nodes, few_arcs}

-- ---- numbers

-- A number that follows another has a blank before its digits.
further_length : (some : Bool) (n k : ℕ) → n < 10 ^ suc k → length (further some n) ≤ suc (suc k)
further_length true n k h = omega (arith, digits_below 20 n k h (dec_lt n 10))
further_length false n k h = omega (arith, digits_below 20 n k h (dec_lt n 10))

-- ---- lists of numbers

-- Flows up to 1,000,000 take 8 bytes each.
flows_length : (some : Bool) (flows : List ℕ) → ((k : ℕ) → k < length flows → get_or flows k 0 ≤ 1000000) → length (spaced some flows) ≤ 8 * length flows
unfolding spaced
flows_length some [] h = omega arith
flows_length some (flow ∷ rest) h =
    let one = further_length some flow 6 (omega (arith, h 0 (omega arith))) in
    let more = flows_length true rest (λ k l. h (suc k) (omega arith)) in
    rw length-append (omega arith)

-- A node below 1,000, if it is marked, takes 4.
mark_length : (is : Bool) (some : Bool) (k : ℕ) (rest : List ℕ) (bound : ℕ) → k < 1000 → ((before : Bool) → length (spaced before rest) ≤ bound)
    → length (spaced some (cond is (k ∷ rest) rest)) ≤ bound + 4
unfolding spaced
mark_length true some k rest bound h more =
    let one = further_length some k 2 (omega arith) in
    let later = more true in
    rw length-append (omega arith)
mark_length false some k rest bound h more = omega (arith, more some)

-- So all nodes of a side below 1,000 take at most 4 each.
marks_length : (side : List ℕ) (k : ℕ) (some : Bool) → k + length side ≤ 1000 → length (spaced some (marked_nodes k side)) ≤ 4 * length side
unfolding spaced marked_nodes
marks_length [] k some h = omega arith
marks_length (mark ∷ rest) k some h =
    omega (arith, mark_length (eqb mark 1) some k (marked_nodes (suc k) rest) (4 * length rest) (omega arith) (λ before. marks_length rest (suc k) before (omega arith)))

-- ---- what is printed

-- A sign takes at most one byte.
sign_length : (below : Bool) → length (cond below (bytes "-") []) ≤ 1
sign_length true = omega arith
sign_length false = omega arith

-- Each of the eight lines takes its name, at most 20 digits, and LF; that of the value a sign too.
lines_length : (r : Summary) → length (number_lines r) ≤ 233
unfolding number_lines
lines_length r =
    simp length-append
    (omega (
      arith,
      digits_most 20 r.n,
      digits_most 20 r.m,
      digits_most 20 r.value,
      sign_length r.below,
      digits_most 20 r.scale,
      digits_most 20 r.phases,
      digits_most 20 r.saturating,
      digits_most 20 r.nonsaturating,
      digits_most 20 r.relabels,
    ))

-- The ten lines of a table within document 01's bounds.
solved_length : (r : Summary) (side flow : List ℕ) → length side ≤ 512 → length flow ≤ 4096 → ((k : ℕ) → k < length flow → get_or flow k 0 ≤ 1000000)
    → length (solved_text r side flow) ≤ 35061
unfolding solved_text
solved_length r side flow few_nodes few_arcs small =
    simp length-append
    (omega (arith, lines_length r, marks_length side 1 false (omega arith), flows_length false flow small))

-- The two lines of a refusal.
refused_length : (name : Name) (place : ℕ) → length (refused_text name place) ≤ 35061
unfolding refused_text
refused_length name place = simp length-append (omega (arith, name_short name, digits_most 20 place))

-- A table that was read: no flow is above its capacity.
table_length : (b : BoundedTable) → Passes b → {printed : List ℕ} → TableText b printed → length printed ≤ 35061
table_length b ok (solved l so none) =
    let t = b.table in
    let best = (solves_well b 0 (zeros 4096) (zeros 512) (zeros 10241) l so none).greatest in
    let rows = (accepted b ok).rows.arcs in
    let marks = length-take t.nodes l.side in
    let flows = length-take (arcs t) l.flow in
    solved_length (summary_of t.nodes (arcs t) l.answer) (take t.nodes l.side) (take (arcs t) l.flow) (omega (arith, few_nodes b ok)) (omega (arith, few_arcs b ok))
    (λ k h. omega (arith, best.keeps.high k (omega arith), rows.small k (omega arith)))
table_length b ok (impossible none) = refused_length Impossible 0

-- What was read, or refused.
answer_length : (text : List ℕ) (a : Given) → given_by text 4096 4096 4096 4096 ≡ a → (printed : List ℕ) → AnswerText text a printed → length printed ≤ 35061
answer_length text (Ok h) e printed may = table_length (text_table (lines text) h.nodes h.source h.sink) (read_accepts text 4096 4096 4096 4096 e).passes may
answer_length text (Err why) e printed may = rw may (refused_length why.name why.place)

-- By whether the text is too long.
by_length : (long : Bool) (text printed : List ℕ) → DeskAs long text printed → length printed ≤ 35061
by_length true text printed may = rw may (refused_length Long 0)
by_length false text printed may = answer_length text (given_by text 4096 4096 4096 4096) refl printed may

-- Any text.
pub desk_length : (text printed : List ℕ) → DeskText text printed → length printed ≤ 35061
desk_length text printed may = by_length (ltb 65536 (length text)) text printed may
