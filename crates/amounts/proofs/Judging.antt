-- The judgement of the lines from a place of the text on, one line further.
use Prim.Native.Nat.{ℕ, ◌+◌, ◌-◌, ◌<◌, ◌≤◌}
use mathlib.Core.Path.{◌≡◌, refl, sym, ◌∙◌}
use mathlib.Core.List.{List}
use native.Mathlib.Numerals.{add-one}
use lib.ListN.{length, take, drop}
use Rattle.std.specs.Prelude.{Option, Some, None, Result, Ok, Err}
use Rattle.scan.specs.Parts.{lines, LF, up_to}
use Rattle.scan.proofs.Parting.{line_here, lines_end}
use Rattle.amounts.specs.declared.Kind.{Kind}
use Rattle.amounts.specs.declared.Kind.TheVariants.{Comment, ValueLine, FlowLine, Other}
use Rattle.scan.specs.declared.Fault.{Fault}
use Rattle.amounts.specs.Lines.{kind_of, step_of, end_of, onwards, judge}

-- A line at fault is so at its own place.
step_place : (said : Option ℕ) (kind : Kind) (place : ℕ) {fault : Fault} → step_of said kind place ≡ Err fault → fault ≡ record { line = place }
unfolding step_of
step_place said Comment place e = cc
step_place None (ValueLine v) place e = cc
step_place (Some w) (ValueLine v) place e = cc
step_place None (FlowLine f) place e = cc
step_place (Some w) (FlowLine f) place e = cc
step_place said Other place e = cc

-- A line stands at `at` and ends at `stop`; `kind` is what it is and `done` what it does.
module _ (text : List ℕ) (at stop : ℕ) (said : Option ℕ) (place : ℕ) (h : at < length text) (e : stop ≡ at + up_to LF (drop at text))
    {kind : Kind} (is : kind ≡ kind_of (take (stop - at) (drop at text))) {done : Result (Option ℕ) Fault} (does : done ≡ step_of said kind place) where
  -- What it does decides, or the lines behind it.
  judge_here : judge (lines (drop at text)) said place ≡ onwards done place (judge (lines (drop (stop + 1) text)))
  unfolding judge
  judge_here = rw (line_here text at stop h e, does, is) refl

  -- It goes on.
  pub judge_on : {q : Option ℕ} → done ≡ Ok q → judge (lines (drop at text)) said place ≡ judge (lines (drop (stop + 1) text)) q (place + 1)
  unfolding onwards
  judge_on f = judge_here ∙ rw (f, add-one place) refl

  -- It is the first line at fault.
  pub judge_stop : {fault : Fault} → done ≡ Err fault → judge (lines (drop at text)) said place ≡ Err fault
  unfolding onwards
  judge_stop f = judge_here ∙ rw (f, step_place said kind place (sym does ∙ f)) refl

-- At the end of the text the end itself is judged.
pub judge_end : (text : List ℕ) (at : ℕ) (said : Option ℕ) (place : ℕ) → length text ≤ at → judge (lines (drop at text)) said place ≡ end_of said place
unfolding judge
judge_end text at said place h = rw (lines_end text at h) refl
