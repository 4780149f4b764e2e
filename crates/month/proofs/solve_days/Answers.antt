-- `solve_days` meets its contract. The loop's invariant: the first j days are solved.
use Prim.Native.Nat.{ℕ, ◌≤◌}
use mathlib.Core.Path.{◌≡◌, ap, ◌∙◌}
use native.Mathlib.Omega.{arith}
use lib.ListN.{length}
use Rattle.days.specs.Days.{Days, days_in, Held, held, first_days}
use Rattle.tally.specs.Sums.{no_tally}
use Rattle.days.proofs.Course.{no_day, still_ready, still_countable, one_more}
use Rattle.month.proofs.solve_days.Goals as goal

pub loop-j-init : goal.loop-j-init
loop-j-init c =
    let given = c.args in
    no_day (days_in given.days.now) given.flow.now given.side.now given.work.now given.answers.now c.requires

pub solve_day-tally-requires : goal.solve_day-tally-requires
solve_day-tally-requires c =
    let given = c.args in
    let days : Days = days_in given.days.now in
    let turn : Held = held c.loop-j.tally c.loop-j.flow c.loop-j.side c.loop-j.work c.loop-j.answers in
    let so_far : c.loop-j.j ≤ length given.days.now.starts.now = omega arith in
    record {
      fact = still_ready days given.flow.now given.side.now given.work.now given.answers.now c.requires c.loop-j.j so_far turn c.loop-j.invariant;
      j_in_bounds = (c.loop-j-test.true, still_countable days given.flow.now given.side.now given.work.now given.answers.now c.requires c.loop-j.j so_far turn c.loop-j.invariant);
    }

pub loop-j-preserved : goal.loop-j-preserved
loop-j-preserved c =
    let given = c.args in
    let days : Days = days_in given.days.now in
    one_more days given.flow.now given.side.now given.work.now given.answers.now c.requires c.loop-j.j (held c.loop-j.tally c.loop-j.flow c.loop-j.side c.loop-j.work c.loop-j.answers) _ c.loop-j.invariant c.solve_day-tally.ensures

pub returns : goal.returns
returns c =
    let given = c.args in
    let days : Days = days_in given.days.now in
    let all : c.loop-j.j ≡ length given.days.now.starts.now = omega arith in
    c.loop-j.invariant ∙ ap (λ (k : ℕ). first_days days k (held no_tally given.flow.now given.side.now given.work.now given.answers.now)) all
