-- `end_of` meets its contract: the refused place, or all arcs.
use mathlib.Core.Path.{sym, ap}
use Rattle.minimums.specs.Checks.{end_of}
use Rattle.minimums.proofs.end_of.Goals as goal

pub returns-in-Err : goal.returns-in-Err
returns-in-Err c = sym (ap (λ v. end_of v c.args.m) c.in-Err.is)

pub returns-in-Ok : goal.returns-in-Ok
returns-in-Ok c = sym (ap (λ v. end_of v c.args.m) c.in-Ok.is)
