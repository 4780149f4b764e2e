-- `start_of` meets its contract: the start that is there, or the end.
use mathlib.Core.Path.{sym}
use native.Mathlib.Omega.{arith}
use lib.ListN.{get_or-eq_default}
use Rattle.days.proofs.Writing.{read_any}
use Rattle.month.proofs.start_of.Goals as goal

pub overflow_cast-result : goal.overflow_cast-result
overflow_cast-result c = omega (arith, c.type_inv.starts c.args.j)

pub returns-then-j-starts : goal.returns-then-j-starts
returns-then-j-starts c =
    let given = c.args in
    read_any given.starts.now given.j 0 given.end c.if-j-starts.true

pub returns : goal.returns
returns c =
    let given = c.args in
    sym (get_or-eq_default given.starts.now given.end c.if-j-starts.false)
