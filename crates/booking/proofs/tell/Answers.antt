-- `tell` meets its contract: a refusal's number, or the three numbers written.
use Rattle.wire.proofs.Telling.{tells_refusal, tells_reading}
use Rattle.booking.proofs.tell.Goals as goal

pub returns-then-r-ne0 : goal.returns-then-r-ne0
returns-then-r-ne0 c =
    let given = c.args in
    tells_refusal given.r given.res.now c.if-r-ne0.true c.returned.ensures

pub returns : goal.returns
returns c =
    let given = c.args in
    tells_reading given.r given.res.now c.if-r-ne0.false c.write_reading.ensures
