-- `offer_two` meets its contract: by which key is less.
use Rattle.tournament.specs.Tournament.{none, without}
use Rattle.tournament.proofs.Standing.{rekeyed_other, apart}
use Rattle.tournament.proofs.offer_two.Goals as goal

pub returns-then-y-x : goal.returns-then-y-x
returns-then-y-x c n keys few own at_i at_j is js but =
    let given = c.args in
    let two = apart keys given.i given.j given.x given.y is js c.if-y-x.true in
    c.offer.ensures n keys few own at_j js
    (none, c.stand.ensures n (without keys given.j) few at_i (rekeyed_other keys given.i given.j given.x none two is) but)
