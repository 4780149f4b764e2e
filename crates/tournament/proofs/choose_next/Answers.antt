-- `choose_next` meets its contract: the two keys are those of the nodes.
use Rattle.tournament.specs.Tournament.{key}
use Rattle.tournament.proofs.Roots.{own_keys, chose_picked}
use lib.ListN.{length}
use mathlib.Core.Path.{sym}
use Rattle.tournament.proofs.choose_next.Goals as goal

pub returns : goal.returns
returns c =
    let given = c.args in
    let keys = key given.delta given.excess.now given.labels.now in
    let own = own_keys given.labels.now c.requires.labels_len_bound.0 c.requires.labels_len_bound.1 given.delta given.excess.now in
    chose_picked given.labels.now c.requires.labels_len_bound.0 c.requires.labels_len_bound.1 given.delta given.excess.now c.offer_two.new.tree c.offer_two.result
    (c.offer_two.ensures (length given.labels.now) keys c.requires.labels_len_bound.0 own c.requires.excess_len.1 c.requires.excess_len.2 (sym c.key-x.ensures)
    (sym c.key-y.ensures) c.requires.all_but)
