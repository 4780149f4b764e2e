-- `choose_first` meets its contract: the tournament of all keys, and the least of them.
use Rattle.tournament.specs.Tournament.{key}
use Rattle.tournament.proofs.Roots.{own_keys, chose_picked}
use lib.ListN.{length}
use Rattle.tournament.proofs.choose_first.Goals as goal

pub returns : goal.returns
returns c =
    let given = c.args in
    chose_picked given.labels.now c.requires.labels_len_bound.0 c.requires.labels_len_bound.1 given.delta given.excess.now c.build.new.tree c.choose_by.result (
      c.root.result,
      c.root.ensures (length given.labels.now) (key given.delta given.excess.now given.labels.now) c.requires.labels_len_bound.0
          (own_keys given.labels.now c.requires.labels_len_bound.0 c.requires.labels_len_bound.1 given.delta given.excess.now) c.build.ensures,
      c.choose_by.ensures,
    )
