-- `run` meets its contract: no value is as large as its q, so it goes to the end.
use Rattle.work.proofs.Going.{ran_whole}
use Rattle.work.proofs.run.Goals as goal

pub returns : goal.returns
returns c =
    ran_whole _ c.requires.0 _ c.run_until-stop.result _ _ c.run_until-stop.ensures
