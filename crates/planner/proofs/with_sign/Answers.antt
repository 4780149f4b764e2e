-- `with_sign` meets its contract: the value fits 64 bits with a sign.
use Rattle.planner.proofs.Answers.{with_sign_is}
use Rattle.planner.proofs.with_sign.Goals as goal

pub returns : goal.returns
returns c = with_sign_is c.args.answer c.requires
