-- `list_flow` meets its contract: no search was made yet, so all begin at 0.
use native.Mathlib.Omega.{arith}
use Rattle.std.proofs.lemmas.Grind.{common_steps}
use Rattle.walks.proofs.Scanning.{ahead_starts}
use Rattle.walks.proofs.list_flow.Goals as goal

pub write_list-requires-clause-ready : goal.write_list-requires-clause-ready
write_list-requires-clause-ready c = record {
  ends = c.requires.0;
  left_long = grind (arith, common_steps, c.copy_from_slice.auto.self, c.requires.2, c.requires.0.few_arcs);
  first_long = omega (arith, c.requires.0.few_nodes);
  ahead = ahead_starts _ _ 512;
}
