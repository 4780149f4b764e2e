-- `extend` meets its contract: the chain is found, and filled.
use Prim.Native.Nat.{◌≤◌, ◌<◌}
use native.Mathlib.Omega.{arith}
use lib.ListN.{length}
use Rattle.augment.proofs.Extending.{extend_stops, extend_goes, extend_chain, extend_least, part_fits, part_filled, extend_filled, extend_known}
use Rattle.augment.proofs.extend.Goals as goal

pub returns-then-least-eq0-clause-row : goal.returns-then-least-eq0-clause-row
returns-then-least-eq0-clause-row c = extend_stops c.requires.ready c.find-least.ensures c.if-least-eq0.true

pub fill-requires-clause-fits : goal.fill-requires-clause-fits
fill-requires-clause-fits c =
    let some : 0 < c.find-least.result = let ne = c.if-least-eq0.false in omega arith in
    (part_fits c.requires.ready (extend_goes c.requires.ready c.find-least.ensures some) (extend_chain c.requires.ready c.find-least.ensures some) (extend_least c.requires.ready c.find-least.ensures some)).0

pub returns : goal.returns
returns c =
    let room : c.args.bounded.table.nodes ≤ length c.find-least.new.chain = omega (arith, c.find-least.auto.chain, c.requires.lowest_len.2) in
    let some : 0 < c.find-least.result = let ne = c.if-least-eq0.false in omega arith in
    let filled =
    part_filled c.requires.ready (extend_goes c.requires.ready c.find-least.ensures some) (extend_chain c.requires.ready c.find-least.ensures some) (extend_least c.requires.ready c.find-least.ensures some) c.fill.ensures in record {
      row = extend_filled c.requires.ready c.find-least.ensures some filled;
      known = extend_known c.requires.ready c.find-least.ensures some filled room;
    }
