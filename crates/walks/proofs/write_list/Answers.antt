-- `write_list` meets its contract. The invariant: what was counted and stored so far, and the searches begin where nothing before has flow left.
use Prim.Native.Nat.{◌≤◌}
use mathlib.Core.Path.{refl, sym, ◌∙◌}
use native.Mathlib.Omega.{arith}
use lib.ListN.{length}
use Rattle.walks.proofs.Listing.{counting_starts, counting_none, counting_out, counting_turn, piece_short}
use Rattle.walks.proofs.Nexts.{none_without}
use Rattle.walks.proofs.Scanning.{remaining_first}
use Rattle.walks.proofs.write_list.Goals as goal

pub loop-done-init : goal.loop-done-init
loop-done-init c =
    (refl, c.requires.ready, (omega arith, λ j l. absurd (omega arith)), counting_starts _ _ _ _ _ _ _)

pub first_left-requires : goal.first_left-requires
first_left-requires c = record {
  left_len = (c.loop-done.invariant.1.left_long, c.loop-done.invariant.2.0);
  none_before = c.loop-done.invariant.2.1;
}

pub returns-in_default : goal.returns-in_default
returns-in_default c =
    counting_none _ _ _ _ _ _ _ _ _ _ _ c.loop-done.invariant.3 _ (sym c.in_default.ensures) (omega arith) c.loop-done.invariant.1.ends.few_arcs

pub take_next-taken-requires : goal.take_next-taken-requires
take_next-taken-requires c = record {
  ready = c.loop-done.invariant.1;
  nodes_in_bounds = (omega (arith, c.loop-done.invariant.0, c.requires.nodes_in_bounds.0), omega (arith, c.loop-done.invariant.0, c.requires.nodes_in_bounds.1), omega (arith, c.loop-done.auto.turns, c.requires.nodes_in_bounds.2), c.requires.nodes_in_bounds.3);
  lowest_value = c.in-Some.ensures;
}

pub write_piece-at-requires : goal.write_piece-at-requires
write_piece-at-requires c =
    let few : length c.take_next-taken.new.walked ≤ 512 = omega (arith, c.take_next-taken.auto.walked, c.loop-done.invariant.0, c.requires.nodes_in_bounds.1) in (
      omega (arith, c.loop-done.invariant.3.bounded, c.loop-done.invariant.3.within, c.loop-done.invariant.1.ends.few_arcs),
      piece_short _ _ _ _ _ _ _ _ _ _ _ c.loop-done.invariant.3 c.loop-done-test.true _ c.in-Some.ensures.0 c.in-Some.ensures.1 _ _ _ _ _ c.take_next-taken.ensures.took few,
    )

pub loop-done-preserved : goal.loop-done-preserved
loop-done-preserved c =
    let few : length c.take_next-taken.new.walked ≤ 512 = omega (arith, c.take_next-taken.auto.walked, c.loop-done.invariant.0, c.requires.nodes_in_bounds.1) in (
      c.take_next-taken.auto.walked ∙ c.loop-done.invariant.0,
      record {
        ends = c.loop-done.invariant.1.ends;
        left_long = c.take_next-taken.auto.left ∙ c.loop-done.invariant.1.left_long;
        first_long = omega (arith, c.loop-done.invariant.1.first_long, c.take_next-taken.auto.first);
        ahead = c.take_next-taken.ensures.ahead;
      },
      (
        omega (arith, c.in-Some.ensures.1),
        none_without c.loop-done.left _ _ _ (remaining_first c.args.tails.now c.loop-done.left _ c.in-Some.ensures.0) c.take_next-taken.ensures.left_value,
      ),
      counting_turn _ _ _ _ _ _ _ _ _ _ _ c.loop-done.invariant.3 c.loop-done-test.true _ c.in-Some.ensures.0 c.in-Some.ensures.1 _ _ _ _ _ c.take_next-taken.ensures.took
          _ _ _ c.loop-done.auto.list few c.take_next-taken.ensures.left_value c.write_piece-at.ensures.value c.write_piece-at.ensures.list_value,
    )

pub returns : goal.returns
returns c = counting_out _ _ _ _ _ _ _ _ _ _ _ c.loop-done.invariant.3 c.loop-done-test.false c.loop-done.invariant.1.ends.few_arcs
