-- `take_text` meets its contract: the pairs' chains lead to the capacities, from which the amounts are taken.
use Prim.Native.Nat.{ℕ}
use native.Mathlib.Omega.{arith}
use lib.ListN.{length}
use Rattle.rows.specs.Row.{at_place}
use Rattle.scan.specs.Parts.{lines}
use Rattle.amounts.specs.Lines.{amounts_of}
use Rattle.pairs.specs.Places.{first_to}
use Rattle.plan.proofs.Amounts.{took_below}
use Rattle.plan.proofs.Deciding.{zeros_length, zeros_row}
use Rattle.plan.proofs.take_text.Goals as goal

pub index_arcs-requires : goal.index_arcs-requires
index_arcs-requires c =
    let ends = c.requires.arc_rows.0.ends in record {
      arc_ends = (ends, omega (arith, zeros_length 4096, ends.few_nodes), omega (arith, zeros_length 4096, ends.few_arcs));
      zeros = (zeros_row 4096, zeros_row 4096);
    }

pub fill_room-requires : goal.fill_room-requires
fill_room-requires c = record {
  arc_rows = (c.requires.arc_rows.0, omega (arith, zeros_length 4096, c.requires.arc_rows.0.ends.few_arcs), zeros_row 4096);
  places = c.index_arcs.ensures;
}

pub returns : goal.returns
returns c =
    let places : ℕ → ℕ → ℕ = first_to (at_place c.args.tails.now) (at_place c.args.heads.now) (length c.args.tails.now) in
    let a = c.args in record {
      outs = c.take_amounts.ensures.outs;
      intos = c.take_amounts.ensures.intos;
      pairs = took_below places a.tails.now a.heads.now a.capacities.now c.fill_room.new.room c.fill_room.ensures (amounts_of (lines a.text.now)) c.take_amounts.result
          (c.take_amounts.ensures.pairs places c.index_arcs.ensures);
    }
