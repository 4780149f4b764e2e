-- `halt_rows` meets its contract: the lists are filled in, the run is made in the first m places of the flow row, and the work row is cleared.
use Prim.Native.Nat.{ℕ}
use mathlib.Core.Path.{◌≡◌, sym, ◌∙◌, subst}
use mathlib.Core.List.{List}
use native.Mathlib.Omega.{arith}
use lib.ListN.{length, take}
use lib.Seq.{length-take-le}
use Rattle.table.specs.Table.{Table, table_in}
use Rattle.arcs.specs.Work.{InWork, ElseSame}
use Rattle.arcs.proofs.Ends.{ends_wide}
use Rattle.room.proofs.Halting.{cleared_is}
use Rattle.room.proofs.halt_rows.Goals as goal

pub fill_work-requires : goal.fill_work-requires
fill_work-requires c =
    let rows = c.requires.accepted.rows in
    (ends_wide rows.ends, omega (arith, rows.capacities_long, c.requires.capacities_in_bounds.1))

pub slice_bounds-run_until-end-2 : goal.slice_bounds-run_until-end-2
slice_bounds-run_until-end-2 c =
    let part_long : length (take (length c.args.table.now.capacities.now) c.args.flow.now) ≡ length c.args.table.now.capacities.now = length-take-le _ _ c.requires.capacities_in_bounds.0 in
    sym part_long

pub run_until-stop-requires : goal.run_until-stop-requires
run_until-stop-requires c =
    let table : Table = table_in c.args.table.now in
    let filled : List ℕ = c.fill_work.new.work in
    let in_work : InWork table filled = c.fill_work.ensures.listed _ _ _ c.requires.accepted.rows.capacities_long in
    let part_long : length (take (length c.args.table.now.capacities.now) c.args.flow.now) ≡ length c.args.table.now.capacities.now = length-take-le _ _ c.requires.capacities_in_bounds.0 in
    (c.requires.accepted, in_work, part_long)

pub room_need-requires : goal.room_need-requires
room_need-requires c =
    let rows = c.requires.accepted.rows in
    omega (arith, rows.ends.few_arcs, rows.capacities_long)

pub clear-requires : goal.clear-requires
clear-requires c =
    omega (arith, c.room_need.ensures, c.requires.capacities_in_bounds.1, c.fill_work.auto.work, c.run_until-stop.auto.work)

pub returns : goal.returns
returns c =
    let filled : List ℕ = c.fill_work.new.work in
    let given = c.args in
    record {
      counts_are = c.run_until-stop.ensures.counts_are;
      sink_is = c.run_until-stop.ensures.sink_is;
      phases_are = c.run_until-stop.ensures.phases_are;
      scale_is = c.run_until-stop.ensures.scale_is;
      work_is =
          c.clear.ensures
          ∙ cleared_is given.table.now.nodes (length given.table.now.capacities.now) _ c.room_need.ensures given.work.now filled c.run_until-stop.new.work
          (subst (λ (k : ℕ). ElseSame given.table.now.nodes k given.work.now filled) (sym c.requires.accepted.rows.capacities_long) c.fill_work.ensures.same) c.run_until-stop.ensures.lists_stay;
    }
