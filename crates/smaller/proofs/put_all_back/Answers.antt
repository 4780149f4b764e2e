-- `put_all_back` meets its contract: the flow, then the side by it, then the work row.
use Rattle.std.proofs.Common.{◌≡◌, ℕ, List, length, sym, ap, ◌∙◌, arith}
use mathlib.Core.Path.{subst⁻¹}
use Rattle.rows.specs.Row.{by_place, cleared}
use Rattle.rows.proofs.Rows.{fill_all}
use Rattle.table.specs.Accepted.{ArcEnds}
use Rattle.shrinking.specs.Smaller.{arc_by, back_by}
use Rattle.smaller.proofs.put_all_back.Goals as goal

pub put_back-requires : goal.put_back-requires
put_back-requires c =
    let longs : (length c.args.table.now.tails.now ≡ length c.args.table.now.capacities.now) × (length c.args.flow.now ≡ length c.args.table.now.tails.now) = let long = c.requires.fact.0.rows.capacities_long in (sym long, c.requires.ahead_len.3 ∙ long) in
    let ends = c.requires.fact.0.rows.ends in (
      subst⁻¹ (λ n. ArcEnds n c.args.table.now.tails.now c.args.table.now.heads.now) c.requires.ahead_len.0 ends,
      omega (arith, c.requires.ahead_len.0, c.requires.ahead_len.1),
      sym longs.0,
      omega (arith, longs.1),
      omega (arith, longs.0, c.requires.ahead_len.2),
    )

pub mark-requires : goal.mark-requires
mark-requires c = record {
  arc_rows = (c.requires.fact.0.rows, omega (arith, c.put_back.auto.flow, c.requires.ahead_len.3), c.requires.fact.0.source);
  by_index = (_, _, c.requires.fact.1);
  n_in_bounds = c.requires.ahead_len.4;
}

pub work_need-requires : goal.work_need-requires
work_need-requires c =
    omega (arith, c.requires.fact.0.rows.ends.few_arcs, c.requires.fact.0.rows.capacities_long)

pub clear-requires : goal.clear-requires
clear-requires c = omega (arith, c.work_need.ensures, c.requires.ahead_len.5)

pub returns : goal.returns
returns c =
    let longs : (length c.args.table.now.tails.now ≡ length c.args.table.now.capacities.now) × (length c.args.flow.now ≡ length c.args.table.now.tails.now) = let long = c.requires.fact.0.rows.capacities_long in (sym long, c.requires.ahead_len.3 ∙ long) in
    let back : ℕ → ℕ = let args = c.args in back_by (arc_by args.ahead.now args.behind.now args.table.now.tails.now args.table.now.heads.now args.table.now.capacities.now) args.flows.now in
    let flow : List ℕ = c.put_back.new.flow in
    let flow_is : flow ≡ by_place back (length c.args.table.now.capacities.now) = c.put_back.ensures ∙ fill_all back (length c.args.table.now.tails.now) c.args.flow.now (omega (arith, longs.1)) ∙ ap (by_place back) longs.0 in
    record {
      flow_value = flow_is;
      side_value = c.mark.ensures _;
      work_value = c.clear.ensures ∙ ap (λ (need : ℕ). cleared need c.args.work.now) c.work_need.ensures;
    }
