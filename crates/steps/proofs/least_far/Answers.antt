-- `least_far` meets its contract. The loop's invariant: the least label of the whole list from `best` is that of the rest from `least`;
-- no residual arc before j leads below `least`, and none before `at` so low.
use Rattle.steps.proofs.Searching.{least_on, least_end, met_within, high_more, high_met}
use Rattle.run.specs.Rows.{state_of}
use Rattle.run.specs.Start.{State}
use Rattle.table.specs.Table.{Table, table_of}
use Rattle.run.specs.Relabel.{least_far}
use lib.ListN.{drop}
use mathlib.Core.List.{List}
use mathlib.Core.Path.{sym, ap, ◌∙◌}
use Prim.Native.Nat.{ℕ, ◌+◌}
use native.Mathlib.Omega.{arith}
use Rattle.steps.proofs.least_far.Goals as goal

pub loop-j-preserved : goal.loop-j-preserved
loop-j-preserved c =
    let table : ℕ → ℕ → ℕ → List ℕ → Table = λ n s t heads. table_of n s t c.args.table.now.tails.now heads c.args.table.now.capacities.now in
    let state : List ℕ → State = λ excess. state_of c.args.flow.now excess c.args.labels.now in
    let within = c.loop-j-test.true in
    let here = c.loop-j.j in
    let least = c.loop-j.least in
    let label = c.lesser-label.result in (
      omega (arith, met_within least label c.loop-j.at c.met-at.result here c.loop-j.invariant.0 c.met-at.ensures),
      omega (arith, c.lesser-label.ensures.upper_bound, c.loop-j.invariant.1),
      λ n s t heads excess ends_are.
          let T = table n s t heads in
          let S = state excess in
          let i = c.args.i in
          let list = c.args.list.now in
          let known = c.loop-j.invariant.2 n s t heads excess ends_are in
          let is = c.lesser-label.ensures.by_index n s t heads excess (ends_are here within) in (
            known.0 ∙ least_on T S i list here least within ∙ ap (least_far T S i (drop (here + 1) list)) (sym is),
            high_more T S i list here least label known.1 is,
            high_met T S i list here least label c.loop-j.at c.met-at.result c.lesser-label.ensures.upper_bound c.met-at.ensures known.1 known.2,
          ),
    )

pub returns-clause-by_index : goal.returns-clause-by_index
returns-clause-by_index c n s t heads excess ends_are =
    let known = c.loop-j.invariant.2 n s t heads excess ends_are in
    let T = table_of n s t c.args.table.now.tails.now heads c.args.table.now.capacities.now in
    let S = state_of c.args.flow.now excess c.args.labels.now in
    (sym (known.0 ∙ least_end T S c.args.i c.args.list.now c.loop-j.j c.loop-j.least c.loop-j-test.false), known.2)
