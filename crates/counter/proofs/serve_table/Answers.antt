-- `serve_table` meets its contract: what solving left is printed.
use Rattle.counter.proofs.Solves.{few_nodes, few_arcs, prints_left}
use Rattle.minimums.specs.BoundedTable.{BoundedTable, bounded_in}
use Rattle.planner.specs.Solving.{signed_left}
use borrow.Author.Rules.{rules}
use Rattle.counter.proofs.serve_table.Goals as goal

pub print_left-requires : goal.print_left-requires
print_left-requires c =
    let table : BoundedTable = bounded_in c.args.bounded.now in (
      search (rules, few_nodes table c.requires),
      search (rules, few_arcs table c.requires),
      λ none. (c.solve-solved.ensures.best none).greatest.range,
    )

pub returns : goal.returns
returns c =
    let table : BoundedTable = bounded_in c.args.bounded.now in
    prints_left table c.requires (signed_left c.solve-solved.result _ _ _) c.solve-solved.ensures.exact c.print_left.ensures
