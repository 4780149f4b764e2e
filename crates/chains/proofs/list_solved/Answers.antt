-- `list_solved` meets its contract: by whether the list is longer than its row.
use Rattle.chains.proofs.Handing.{too_long, short_enough}
use Rattle.pieces.specs.Chains.{list_of}
use Prim.Native.Nat.{ℕ}
use mathlib.Core.List.{List}
use lib.ListN.{length, take}
use mathlib.Core.Path.{ap, ◌∙◌}
use Rattle.table.specs.declared.Refusal.{Refusal}
use Rattle.chains.specs.Listing.{unlisted}
use Rattle.chains.proofs.list_solved.Goals as goal

pub returns-then-list-needed : goal.returns-then-list-needed
returns-then-list-needed c =
    let numbers : List ℕ = list_of c.args.table.now.nodes c.args.table.now.source c.args.table.now.sink c.args.table.now.tails.now c.args.table.now.heads.now (take (length c.args.table.now.tails.now) c.args.flows.now) in
    too_long c.args.answer c.args.table.now.nodes (length c.args.table.now.tails.now) c.args.flows.now c.args.marks.now numbers c.args.flow.now c.args.side.now c.args.work.now c.args.list.now _ c.list_flow-needed.ensures.counted c.if-list-needed.true c.into.result (c.into.ensures ∙ ap (λ (r : Refusal). unlisted r.name r.place) c.at.ensures)

pub returns : goal.returns
returns c =
    let numbers : List ℕ = list_of c.args.table.now.nodes c.args.table.now.source c.args.table.now.sink c.args.table.now.tails.now c.args.table.now.heads.now (take (length c.args.table.now.tails.now) c.args.flows.now) in
    short_enough c.args.answer c.args.table.now.nodes (length c.args.table.now.tails.now) c.args.flows.now c.args.marks.now numbers c.args.flow.now c.args.side.now c.args.work.now c.args.list.now _ c.list_flow-needed.ensures.counted c.if-list-needed.false _ _ _ _ _ c.hand_over.ensures.flow_value c.hand_over.ensures.side_value c.hand_over.ensures.work_value c.list_flow-filled.ensures.counted c.list_flow-filled.ensures.stored
