-- `with_minimums` meets its contract: NODES and ROWS where the lengths differ; else a minimum above its capacity, or what was found.
use mathlib.Core.Path.{◌≡◌, refl, sym, ap, ap₂, ◌∙◌}
use native.Mathlib.Omega.{arith}
use lib.ListN.{length}
use Rattle.table.specs.Table.{arcs}
use Rattle.table.specs.Checks.{check_of}
use Rattle.table.proofs.Faults.{or_else_fine, or_else_refused}
use Rattle.table.proofs.Refusing.{handed_on}
use Rattle.minimums.specs.Checks.{end_of}
use Rattle.minimums.proofs.Faults.{check_by, check_end, check_few_nodes, check_many_nodes, check_rows}
use Rattle.minimums.proofs.with_minimums.Goals as goal

pub returns-then-n-lt2 : goal.returns-then-n-lt2
returns-then-n-lt2 c = λ t room nodes capacities is. rw c.at.ensures (check_few_nodes t c.args.minimums.now room (omega (arith, nodes, c.if-n-lt2.true)))

pub returns-then-n-gt512 : goal.returns-then-n-gt512
returns-then-n-gt512 c =
    λ t room nodes capacities is.
    rw c.at-then-n-gt512.ensures (check_many_nodes t c.args.minimums.now room (omega (arith, nodes, c.if-n-lt2.false)) (omega (arith, nodes, c.if-n-gt512.true)))

pub returns-then-capacities-minimums : goal.returns-then-capacities-minimums
returns-then-capacities-minimums c =
    λ t room nodes capacities is.
    rw c.at-then-capacities-minimums.ensures
    (check_rows t c.args.minimums.now room (omega (arith, nodes, c.if-n-lt2.false)) (omega (arith, nodes, c.if-n-gt512.false))
    (λ e. c.if-capacities-minimums.true (sym (ap length capacities) ∙ e)))

pub first_above-requires : goal.first_above-requires
first_above-requires c =
    let (t, room, nodes, capacities, is) = c.requires in
    let (most, few) = check_end t c.args.minimums.now room in
    let end : c.end_of.result ≡ end_of (check_of t room) (arcs t) = c.end_of.ensures ∙ ap₂ end_of is (sym (ap length capacities)) in
    let as_many : arcs t ≡ length c.args.capacities.now = ap length capacities in
    let same : length c.args.capacities.now ≡ length c.args.minimums.now = c.if-capacities-minimums.false in
    (omega arith, omega arith, omega arith)

pub returns-in_err-first_above : goal.returns-in_err-first_above
returns-in_err-first_above c =
    λ t room nodes capacities is.
    handed_on c.from_residual.result c.from_residual.ensures.1 (λ y same. same) ∙ sym c.in_err-first_above.was
    ∙ sym (or_else_refused c.first_above.result c.args.found (rw c.in_err-first_above.was refl))
    ∙ check_by t c.args.minimums.now room capacities is c.if-capacities-minimums.false c.end_of.ensures c.first_above.ensures

pub returns : goal.returns
returns c =
    λ t room nodes capacities is.
    sym (or_else_fine c.first_above.result c.args.found (rw c.in_ok-first_above.was refl))
    ∙ check_by t c.args.minimums.now room capacities is c.if-capacities-minimums.false c.end_of.ensures c.first_above.ensures
