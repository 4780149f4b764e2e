-- What the promise leaves open: nothing.
use Rattle.std.proofs.Common.{◌≡◌, ℕ, List, take, sym, ◌∙◌}
use Rattle.table.specs.Table.{Table, arcs, network_of}
use Rattle.minimums.specs.BoundedTable.{BoundedTable}
use Rattle.solver.specs.Solving.{Left}
use Rattle.shortest.specs.Augment.{GoesOn}
use Rattle.shortest.proofs.Settling.{goes_on_same}
use Rattle.opening.specs.Opening.{opening, Reopens}

-- Two results that meet the promise are equal, the lent rows too.
pub open_unique : (b : BoundedTable) (stamp place capacity : ℕ) (flow side work : List ℕ) (l k : Left)
    → l ≡ opening b stamp place capacity flow side work → k ≡ opening b stamp place capacity flow side work → l ≡ k
open_unique b stamp place capacity flow side work l k p q = p ∙ sym q

-- Document 02's chains lead to no other flow.
pub chains_only : (t new : Table) (flow : List ℕ) (l : Left) → Reopens t new flow l
    → (last : List ℕ) → GoesOn (network_of new) (take (arcs new) flow) last → last ≡ take (arcs new) l.flow
chains_only t new flow l opens last goes = goes_on_same (network_of new) goes opens.chains
