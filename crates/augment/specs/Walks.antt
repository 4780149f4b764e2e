-- How the code finds the chain to fill: by labels that were distances once or have risen, and by places noted for the nodes. For the contracts of the functions that walk.
use Rattle.std.specs.Prelude.{ℕ, ◌+◌, ◌-◌, ◌≤◌, ◌<◌, ◌≡◌, cond, false, List, take, set}
use Rattle.rows.specs.Row.{at_node, Node}
use Rattle.network.specs.Network.{Network}
use Rattle.shortest.specs.Ways.{Ways, Leads, other_end}
use Rattle.shortest.specs.Distance.{leads_to, chain_from}
use Rattle.shortest.specs.Labels.{Labels, NoneLower, arrives}
use Rattle.shortest.specs.Augment.{ways_in, least_residual, reaches, chain_in}

-- No place below `from` leads from node i to a node with the label d.
abbrev pub NoneBelow : Ways → (dist : List ℕ) (d i from : ℕ) → Type 0
NoneBelow w dist d i from = (k : ℕ) → k < from → leads_to w dist d i k ≡ false

-- What is noted for the nodes: for each a place below which none leads one nearer, with its far end beside it; or no place.
pub record Noted (w : Ways) (n : ℕ) (dist lowest far : List ℕ) : Type 0 where
  pub none_lower : NoneLower w n dist lowest
  pub far_end : (i : ℕ) → Node n i → at_node lowest i < w.places → at_node far i ≡ other_end w i (at_node lowest i)

-- What is known of the residual arcs from one chain to the next: labels that are nowhere above the distance, and what is noted for the nodes.
pub record Known (w : Ways) (n t : ℕ) (dist lowest far : List ℕ) : Type 0 where
  pub labels : Labels w n t dist
  pub noted : Noted w n dist lowest far

-- The walk from the source by the labels: the least residual of its chain where it arrives, else 0; the chain's places, and what is noted for the nodes.
pub record Walked (N : Network) (flow dist lowest far chain : List ℕ) (amount : ℕ) : Type 0 where
  pub told : amount ≡ cond (arrives (ways_in N flow) dist (at_node dist N.s) N.s) (least_residual N flow N.s (chain_from (ways_in N flow) dist (at_node dist N.s) N.s)) 0
  pub places : 0 < amount → take (at_node dist N.s) chain ≡ chain_from (ways_in N flow) dist (at_node dist N.s) N.s
  pub noted : Noted (ways_in N flow) N.n dist lowest far

-- Where a walk did not arrive, it ended at a node other than the sink: its label is above 0.
abbrev pub DeadEnd : (n : ℕ) (dist : List ℕ) (amount end : ℕ) → Type 0
DeadEnd n dist amount end = amount ≡ 0 → Node n end × (0 < at_node dist end)

-- Labels, whichever node they lead to.
abbrev pub Labelled : Ways → (n : ℕ) (row : List ℕ) → Type 0
Labelled w n row = (t : ℕ) × Labels w n t row

-- Node i's label may rise to v as far as the arc at place k goes: v is not below it, and at most one above the far end's label where the arc is open.
pub record RiseOver (w : Ways) (row : List ℕ) (i k v : ℕ) : Type 0 where
  pub up : at_node row i ≤ v
  pub down : (j : ℕ) → Leads w k i j → v ≤ at_node row j + 1

-- Node i's label may rise to v: v is not below it, at most n, and at most one above the label of each node to which an open arc leads.
pub record Rise (w : Ways) (n : ℕ) (row : List ℕ) (i v : ℕ) : Type 0 where
  pub at_most : v ≤ n
  pub up : at_node row i ≤ v
  pub down : (k j : ℕ) → Leads w k i j → v ≤ at_node row j + 1

-- Node i's label has risen, and no place is noted for it.
pub record Relabelled (w : Ways) (n i : ℕ) (dist lowest dist' lowest' : List ℕ) : Type 0 where
  pub label : ℕ
  pub rises : Rise w n dist i label
  pub labels : dist' ≡ set dist (i - 1) label
  pub places : lowest' ≡ set lowest (i - 1) w.places

-- The chain to fill: its least residual where there is one, else 0; its places, and what is known then.
pub record Found (N : Network) (flow dist lowest far chain : List ℕ) (amount : ℕ) : Type 0 where
  pub told : amount ≡ cond (reaches N flow) (least_residual N flow N.s (chain_in N flow)) 0
  pub places : 0 < amount → take (at_node dist N.s) chain ≡ chain_in N flow
  pub known : Known (ways_in N flow) N.n N.t dist lowest far

-- One walk: what is known then, and the chain to fill where it arrived.
pub record Attempted (N : Network) (flow dist lowest far chain : List ℕ) (amount : ℕ) : Type 0 where
  pub known : Known (ways_in N flow) N.n N.t dist lowest far
  pub found : 0 < amount → Found N flow dist lowest far chain amount
