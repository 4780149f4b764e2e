-- Document 02, CR 13: one arc raised, and what that does to the largest value. Of networks, so beyond the capacity limit too.
use Rattle.std.specs.Prelude.{ℕ, ◌+◌, ◌≡◌, Bool, cond, ◌&&◌, eqb}
use Rattle.network.specs.Network.{Network, Flow, Maximum, inflow, outflow}

-- The network with the arc at place a raised by some units.
abbrev pub raised_by : Network → (a units : ℕ) → Network
raised_by N a units =
    record {
      n = N.n;
      m = N.m;
      s = N.s;
      t = N.t;
      tail = N.tail;
      head = N.head;
      capacity = λ k. cond (eqb k a) (N.capacity a + units) (N.capacity k);
      low = N.low;
    }

-- The value of a flow of M is d above the value of a flow of N (both sides without a difference).
abbrev pub ValueRises : (N : Network) → (ℕ → ℕ) → (M : Network) → (ℕ → ℕ) → ℕ → Type 0
ValueRises N flow M other d = outflow M other M.s + inflow N flow N.s ≡ outflow N flow N.s + inflow M other M.s + d

-- Raising the arc at place a by some units raises the value of this flow by d: the raised network has a largest flow, and each has a value d above.
pub record Rises (N : Network) (flow : ℕ → ℕ) (a units d : ℕ) : Type 0 where
  pub some : (other : ℕ → ℕ) × Flow (raised_by N a units) other × Maximum (raised_by N a units) other
  pub each : (other : ℕ → ℕ) → Flow (raised_by N a units) other → Maximum (raised_by N a units) other → ValueRises N flow (raised_by N a units) other d

-- The same of one unit.
abbrev pub RisesBy : (N : Network) → (ℕ → ℕ) → (a d : ℕ) → Type 0
RisesBy N flow a d = Rises N flow a 1 d

-- Whether an arc would help: its tail is on the source side R, and its head among the nodes L that reach the sink.
abbrev pub helps_in : Network → (R L : ℕ → Bool) → ℕ → Bool
helps_in N R L a = R (N.tail a) && L (N.head a)
