-- Laws of what a step brings to the sink, and of the net flow into it.
use Rattle.std.specs.Prelude.{Some, None}
use Prim.Native.Nat.{ℕ}
use mathlib.Core.Path.{◌≡◌, refl}
use mathlib.Core.List.{List}
use Rattle.table.specs.Table.{Table, table_of}
use Rattle.network.specs.Network.{inflow, outflow}
use Rattle.arcs.specs.Residual.{list}
use Rattle.run.specs.Start.{State}
use Rattle.run.specs.Push.{first_eligible}
use Rattle.run.specs.Phase.{value}
use Rattle.until.specs.Stopping.{into_sink}
use Rattle.until.specs.Gain.{gain_along, gain}

module _ (t : Table) (delta : ℕ) (st : State) (i : ℕ) where
  -- Where the search found a place the step brings the sink what the push along it does,
  pub gain_push : (k g : ℕ) → Some k ≡ first_eligible t st i (list t i) → g ≡ gain_along t delta st i k → g ≡ gain t delta st i
  unfolding gain
  gain_push k g found is = rw (← found) is

  -- and else nothing.
  pub gain_relabel : None ≡ first_eligible t st i (list t i) → gain t delta st i ≡ 0
  unfolding gain
  gain_relabel found = rw (← found)

-- The value of the table with tails and heads exchanged, from the sink, is the net flow into the sink.
pub exchanged : (n s t other : ℕ) (tails heads capacities flow : List ℕ)
    → value (table_of n t other heads tails capacities) flow ≡ into_sink (table_of n s t tails heads capacities) flow
unfolding value into_sink inflow outflow
exchanged n s t other tails heads capacities flow = refl
