-- What the run that stops leaves of an accepted table: for the contracts of private functions.
use Rattle.std.specs.Prelude.{ℕ, ◌≡◌, List}
use Rattle.rows.specs.Row.{cleared}
use Rattle.table.specs.Table.{Table, arcs}
use Rattle.run.specs.Scale.{phase_count, scale}
use Rattle.until.specs.Stopping.{into_sink, stopped}
use Rattle.work.specs.declared.Stop.{Stop}
use Rattle.asking.specs.Asking.{room_need}

-- The counts and the net flow into the sink at the stop, K and D of the whole run, and a cleared work row.
pub record Halted (t : Table) (q : ℕ) (work : List ℕ) (stop : Stop) (work_left : List ℕ) : Type 0 where
  pub counts_are : stop.counts ≡ (stopped t q).counts
  pub sink_is : stop.sink ≡ into_sink t (stopped t q).state.flow
  pub phases_are : stop.phases ≡ phase_count t
  pub scale_is : stop.scale ≡ scale t
  pub work_is : work_left ≡ cleared (room_need t.nodes (arcs t)) work
