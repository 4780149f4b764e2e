-- What the functions below the call may rely on once the whole call's checks have found nothing.
use Rattle.std.specs.Prelude.{ℕ, ◌+◌, ◌*◌, ◌≤◌, ◌<◌, ◌≡◌, length}
use Rattle.tally.specs.declared.Tally.{Tally}
use Rattle.days.specs.Days.{Days, tables, start_of}

-- What a month that is not refused may rely on: few days, rows of one length, starts that do not fall or pass the end, and room.
pub record Ready (d : Days) (flow side answers : ℕ) : Type 0 where
  pub few : tables d ≤ 31
  pub tails_long : length d.tails ≡ length d.capacities
  pub heads_long : length d.heads ≡ length d.capacities
  pub minimums_long : length d.minimums ≡ length d.capacities
  pub nodes_long : length d.nodes ≡ tables d
  pub sources_long : length d.sources ≡ tables d
  pub sinks_long : length d.sinks ≡ tables d
  pub stamps_long : length d.stamps ≡ tables d
  pub rise : (j : ℕ) → j < tables d → start_of d j ≤ start_of d (j + 1)
  pub for_flow : length d.capacities ≤ flow
  pub for_side : 512 * tables d ≤ side
  pub for_answers : 9 * tables d ≤ answers

-- The sums of the first j days are small: at most j tables, and 4,096,000,000 each.
pub record Countable (j : ℕ) (b : Tally) : Type 0 where
  pub tables_few : b.solved ≤ j
  pub total_small : b.total ≤ 4096000000 * j
