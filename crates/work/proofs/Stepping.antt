-- Laws of a step over the work row: what its parts leave is a step of the definitions.
use Rattle.std.specs.Prelude.{Option, Some, None}
use Prim.Native.Nat.{ℕ, ◌+◌, ◌-◌, ◌*◌, ◌^◌, ◌≤◌, ◌<◌}
use native.Mathlib.Omega.{arith}
use mathlib.Core.Path.{◌≡◌, ap, ◌∙◌}
use mathlib.Core.Bool.{Bool}
use mathlib.Core.List.{List, ◌++◌, append-nil}
use lib.ListN.{length, set, drop, drop_of_length-le}
use Rattle.rows.specs.Row.{by_node}
use Rattle.table.specs.Table.{Table, arcs}
use Rattle.table.specs.Accepted.{ArcRows}
use Rattle.arcs.specs.Residual.{list}
use Rattle.arcs.proofs.Joined.{list_few}
use Rattle.run.specs.Start.{State, start_flow, start_label_at, start}
use Rattle.run.specs.Choice.{choose}
use Rattle.run.specs.Push.{first_eligible, saturates, push}
use Rattle.run.specs.Relabel.{least_far, top, new_label, relabel}
use Rattle.run.specs.Phase.{one_push, one_relabel, step_at, step}
use Rattle.run.specs.Rows.{state_of, run_of}
use Rattle.run.specs.declared.Counts.{Counts}
use Rattle.tournament.specs.Tournament.{Chose}
use Rattle.steps.specs.Rows.{Pushed}

-- States whose rows are equal are equal.
pub same_state : {flow flow' excess excess' label label' : List ℕ} → flow ≡ flow' → excess ≡ excess' → label ≡ label'
    → state_of flow excess label ≡ state_of flow' excess' label'
same_state p q r = rw (p, q, r)

-- The choice that the tournament gives is the choice.
pub choice_is : (t : Table) (delta : ℕ) (st : State) (answer : Option ℕ) (tree : List ℕ) → Chose t.nodes delta st.excess st.label tree answer
    → answer ≡ choose t delta st
unfolding choose
choice_is t delta st answer tree chose = chose.is

-- The label that the code answers, from node i's list, is the new one.
pub label_is : (t : Table) (st : State) (i : ℕ) (places : List ℕ) (label : ℕ) → length st.label ≡ t.nodes → places ≡ list t i
    → label ≡ least_far t st i places (2 * length st.label) + 1 → label ≡ new_label t st i
label_is t st i places label long listed e =
    e ∙ ap (λ (n : ℕ). least_far t st i places (2 * n) + 1) long ∙ ap (λ (l : List ℕ). least_far t st i l (top t) + 1) listed

-- What a push leaves is the state after it.
pub pushed_state : {t : Table} {delta i k : ℕ} {st : State} {flow excess : List ℕ} {full : Bool} → Pushed t delta st i k flow excess full
    → state_of flow excess st.label ≡ push t delta st i k
unfolding push
pushed_state p = rw (p.flow_is, p.excess_is)

module _ (t : Table) (delta : ℕ) (st : State) (counts : Counts) (i : ℕ) (after : State) (counted : Counts) where
  -- Where the search found a place a step is a push along it,
  pub step_push : (k : ℕ) (full : Bool) → Some k ≡ first_eligible t st i (list t i) → after ≡ push t delta st i k
      → full ≡ saturates t delta st i k → counted ≡ one_push counts full → run_of after counted ≡ step t delta (run_of st counts) i
  unfolding step step_at
  step_push k full found state_is Full-is counts_are = rw (← found, state_is, counts_are, Full-is)

  -- and where it found none a step is a relabel.
  pub step_relabel : (label : ℕ) → None ≡ first_eligible t st i (list t i) → label ≡ new_label t st i
      → after ≡ state_of st.flow st.excess (set st.label (i - 1) label) → counted ≡ one_relabel counts
      → run_of after counted ≡ step t delta (run_of st counts) i
  unfolding step step_at relabel
  step_relabel label found label_is state_is counts_are = rw (← found, state_is, counts_are, label_is)

-- The rows of the start make its state.
pub start_is : (t : Table) (before flow excess label : List ℕ) → length before ≡ arcs t → flow ≡ start_flow t ++ drop (arcs t) before
    → excess ≡ (start t).excess → label ≡ by_node (start_label_at t) t.nodes → state_of flow excess label ≡ start t
unfolding start
start_is t before flow excess label long flow_is excess_is label_is =
    let past : length before ≤ arcs t = omega arith in
    same_state (flow_is ∙ rw (drop_of_length-le before past, append-nil)) excess_is label_is

-- A node's list is short enough to be counted in 32 bits.
pub list_short : (t : Table) (i : ℕ) → ArcRows t.nodes t.tails t.heads t.capacities → length (list t i) < 2 ^ 32
unfolding list
list_short t i rows = omega (arith, list_few t i (arcs t), rows.ends.few_arcs, rows.capacities_long)
