-- An opening's promise, by what the checks find.
use Rattle.std.specs.Prelude.{Ok, Err}
use Rattle.std.proofs.Common.{◌≡◌, ℕ, ◌≤◌, List, ◌++◌, length, take, drop, set, replicate, sym, refl, ap, ◌∙◌, subst, arith, length-take-le, get_or-take, take_at}
use Rattle.rows.specs.Row.{at_place}
use Rattle.network.specs.Network.{Flow}
use Rattle.network.proofs.Agree.{flow_agree}
use Rattle.table.specs.Table.{Table, table_of, arcs, network_of}
use Rattle.table.specs.Accepted.{Accepted}
use Rattle.table.specs.Checks.{is_fine, or_else, no_refusal, refused, Verdict}
use Rattle.table.specs.declared.Name.{Name}
use Rattle.table.specs.Refusals.{refusal_in}
use Rattle.table.proofs.Numbers.{number_positive}
use Rattle.reach.specs.Side.{side_of}
use Rattle.reach.proofs.Side.{length_of_side}
use Rattle.run.proofs.Networks.{accepted_sound}
use Rattle.arcs.specs.Work.{work_need, InWork}
use Rattle.arcs.proofs.Work.{in_work_as_many}
use Rattle.solver.specs.declared.Answer.{Answer}
use Rattle.solver.specs.Solving.{Left, left, has_room, refusal, answer_with}
use Rattle.minimums.specs.BoundedTable.{BoundedTable}
use Rattle.minimums.specs.Checks.{plain_check}
use Rattle.minimums.proofs.Accepting.{plain_accepts}
use Rattle.solver.proofs.Solved.{Roomy, room_roomy}
use Rattle.shortest.specs.Augment.{settled}
use Rattle.opening.specs.Maximum.{MaximumFlow}
use Rattle.opening.specs.Opening.{opened, change_verdict, opening_verdict, went_on, opening_as, opening, Reopens}
use Rattle.opening.specs.Steps.{Opens}
use Rattle.opening.proofs.Opened.{as_many, opened_accepted, opened_flow}
use Rattle.opening.proofs.Fresh.{last_best, last_chains, last_long, fresh_value, fresh_side}
use Rattle.opening.proofs.Going.{went_longer}
use Rattle.opening.proofs.Verdicts.{change_opens, fine_opens, notmax_not}

-- ---- the new table and the flow in it

module _ {t : Table} {place new : ℕ} {flow : List ℕ} {side work : ℕ} (opens : Opens t place new flow side work) where
  -- The new table is accepted,
  pub new_accepted : Accepted (opened t place new)
  new_accepted = opened_accepted t place new opens.below opens.accepted opens.small

  -- has as many arcs,
  pub new_many : arcs (opened t place new) ≡ arcs t
  new_many = as_many t place new opens.below

  -- and the row's first m numbers are a flow of it.
  pub new_flow : Flow (network_of (opened t place new)) (at_place flow)
  new_flow = opened_flow t place new opens.below opens.more (at_place flow) opens.was

  -- and so is their part of the row,
  pub new_part : Flow (network_of (opened t place new)) (at_place (take (arcs (opened t place new)) flow))
  new_part =
      flow_agree (network_of (opened t place new)) (at_place flow) (at_place (take (arcs (opened t place new)) flow))
      (λ k l. sym (get_or-take (arcs (opened t place new)) flow k 0 l)) new_flow

  -- which has a number for each arc.
  pub part_long : length (take (arcs (opened t place new)) flow) ≡ arcs (opened t place new)
  part_long = length-take-le (arcs (opened t place new)) flow (omega (arith, new_many, opens.for_flow))

  -- The same holds of the part of the flow row.
  pub opens_part : Opens t place new (take (arcs t) flow) side work
  opens_part =
      record {
        accepted = opens.accepted;
        for_flow = omega (arith, length-take-le (arcs t) flow opens.for_flow);
        for_side = opens.for_side;
        for_work = opens.for_work;
        below = opens.below;
        small = opens.small;
        more = opens.more;
        was = flow_agree (network_of t) (at_place flow) (at_place (take (arcs t) flow)) (λ k l. sym (get_or-take (arcs t) flow k 0 l)) opens.was;
      }

  -- What `go_on_rows` asks, where `row` has the new capacities.
  pub rows_ask : {minimums row lists : List ℕ} → length flow ≡ arcs t → minimums ≡ replicate (arcs t) 0
      → InWork t lists → row ≡ set t.capacities place new
      → Accepted (table_of t.nodes t.source t.sink t.tails t.heads row)
      × ((minimums ≡ replicate (length row) 0)
      × (InWork (table_of t.nodes t.source t.sink t.tails t.heads row) lists
      × (Flow (network_of (table_of t.nodes t.source t.sink t.tails t.heads row)) (at_place flow)
      × ((length flow ≡ length row) × (t.nodes ≤ side) × (work_need t.nodes (length row) ≤ work)))))
  rows_ask {minimums} {row} {lists} long none listed same =
      subst
      (λ (l : List ℕ).
      Accepted (table_of t.nodes t.source t.sink t.tails t.heads l)
      × ((minimums ≡ replicate (length l) 0)
      × (InWork (table_of t.nodes t.source t.sink t.tails t.heads l) lists
      × (Flow (network_of (table_of t.nodes t.source t.sink t.tails t.heads l)) (at_place flow)
      × ((length flow ≡ length l) × (t.nodes ≤ side) × (work_need t.nodes (length l) ≤ work))))))
      (sym same) (
        new_accepted,
        (
          none ∙ ap (λ m. replicate m 0) (sym new_many),
          (
            in_work_as_many listed (set t.capacities place new) (sym new_many),
            (new_flow, (omega (arith, new_many), opens.for_side, omega (arith, new_many, opens.for_work))),
          ),
        ),
      )

  -- What went on from there is what the promise says.
  pub went_reopens : MaximumFlow t flow → (stamp : ℕ) (side_row work_row : List ℕ) → Reopens t (opened t place new) flow (went_on (opened t place new) stamp flow side_row work_row)
  unfolding went_on answer_with
  went_reopens most stamp side_row work_row =
      record {
        was = most;
        chains = rw flows (last_chains n ok part enough new_part);
        same_value = fresh_value n ok part enough new_part;
        same_side = marks ∙ fresh_side n ok part enough new_part;
        best = rw (flows, marks) (last_best n ok part enough new_part);
      }
    where
      n : Table
      n = opened t place new

      ok : Accepted (opened t place new)
      ok = new_accepted

      part : List ℕ
      part = take (arcs (opened t place new)) flow

      enough : arcs (opened t place new) ≤ length (take (arcs (opened t place new)) flow)
      enough = omega (arith, part_long)

      last : List ℕ
      last = settled (network_of (opened t place new)) (take (arcs (opened t place new)) flow)

      flows : take (arcs (opened t place new)) (last ++ drop (arcs (opened t place new)) flow) ≡ last
      flows = take_at last (drop (arcs (opened t place new)) flow) (arcs (opened t place new)) (last_long (opened t place new) new_accepted (take (arcs (opened t place new)) flow) (omega (arith, part_long)) new_part ∙ part_long)

      marks : take t.nodes (side_of (opened t place new) last ++ drop t.nodes side_row) ≡ side_of (opened t place new) last
      marks =
          take_at (side_of (opened t place new) last) (drop t.nodes side_row) t.nodes
          (length_of_side (network_of (opened t place new)) (at_place last) (accepted_sound (opened t place new) new_accepted))

-- The flow row's later places are as they were, where its first m were lent.
pub went_opened : (t : Table) (place new : ℕ) {flow₀ : List ℕ} {side₀ work₀ : ℕ} → Opens t place new flow₀ side₀ work₀ → (stamp : ℕ) (flow side work : List ℕ) (r : Answer) (flow_left side_left work_left : List ℕ)
    → arcs t ≤ length flow
    → left r flow_left side_left work_left ≡ went_on (opened t place new) stamp (take (arcs t) flow) side work
    → left r (flow_left ++ drop (arcs t) flow) side_left work_left ≡ went_on (opened t place new) stamp flow side work
went_opened t place new opens stamp flow side work r flow_left side_left work_left room e =
    ap (λ m. left r (flow_left ++ drop m flow) side_left work_left) (sym many)
    ∙ went_longer (opened t place new) stamp flow side work r flow_left side_left work_left (omega (arith, many, room))
    (e ∙ ap (λ m. went_on (opened t place new) stamp (take m flow) side work) (sym many))
  where
    many : arcs (opened t place new) ≡ arcs t
    many = new_many opens

-- ---- by what the checks find

-- What went on refuses nothing.
went_fine : (t : Table) (stamp : ℕ) (flow side work : List ℕ) → (went_on t stamp flow side work).answer.refusal ≡ 0
unfolding went_on answer_with
went_fine t stamp flow side work = refl

-- By the verdict on the change, of an accepted table with room.
module _ (t : Table) (stamp place new : ℕ) (flow side work : List ℕ) (v : Verdict) (found : v ≡ change_verdict t place new flow) where
  -- Where it refuses, the call gives that refusal and leaves the rows.
  pub refused_change : (name : Name) (at : ℕ) → v ≡ refused name at → (r : Answer) → r ≡ refusal name at
      → left r flow side work ≡ opening_as (change_verdict t place new flow) (opened t place new) stamp flow side work
  unfolding opening_as
  refused_change name at e r f = rw (← found, e) (ap (λ (a : Answer). left a flow side work) f)

  -- Where it does not, the call goes on.
  pub fine_change : v ≡ no_refusal → (l : Left) → l ≡ went_on (opened t place new) stamp flow side work
      → l ≡ opening_as (change_verdict t place new flow) (opened t place new) stamp flow side work
  unfolding opening_as
  fine_change e l f = rw (← found, e) f

  -- Then what it asks holds.
  pub change_asks : v ≡ no_refusal → Accepted t → (arcs t ≤ length flow) × (t.nodes ≤ length side) × (work_need t.nodes (arcs t) ≤ length work)
      → Opens t place new flow (length side) (length work)
  change_asks e ok room =
      (change_opens t place new flow (length side) (length work) ok (record { for_flow = room.0; for_side = room.1; for_work = room.2 }) (ap is_fine (sym found ∙ e))).0

-- By the old table's own verdict.
module _ (b : BoundedTable) (stamp place new : ℕ) (flow side work : List ℕ) (v : Verdict)
    (found : v ≡ plain_check b (has_room b.table.nodes (arcs b.table) (length flow) (length side) (length work))) where
  -- Where it refuses, the call gives that refusal and leaves the rows.
  pub refused_own : (name : Name) (at : ℕ) → v ≡ refused name at → (r : Answer) → r ≡ refusal name at → left r flow side work ≡ opening b stamp place new flow side work
  unfolding opening opening_as opening_verdict or_else
  refused_own name at e r f = rw (← found, e) (ap (λ (a : Answer). left a flow side work) f)

  -- Where it does not, the table is accepted and the rows have room,
  pub own_accepts : v ≡ no_refusal → Accepted b.table × Roomy b.table.nodes (arcs b.table) (length flow) (length side) (length work)
  own_accepts e =
      let (ok, room) = plain_accepts b _ (ap is_fine (sym found ∙ e)) in
      (ok, room_roomy b.table.nodes (arcs b.table) (length flow) (length side) (length work) room)

  -- and the change decides.
  pub fine_own : v ≡ no_refusal → (l : Left) → l ≡ opening_as (change_verdict b.table place new flow) (opened b.table place new) stamp flow side work
      → l ≡ opening b stamp place new flow side work
  unfolding opening opening_verdict or_else
  fine_own e l f = rw (← found, e) f

-- By the whole verdict.
module _ (b : BoundedTable) (stamp place new : ℕ) (flow side work : List ℕ) (v : Verdict) (found : v ≡ opening_verdict b place new flow (length side) (length work)) where
  -- A refusal is given, and the rows left.
  refused_opening : (name : Name) (at : ℕ) → v ≡ refused name at → left (refusal name at) flow side work ≡ opening b stamp place new flow side work
  unfolding opening opening_as
  refused_opening name at e = rw (← found, e)

  -- Or the call goes on.
  fine_opening : v ≡ no_refusal → went_on (opened b.table place new) stamp flow side work ≡ opening b stamp place new flow side work
  unfolding opening opening_as
  fine_opening e = rw (← found, e)

module _ (b : BoundedTable) (stamp place new : ℕ) (flow side work : List ℕ) (l : Left) (same : l ≡ opening b stamp place new flow side work) where
  -- What refuses nothing reopens the table.
  pub opening_reopens : l.answer.refusal ≡ 0 → Reopens b.table (opened b.table place new) flow l
  opening_reopens none = go (opening_verdict b place new flow (length side) (length work)) refl
    where
      go : (v : Verdict) → v ≡ opening_verdict b place new flow (length side) (length work) → Reopens b.table (opened b.table place new) flow l
      go (Ok _) e =
          let (opens, most) = fine_opens b place new flow (length side) (length work) (sym e) in
          subst (Reopens b.table (opened b.table place new) flow)
          (fine_opening b stamp place new flow side work no_refusal e refl ∙ sym same)
          (went_reopens opens most stamp side work)
      go (Err why) e =
          absurd
          (number_positive why.name
          (ap (λ (x : Left). x.answer.refusal) (refused_opening b stamp place new flow side work (refused why.name why.place) e why.name why.place refl ∙ sym same) ∙ none))

  -- And 23 says that the row is not a maximum flow of the old table.
  pub opening_notmax : l.answer.refusal ≡ 23 → MaximumFlow b.table flow → ⊥
  opening_notmax told = go (opening_verdict b place new flow (length side) (length work)) refl
    where
      go : (v : Verdict) → v ≡ opening_verdict b place new flow (length side) (length work) → MaximumFlow b.table flow → ⊥
      go (Ok _) e most =
          let zero = ap (λ (x : Left). x.answer.refusal) (fine_opening b stamp place new flow side work no_refusal e refl ∙ sym same) in
          omega (arith, went_fine (opened b.table place new) stamp flow side work, zero, told)
      go (Err why) e most =
          notmax_not b place new flow (length side) (length work)
          (ap refusal_in (sym e) ∙ ap (λ (x : Left). x.answer.refusal) (refused_opening b stamp place new flow side work (refused why.name why.place) e why.name why.place refl ∙ sym same) ∙ told)
          most
