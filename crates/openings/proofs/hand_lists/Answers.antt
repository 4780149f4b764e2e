-- `hand_lists` meets its contract: the lists' room is known before anything is written.
use mathlib.Core.Path.{◌≡◌, sym, ap, ◌∙◌, subst⁻¹}
use lib.ListN.{length, take}
use lib.Seq.{length-take-le}
use Rattle.table.specs.Accepted.{ArcEnds}
use Rattle.openings.proofs.Handing.{whole_front, handed_short, handed_full}
use Rattle.table.specs.declared.Refusal.{Refusal}
use Rattle.solver.specs.Solving.{refusal}
use Rattle.openings.specs.Finding.{openings_with}
use Rattle.openings.proofs.hand_lists.Goals as goal

pub slice_bounds-has_lists-end : goal.slice_bounds-has_lists-end
slice_bounds-has_lists-end c =
    let marks_long : length (take c.args.table.now.nodes c.args.marks.now) ≡ c.args.table.now.nodes = length-take-le _ _ c.requires.arc_ends.2 in
    sym marks_long

pub slice_bounds-has_lists-end-2 : goal.slice_bounds-has_lists-end-2
slice_bounds-has_lists-end-2 c =
    let drains_long : length (take c.args.table.now.nodes c.args.drains.now) ≡ c.args.table.now.nodes = length-take-le _ _ c.requires.arc_ends.3 in
    sym drains_long

pub has_lists-room-requires : goal.has_lists-room-requires
has_lists-room-requires c =
    let marks_long : length (take c.args.table.now.nodes c.args.marks.now) ≡ c.args.table.now.nodes = length-take-le _ _ c.requires.arc_ends.2 in
    let drains_long : length (take c.args.table.now.nodes c.args.drains.now) ≡ c.args.table.now.nodes = length-take-le _ _ c.requires.arc_ends.3 in
    let ends : ArcEnds (length (take c.args.table.now.nodes c.args.marks.now)) c.args.table.now.tails.now c.args.table.now.heads.now × (length (take c.args.table.now.nodes c.args.drains.now) ≡ length (take c.args.table.now.nodes c.args.marks.now)) = (subst⁻¹ (λ n. ArcEnds n c.args.table.now.tails.now c.args.table.now.heads.now) marks_long c.requires.arc_ends.0, drains_long ∙ sym marks_long) in
    ends

pub returns-then-not-room : goal.returns-then-not-room
returns-then-not-room c =
    handed_short _ _ _ _ _ _ _ _ _ _ _ _ _ c.into.result (sym c.if-not-room.true ∙ c.has_lists-room.ensures) (c.into.ensures ∙ ap (λ (r : Refusal). openings_with (refusal r.name r.place) 0 0 0) c.at.ensures)

pub slice_bounds-write_lists-end : goal.slice_bounds-write_lists-end
slice_bounds-write_lists-end c =
    let marks_long : length (take c.args.table.now.nodes c.args.marks.now) ≡ c.args.table.now.nodes = length-take-le _ _ c.requires.arc_ends.2 in
    sym marks_long

pub slice_bounds-write_lists-end-2 : goal.slice_bounds-write_lists-end-2
slice_bounds-write_lists-end-2 c =
    let drains_long : length (take c.args.table.now.nodes c.args.drains.now) ≡ c.args.table.now.nodes = length-take-le _ _ c.requires.arc_ends.3 in
    sym drains_long

pub write_lists-requires : goal.write_lists-requires
write_lists-requires c =
    let marks_long : length (take c.args.table.now.nodes c.args.marks.now) ≡ c.args.table.now.nodes = length-take-le _ _ c.requires.arc_ends.2 in
    let drains_long : length (take c.args.table.now.nodes c.args.drains.now) ≡ c.args.table.now.nodes = length-take-le _ _ c.requires.arc_ends.3 in
    let ends : ArcEnds (length (take c.args.table.now.nodes c.args.marks.now)) c.args.table.now.tails.now c.args.table.now.heads.now × (length (take c.args.table.now.nodes c.args.drains.now) ≡ length (take c.args.table.now.nodes c.args.marks.now)) = (subst⁻¹ (λ n. ArcEnds n c.args.table.now.tails.now c.args.table.now.heads.now) marks_long c.requires.arc_ends.0, drains_long ∙ sym marks_long) in
    record {
      arc_ends = ends;
      places_value = sym c.has_lists-room.ensures ∙ c.if-not-room.false;
    }

pub returns : goal.returns
returns c =
    let marks_long : length (take c.args.table.now.nodes c.args.marks.now) ≡ c.args.table.now.nodes = length-take-le _ _ c.requires.arc_ends.2 in
    handed_full _ _ _ _ _ _ _ _ _ _ _ _ _ c.write_lists.result _ _ _ _ _ _ (sym c.if-not-room.false ∙ c.has_lists-room.ensures)
    (whole_front _ _ _ _ (length-take-le _ _ c.requires.arc_ends.1) c.hand_over.ensures.flow_value) (whole_front _ _ _ _ marks_long c.hand_over.ensures.side_value) c.hand_over.ensures.work_value c.write_lists.ensures
