-- `compare_stamps` meets its contract: each return is the range that its tests left.
use Rattle.std.proofs.Common.{◌-◌, ◌^◌, sym, ap, ◌∙◌, le-ltb, lt-ltb, eq-eqb, ne_eqb}
use Rattle.stamps.specs.Stamp.{relation_at}
use Rattle.stamps.specs.declared.Relation.TheVariants.{Ahead}
use Rattle.stamps.proofs.Rebuilds.{other_way, compared_so}
use Rattle.stamps.proofs.compare_stamps.Goals as goal

pub returns-then-x-eq0 : goal.returns-then-x-eq0
unfolding relation_at
returns-then-x-eq0 c = compared_so _ _ _ (simp (← c.rebuilds_behind-x.ensures, eq-eqb _ _ c.if-x-eq0.true))

pub returns-then-x-lt2147483648 : goal.returns-then-x-lt2147483648
unfolding relation_at
returns-then-x-lt2147483648 c =
    compared_so _ _ _ (simp (← c.rebuilds_behind-x.ensures, ne_eqb _ _ c.if-x-eq0.false, lt-ltb _ _ c.if-x-lt2147483648.true))

pub returns-then-x : goal.returns-then-x
unfolding relation_at
returns-then-x c =
    compared_so _ _ _
    (simp (
      ← c.rebuilds_behind-x.ensures,
      ne_eqb _ _ c.if-x-eq0.false,
      le-ltb _ _ c.if-x-lt2147483648.false,
      eq-eqb _ _ c.if-x.true,
    ))

pub returns-else-x : goal.returns-else-x
unfolding relation_at
returns-else-x c =
    let apart = c.if-x-eq0.false in
    compared_so _ _ _
    (simp (
      ← c.rebuilds_behind-x.ensures,
      ne_eqb _ _ apart,
      le-ltb _ _ c.if-x-lt2147483648.false,
      ne_eqb _ _ c.if-x.false,
    )
    (ap Ahead
    (c.rebuilds_behind.ensures
    ∙ other_way c.args.table c.args.answer c.ranges.table.fits c.ranges.answer.fits (λ e. apart (c.rebuilds_behind-x.ensures ∙ e))
    ∙ ap (λ d. 2 ^ 32 - d) (sym c.rebuilds_behind-x.ensures))))
