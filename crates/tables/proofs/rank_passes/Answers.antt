-- An entry fails, or its neighbour has this rank's mark already, or all hold.
use native.Mathlib.Omega.{arith}
use Rattle.rules.proofs.Decides.{no}
use Rattle.tables.specs.Lent.{side_of}
use Rattle.tables.proofs.Entries.{stretch_within, fails_here, twin_here, holds_here}
use Rattle.tables.proofs.rank_passes.Goals as goal

pub entry-e-requires : goal.entry-e-requires
entry-e-requires c = let p = c.requires in (p.0.own_shape.columns, omega (arith, stretch_within _ _ _ _ p.0 (side_of c.args.side) _ p.1))

pub returns-then-not-passes : goal.returns-then-not-passes
returns-then-not-passes c =
    let p = c.requires in (
      no (fails_here _ _ _ _ p.0 _ _ _ _ _ _ c.entry-e.ensures c.passes.ensures (omega arith) (omega arith) (stretch_within _ _ _ _ p.0 (side_of c.args.side) _ p.1) c.if-not-passes.true),
      c.loop-i.invariant.marked.most,
    )

pub returns-then-marks-u : goal.returns-then-marks-u
returns-then-marks-u c =
    let p = c.requires in (
      no (twin_here _ _ _ _ p.0 _ _ _ _ _ _ c.entry-e.ensures c.passes.ensures (omega arith) (omega arith) (stretch_within _ _ _ _ p.0 (side_of c.args.side) _ p.1) c.if-not-passes.false _ _ c.loop-i.invariant c.if-marks-u.true),
      c.loop-i.invariant.marked.most,
    )

pub loop-i-preserved : goal.loop-i-preserved
loop-i-preserved c =
    let p = c.requires in
    holds_here _ _ _ _ p.0 _ _ _ _ _ _ c.entry-e.ensures c.passes.ensures (omega arith) (omega arith) (stretch_within _ _ _ _ p.0 (side_of c.args.side) _ p.1) c.if-not-passes.false _ _ c.loop-i.invariant c.if-marks-u.false
