-- The offers that are left, from here, are all of them from the start.
use native.Mathlib.Omega.{arith}
use Rattle.halves.proofs.Relaxing.{going_on, relaxes}
use Rattle.halves.proofs.Slices.{kept_on}
use Rattle.halves.proofs.Half.relax.Goals as goal

pub loop-e-preserved : goal.loop-e-preserved
loop-e-preserved c =
    let i = c.loop-e.invariant in
    let o = c.offer.ensures in (
      i.0,
      kept_on i.1 o.kept,
      going_on _ _ _ _ _ _ _ _ _ _ i.0 _ _ _ _ i.2 (omega arith) _ _ _ o.kept.labels o.kept.heap (rw i.1.base at o.offers),
    )

pub returns : goal.returns
returns c =
    let i = c.loop-e.invariant in
    record {
      relaxes = relaxes _ _ _ _ _ _ _ _ _ _ i.0 _ _ _ c.loop-e.e i.2 (omega arith);
      kept = i.1;
    }
