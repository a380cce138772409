-- The ends that are left, from here, are all of them from the start.
use native.Mathlib.Omega.{arith}
use Rattle.halves.proofs.Entering.{going_first, going_on, enters}
use Rattle.halves.proofs.Slices.{kept_all, kept_on}
use Rattle.halves.proofs.Half.enter.Goals as goal

pub loop-k-init : goal.loop-k-init
loop-k-init c = (c.requires.1, kept_all _, rw c.requires.0 (going_first _ _ _ _ _ c.requires.1))

pub loop-k-preserved : goal.loop-k-preserved
loop-k-preserved c =
    let i = c.loop-k.invariant in
    let o = c.offer.ensures in (
      i.0,
      kept_on i.1 o.kept,
      going_on _ _ _ _ _ i.0 _ _ _ _ i.2 (omega arith) _ _ _ o.kept.labels o.kept.heap (rw i.1.base at o.offers),
    )

pub returns : goal.returns
returns c =
    let i = c.loop-k.invariant in
    record {
      enters = enters _ _ _ _ _ i.0 _ _ _ c.loop-k.k i.2 (omega arith);
      kept = i.1;
    }
