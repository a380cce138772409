-- The pairs passed are answered, and what is left of the columns is as it was.
use native.Mathlib.Omega.{arith}
use Rattle.halves.proofs.Slices.{long_all, long_on}
use Rattle.calc_paths.proofs.Going.{going_first, going_on}
use Rattle.calc_paths.proofs.fill_all.Goals as goal

pub loop-k-init : goal.loop-k-init
loop-k-init c = (long_all _, long_all _, going_first _ _ _ _ _ _ _ _ _ c.requires)

pub loop-k-preserved : goal.loop-k-preserved
loop-k-preserved c =
    let i = c.loop-k.invariant in
    let f = c.fill_pair.ensures in (
      long_on i.0 f.fwd_long,
      long_on i.1 f.bwd_long,
      going_on _ _ _ _ _ _ _ _ _ c.requires _ _ _ _ _ _ i.2 (omega arith) _ _ _ _ _ f.filled
          c.fill_pair.auto.numbers c.fill_pair.auto.weights c.fill_pair.auto.lengths c.fill_pair.auto.paths f.fwd_long.labels f.bwd_long.labels f.fwd_long.heap f.bwd_long.heap,
    )
