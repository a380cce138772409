-- The invariant: the sources that are left, from here, are all of them from the start.
use mathlib.Core.Path.{ap}
use native.Mathlib.Omega.{arith}
use Rattle.rules.specs.Query.{End}
use Rattle.ends.proofs.Steps.{next_source, last_source}
use Rattle.ends.proofs.first_step.Goals as goal

pub coincide_all-best-requires : goal.coincide_all-best-requires
coincide_all-best-requires c = (rw (ap (λ (e : End). e.offset) c.end_at.ensures) (c.requires.0.small c.loop-k.k (omega arith)), c.requires.1)

pub loop-k-preserved : goal.loop-k-preserved
loop-k-preserved c = next_source _ _ c.requires.0 _ _ _ _ c.loop-k.invariant (omega arith) _ (rw c.end_at.ensures at c.coincide_all-best.ensures)

pub returns : goal.returns
returns c = last_source _ _ c.requires.0 _ _ _ _ c.loop-k.invariant (omega arith)
