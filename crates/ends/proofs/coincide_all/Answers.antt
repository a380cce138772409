-- The invariant: the targets that are left, from here, are all of them from the start.
use mathlib.Core.Path.{ap}
use native.Mathlib.Omega.{arith}
use Rattle.rules.specs.Query.{End}
use Rattle.ends.proofs.Steps.{next_target, last_target}
use Rattle.ends.proofs.coincide_all.Goals as goal

pub coincide-best-requires : goal.coincide-best-requires
coincide-best-requires c = (c.requires.0, rw (ap (λ (e : End). e.offset) c.end_at.ensures) (c.requires.1.small c.loop-k.k (omega arith)))

pub loop-k-preserved : goal.loop-k-preserved
loop-k-preserved c = next_target _ _ c.requires.1 _ _ _ _ c.loop-k.invariant (omega arith) _ (rw c.end_at.ensures at c.coincide-best.ensures)

pub returns : goal.returns
returns c = last_target _ _ c.requires.1 _ _ _ _ c.loop-k.invariant (omega arith)
