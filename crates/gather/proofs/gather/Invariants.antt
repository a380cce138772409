-- Each turn takes a record more; where none is taken, the loop ends.
use Prim.Native.Nat.{◌-◌}
use lib.ListN.{length}
use Rattle.gather.proofs.Columns.{Going}
use Rattle.gather.proofs.gather.Given as goal

abbrev pub invariant-loop-more : goal.invariant-loop-more
invariant-loop-more l = Going l.input l.initial.tails l.initial.heads l.initial.weights l.initial.order l.g l.tails l.heads l.weights l.order

abbrev pub decreases-loop-more : goal.decreases-loop-more
decreases-loop-more l = length l.input - l.g.at
