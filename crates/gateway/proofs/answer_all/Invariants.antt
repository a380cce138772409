-- Each turn writes a line and goes a record on.
use Prim.Native.Nat.{◌-◌}
use lib.ListN.{length}
use Rattle.tables.specs.Lent.{hierarchy_of}
use Rattle.gateway.proofs.Saying.{Said}
use Rattle.gateway.proofs.answer_all.Given as goal

abbrev pub invariant-loop-at : goal.invariant-loop-at
invariant-loop-at l = Said l.input l.initial.out l.at-2 l.end-2 l.g.num_nodes (hierarchy_of l.g) l.at l.end l.out

abbrev pub decreases-loop-at : goal.decreases-loop-at
decreases-loop-at l = length l.input - l.at
