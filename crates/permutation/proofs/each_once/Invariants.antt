-- The invariant: the numbers passed name each node once, and the flags are of the nodes that they name.
use lib.ListN.{take}
use Rattle.permutation.proofs.Once.{Seen}
use Rattle.permutation.proofs.each_once.Given as goal

abbrev pub invariant-loop-number : goal.invariant-loop-number
invariant-loop-number l = Seen l.n (take l.n l.numbers) l.seen l.number-index
