-- What is left of the column decides as all of it.
use Rattle.std.proofs.Common.{◌≡◌, drop}
use lib.Dec.{ltb}
use Rattle.rules.specs.Lists.{all}
use Rattle.ends.proofs.all_below.Given as goal

abbrev pub invariant-loop-v : goal.invariant-loop-v
invariant-loop-v l = all (λ v. ltb v l.n) (drop l.v-index l.nodes) ≡ all (λ v. ltb v l.n) l.nodes
