-- The invariant: the numbers passed name each node once, and the flags are of the nodes that they name.
use mathlib.Core.Path.{refl}
use native.Mathlib.Omega.{arith}
use lib.ListN.{get_or-replicate}
use lib.Seq.{length-take-le}
use Rattle.permutation.proofs.Once.{none_seen, too_high, named_twice, see}
use Rattle.permutation.proofs.each_once.Goals as goal
use Rattle.permutation.proofs.each_once.Goals.{then-n-v-via-then-n-v, then-n-v-via-else-n-v+then-seen-v}

pub loop-number-init : goal.loop-number-init
loop-number-init c = none_seen _ _ c.requires.0 (length-take-le _ _ c.requires.1) _ refl (λ v h. get_or-replicate 1024 v _ _ h)

pub returns-then-n-v : goal.returns-then-n-v
returns-then-n-v c =
    let long = length-take-le _ _ c.requires.1 in
    elim c.then-n-v.branch [
      | then-n-v-via-then-n-v w ↦ too_high _ _ c.requires.0 long _ _ c.loop-number.invariant (omega (arith, long, c.loop-number-test.true)) w.if-n-v.true
      | then-n-v-via-else-n-v+then-seen-v w ↦
          named_twice _ _ c.requires.0 long _ _ c.loop-number.invariant (omega (arith, long, c.loop-number-test.true)) w.if-n-v.false w.if-seen-v.true
    ]

pub loop-number-preserved : goal.loop-number-preserved
loop-number-preserved c =
    let long = length-take-le _ _ c.requires.1 in
    see _ _ c.requires.0 long _ _ c.loop-number.invariant (omega (arith, long, c.loop-number-test.true)) c.if-n-v.false c.if-seen-v.false
