-- The invariant: what is left of the column decides as all of it.
use native.Mathlib.Omega.{arith}
use borrow.Author.Tests.{lt-ltb, le-ltb}
use Rattle.ends.proofs.Steps.{fails_here, holds_here, all_hold}
use Rattle.ends.proofs.all_below.Goals as goal

pub returns-then-n-v : goal.returns-then-n-v
returns-then-n-v c = fails_here _ _ _ c.loop-v.invariant (omega arith) (le-ltb _ _ c.if-n-v.true)

pub loop-v-preserved : goal.loop-v-preserved
loop-v-preserved c = holds_here _ _ _ c.loop-v.invariant (omega arith) (lt-ltb _ _ c.if-n-v.false)

pub returns : goal.returns
returns c = all_hold _ _ c.loop-v.v-index c.loop-v.invariant (omega arith)
