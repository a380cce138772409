-- `heap::rise` meets its contract. The loop's invariant: the gap has moved from `i` to `gap`, and `x` may leave before all that
-- is below. The measure is the gap's place.
use Prim.Native.Nat.{◌<◌}
use Rattle.heap.specs.Items.{of, items}
use Rattle.heap.specs.Gaps.{Above, Moved}
use Rattle.heap.proofs.rise.Given as goal

abbrev pub invariant-loop-gap : goal.invariant-loop-gap
invariant-loop-gap l = (l.gap < l.len) × Moved l.initial.heap l.heap l.len l.i l.gap × Above (of l.x) (items l.heap l.len) l.gap

abbrev pub decreases-loop-gap : goal.decreases-loop-gap
decreases-loop-gap l = l.gap
