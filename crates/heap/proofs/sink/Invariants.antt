-- `heap::sink` meets its contract. The loop's invariant: the gap has moved from the root to `gap`.
-- The measure is what is left of the items.
use Prim.Native.Nat.{◌-◌, ◌<◌}
use Rattle.heap.specs.Gaps.{Moved}
use Rattle.heap.proofs.sink.Given as goal

abbrev pub invariant-loop-gap : goal.invariant-loop-gap
invariant-loop-gap l = (l.gap < l.len) × Moved l.initial.heap l.heap l.len 0 l.gap

abbrev pub decreases-loop-gap : goal.decreases-loop-gap
decreases-loop-gap l = l.len - l.gap
