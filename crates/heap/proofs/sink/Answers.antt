-- `heap::sink` meets its contract. The loop's invariant: the gap has moved from the root to `gap`.
-- The measure is what is left of the items.
use Prim.Native.Nat.{◌*◌, ◌<◌, ◌≤◌}
use native.Mathlib.Omega.{arith}
use lib.ListN.{length}
use Rattle.heap.proofs.Slice.{moved_not, gap_inside, leads_inside, only_child, sinks}
use Rattle.heap.proofs.sink.Goals as goal
use Rattle.heap.proofs.sink.Goals.{After-leading-child, At-loop-gap, Start}

-- there is an item at the root
some : (c : Start) → 0 < c.args.len
some c = gap_inside c.args.heap.now c.args.len c.requires.0 c.requires.1

pub overflow_sub-pairs : goal.overflow_sub-pairs
overflow_sub-pairs c = some (goal.at.overflow_sub-pairs c).Start

pub loop-gap-init : goal.loop-gap-init
loop-gap-init c = (some (goal.at.loop-gap-init c).Start, moved_not c.requires.1)

-- the items are within the slice, and so is the leading child
room : (c : At-loop-gap) → 2 * c.args.len ≤ length c.loop-gap.heap
room c = omega arith

child_inside : (c : After-leading-child) → c.leading-child.result < c.args.len
child_inside c =
    leads_inside c.loop-gap.heap c.args.len (omega arith) c.leading-child.ensures

pub shift-requires : goal.shift-requires
shift-requires c = omega (arith, child_inside (goal.at.shift-requires c).After-leading-child)

pub loop-gap-smaller : goal.loop-gap-smaller
loop-gap-smaller c = omega (arith, child_inside (goal.at.loop-gap-smaller c).After-leading-child)

pub loop-gap-preserved : goal.loop-gap-preserved
loop-gap-preserved c = (child_inside (goal.at.loop-gap-preserved c).After-leading-child, rw c.shift.ensures (sinks (room (goal.at.loop-gap-preserved c).At-loop-gap) c.loop-gap.invariant.1 c.leading-child.ensures))

pub returns-then-gap-len : goal.returns-then-gap-len
returns-then-gap-len c =
    let child = only_child c.loop-gap.heap c.args.len (room (goal.at.returns-then-gap-len c).At-loop-gap) c.loop-gap.gap (omega arith) (omega arith) in
    record { moved = rw c.shift-then-gap-len.ensures (sinks (room (goal.at.returns-then-gap-len c).At-loop-gap) c.loop-gap.invariant.1 child); leaf = omega arith }

pub returns : goal.returns
returns c = record { moved = c.loop-gap.invariant.1; leaf = c.if-gap-len.false }
