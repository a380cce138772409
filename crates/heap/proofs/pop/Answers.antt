-- `heap::pop` meets its contract: the gap that the first item leaves sinks, and the last item fills it.
use Prim.Native.Nat.{◌-◌}
use native.Mathlib.Omega.{arith}
use Rattle.heap.proofs.Slice.{leaf_above}
use Rattle.heap.proofs.Ends.{gap_at_front, popped, popped_only}
use Rattle.heap.proofs.pop.Goals as goal

pub sink-gap-requires : goal.sink-gap-requires
sink-gap-requires c = (omega arith, gap_at_front c.args.heap.now c.args.len c.requires.1 c.requires.2 (omega arith))

pub rise-requires : goal.rise-requires
rise-requires c = (
  omega arith,
  c.sink-gap.ensures.moved.gap,
  leaf_above c.sink-gap.new.heap (c.args.len - 1) (omega arith) (omega arith),
)

pub returns-then-left-gt0 : goal.returns-then-left-gt0
returns-then-left-gt0 c =
    rw c.load-top.ensures
    (popped c.args.heap.now c.args.len c.requires.1 c.requires.2 (omega (arith, c.if-left-gt0.true))
    c.sink-gap.ensures (rw c.load-last.ensures at c.rise.ensures))

pub returns-else-left-gt0 : goal.returns-else-left-gt0
returns-else-left-gt0 c = rw c.load-top.ensures (popped_only c.args.heap.now c.args.len c.requires.1 c.requires.2 (omega arith))
