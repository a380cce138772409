-- `heap::rise` meets its contract. The loop's invariant: the gap has moved from `i` to `gap`, and `x` may leave before all that
-- is below. The measure is the gap's place.
use mathlib.Core.Path.{sym, ◌∙◌}
use Prim.Native.Nat.{◌*◌, ◌<◌, ◌≤◌}
use native.Mathlib.Omega.{arith}
use lib.ListN.{length}
use Rattle.heap.specs.Items.{of, item}
use Rattle.heap.specs.Shape.{parent, First}
use Rattle.heap.proofs.Order.{first_total}
use Rattle.heap.proofs.Slice.{moved_not, gap_inside, rises, still_above, fills}
use Rattle.heap.proofs.rise.Goals as goal
use Rattle.heap.proofs.rise.Goals.{At-loop-gap, Left-loop-gap, else-loop-gap-test, then-loop-gap-test+then-first}

pub loop-gap-init : goal.loop-gap-init
loop-gap-init c =
    let a = c.args in
    (gap_inside a.heap.now a.len c.requires.0 c.requires.1, moved_not c.requires.1, c.requires.2)

room : (c : At-loop-gap) → 2 * c.args.len ≤ length c.loop-gap.heap
room c = omega arith

pub loop-gap-preserved : goal.loop-gap-preserved
loop-gap-preserved c =
    let a = c.args in
    let up : 0 < c.loop-gap.gap = omega arith in
    let above = item c.loop-gap.heap (parent c.loop-gap.gap) in
    let f : First (of a.x) above = first_total above (of a.x) (sym c.first.ensures ∙ c.if-first.false) in (
      omega arith,
      rw c.shift.ensures
          (rises (room (goal.at.loop-gap-preserved c).At-loop-gap) c.loop-gap.invariant.1 (of a.x) up f),
      rw c.shift.ensures
          (still_above (room (goal.at.loop-gap-preserved c).At-loop-gap) c.loop-gap.invariant.1 (of a.x) up f),
    )

-- the loop is left at the root, or below an item that may leave before x
stops : (c : Left-loop-gap) → 0 < c.loop-gap.gap →
    First (item c.loop-gap.heap (parent c.loop-gap.gap)) (of c.args.x)
stops c up =
    elim c.loop-gap-test.branch [
      | else-loop-gap-test w ↦ absurd (omega arith)
      | then-loop-gap-test+then-first w ↦ sym w.first.ensures ∙ w.if-first.true
    ]

pub returns : goal.returns
returns c =
    rw c.store.ensures
    (fills (room (goal.at.returns c).At-loop-gap) c.loop-gap.invariant.1 (of c.args.x) c.loop-gap.invariant.2 (stops (goal.at.returns c).Left-loop-gap))
