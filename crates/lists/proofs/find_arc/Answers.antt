-- `find_arc` meets its contract. The loop's invariant: what the walk from `at` on comes upon first is what it would come upon from the
-- start. The measure is what is left of the walk.
use mathlib.Core.Path.{refl}
use Prim.Native.Nat.{◌+◌, ◌*◌, ◌≤◌}
use native.Mathlib.Omega.{arith}
use lib.ListN.{length}
use borrow.Author.Tests.{eq-eqb, ne_eqb}
use Rattle.lists.specs.Walks.{found}
use Rattle.lists.proofs.Walks.{walk_room, walk_nearer}
use Rattle.lists.proofs.Walking.{Seeking, sought_none, sought_here, seek_on}
use Rattle.lists.proofs.find_arc.Goals as goal
use Rattle.lists.proofs.find_arc.Invariants.{heads}
use Rattle.lists.proofs.find_arc.Goals.{At-loop-at, In-loop-at}

pub loop-at-init : goal.loop-at-init
loop-at-init c = (omega arith, λ l w. record { rest = l; walk = w; same = refl })

-- where the loop is, of the walk that the caller knows of
seeking : (c : At-loop-at) →
    let a = c.args in
    Seeking a.arcs.now (heads a.arcs.now a.head) c.loop-at.at (found (heads a.arcs.now a.head) c.requires.0)
seeking c = c.loop-at.invariant.1 c.requires.0 c.requires.1

room : (c : In-loop-at) → 6 * c.loop-at.at + 6 ≤ length c.args.arcs.now
room c = walk_room (c.loop-at.invariant.1 c.requires.0 c.requires.1).walk c.loop-at-test.true

pub bounds-arcs-i : goal.bounds-arcs-i
bounds-arcs-i c = omega (arith, room (goal.at.bounds-arcs-i c).In-loop-at)

pub returns-then-arcs-i : goal.returns-then-arcs-i
returns-then-arcs-i c l w = sought_here (c.loop-at.invariant.1 l w) c.loop-at-test.true (eq-eqb _ _ c.if-arcs-i.true)

pub bounds-arcs-i-in-loop-at : goal.bounds-arcs-i-in-loop-at
bounds-arcs-i-in-loop-at c = omega (arith, room (goal.at.bounds-arcs-i-in-loop-at c).In-loop-at)

pub loop-at-smaller : goal.loop-at-smaller
loop-at-smaller c = walk_nearer (seeking (goal.at.loop-at-smaller c).At-loop-at).walk c.loop-at-test.true

pub loop-at-preserved : goal.loop-at-preserved
loop-at-preserved c = (
  omega (arith, c.type_inv.arcs (6 * c.loop-at.at + 3)),
  λ l w. seek_on (c.loop-at.invariant.1 l w) c.loop-at-test.true (ne_eqb _ _ c.if-arcs-i.false),
)

pub returns : goal.returns
returns c l w = sought_none (c.loop-at.invariant.1 l w) c.loop-at-test.false
