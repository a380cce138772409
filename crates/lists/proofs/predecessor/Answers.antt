-- `predecessor` meets its contract. The loop's invariant: from `at` on the walk goes through the place, and what stands before it,
-- `before` where it is at `at`, is what stands before it from the start. The measure is what is left of the walk.
use mathlib.Core.Path.{refl}
use Prim.Native.Nat.{◌+◌, ◌*◌, ◌≤◌}
use native.Mathlib.Omega.{arith}
use lib.ListN.{length}
use Rattle.rules.specs.Numbers.{invalid}
use Rattle.lists.specs.Walks.{before as before_in}
use Rattle.lists.proofs.Walks.{walk_room, walk_nearer}
use Rattle.lists.proofs.Walking.{Ahead, ahead_valid, ahead_here, ahead_on}
use Rattle.lists.proofs.predecessor.Goals as goal
use Rattle.lists.proofs.predecessor.Goals.{At-loop-at}

pub loop-at-init : goal.loop-at-init
loop-at-init c = (omega arith, omega arith, λ l w m. record { rest = l; walk = w; there = m; same = refl })

-- where the loop is, of the walk that the caller knows of
ahead : (c : At-loop-at) →
    let a = c.args in
    Ahead a.arcs.now a.side a.place c.loop-at.before c.loop-at.at (before_in invalid a.place c.requires.1.0)
ahead c = c.loop-at.invariant.2 c.requires.1.0 c.requires.1.1 c.requires.1.2

room : (c : At-loop-at) → 6 * c.loop-at.at + 6 ≤ length c.args.arcs.now
room c = walk_room (c.loop-at.invariant.2 c.requires.1.0 c.requires.1.1 c.requires.1.2).walk (ahead_valid (c.loop-at.invariant.2 c.requires.1.0 c.requires.1.1 c.requires.1.2))

pub bounds-arcs-at : goal.bounds-arcs-at
bounds-arcs-at c = omega (arith, room (goal.at.bounds-arcs-at c).At-loop-at)

pub loop-at-smaller : goal.loop-at-smaller
loop-at-smaller c = let l = ahead (goal.at.loop-at-smaller c).At-loop-at in walk_nearer l.walk (ahead_valid l)

pub loop-at-preserved : goal.loop-at-preserved
loop-at-preserved c =
    let a = c.args in (
      omega (arith, c.type_inv.arcs (6 * c.loop-at.at + (3 + a.side))),
      c.loop-at.invariant.0,
      λ p w m. ahead_on (c.loop-at.invariant.2 p w m) c.loop-at-test.true,
    )

pub returns : goal.returns
returns c l w m = ahead_here (c.loop-at.invariant.2 l w m) c.loop-at-test.false
