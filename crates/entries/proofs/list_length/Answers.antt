-- The invariant: what was counted and what is left come to the whole.
use Prim.Native.Nat.{◌+◌, ◌*◌, ◌≤◌, ◌<◌}
use native.Mathlib.Omega.{arith}
use lib.ListN.{length}
use Rattle.lists.proofs.Walks.{walk_room, walk_nearer}
use Rattle.entries.proofs.Writing.{Counted, one_counted, all_counted}
use Rattle.entries.proofs.list_length.Goals as goal
use Rattle.entries.proofs.list_length.Goals.{At-loop-place, In-loop-place}

-- of the walk that is there
left : (c : At-loop-place) → let a = c.args in Counted a.arcs.now (3 + a.side) c.loop-place.place c.loop-place.count c.requires.1.0
left c = let p = c.requires.1 in c.loop-place.invariant p.0 p.1

room : (c : In-loop-place) → (6 * c.loop-place.place + 6 ≤ length c.args.arcs.now) × (c.args.side < 2)
room c = (walk_room (let p = c.requires.1 in c.loop-place.invariant p.0 p.1).walk c.loop-place-test.true, c.requires.0)

pub bounds-arcs-place : goal.bounds-arcs-place
bounds-arcs-place c = omega (arith, room (goal.at.bounds-arcs-place c).In-loop-place)

pub loop-place-smaller : goal.loop-place-smaller
loop-place-smaller c = walk_nearer (left (goal.at.loop-place-smaller c).At-loop-place).walk c.loop-place-test.true

pub loop-place-preserved : goal.loop-place-preserved
loop-place-preserved c = λ places walk. one_counted (c.loop-place.invariant places walk) c.loop-place-test.true

pub returns : goal.returns
returns c = λ places walk. all_counted (c.loop-place.invariant places walk) c.loop-place-test.false
