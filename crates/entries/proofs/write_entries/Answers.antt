-- The invariant: what was written and what is left come to the whole.
use Prim.Native.Nat.{◌+◌, ◌*◌, ◌≤◌, ◌<◌}
use native.Mathlib.Omega.{arith}
use lib.ListN.{length}
use Rattle.lists.specs.Memory.{memory}
use Rattle.lists.proofs.Walks.{reads_room, reads_nearer}
use Rattle.entries.specs.Laid.{four}
use Rattle.entries.proofs.Writing.{Written, none_written, one_written, room_left, all_written}
use Rattle.entries.proofs.write_entries.Goals as goal
use Rattle.entries.proofs.write_entries.Goals.{At-loop-place, In-loop-place}

-- of the list that is there
left : (c : At-loop-place) →
    let a = c.args in
    Written (memory a.arcs.now c.requires.0) a.weights.now a.side c.loop-place.place a.v c.loop-place.e
    (four a.bases.now a.neighbours.now a.entry_weights.now a.centres.now) (four c.loop-place.bases c.loop-place.neighbours c.loop-place.entry_weights c.loop-place.centres) c.requires.1
left c = let p = c.requires in c.loop-place.invariant p.0 p.1 p.2

room : (c : In-loop-place) →
    let a = c.args in
    (6 * c.loop-place.place + 6 ≤ length a.arcs.now) × (c.loop-place.place < length a.weights.now) × (a.side < 2) ×
    (c.loop-place.e < length c.loop-place.bases) × (c.loop-place.e < length c.loop-place.neighbours) × (c.loop-place.e < length c.loop-place.entry_weights) × (c.loop-place.e < length c.loop-place.centres)
room c =
    let p = c.requires.2 in
    let x = (let p = c.requires in c.loop-place.invariant p.0 p.1 p.2) in
    let on = c.loop-place-test.true in
    let same = c.loop-place.auto in
    let places = reads_room x.reads on in
    let e = room_left p x on in (
      places.0,
      places.1,
      p.two,
      omega (arith, e, same.bases),
      omega (arith, e, same.neighbours, p.even.neighbours),
      omega (arith, e, same.entry_weights, p.even.weights),
      omega (arith, e, same.centres, p.even.centres),
    )

pub loop-place-init : goal.loop-place-init
loop-place-init c = λ nodes list p. none_written p

pub offset_bounds-bases-e : goal.offset_bounds-bases-e
offset_bounds-bases-e c = omega (arith, room (goal.at.offset_bounds-bases-e c).In-loop-place)

pub bounds-bases-e : goal.bounds-bases-e
bounds-bases-e c = omega (arith, room (goal.at.bounds-bases-e c).In-loop-place)

pub bounds-arcs-i : goal.bounds-arcs-i
bounds-arcs-i c = omega (arith, room (goal.at.bounds-arcs-i c).In-loop-place)

pub offset_bounds-neighbours-e : goal.offset_bounds-neighbours-e
offset_bounds-neighbours-e c = omega (arith, room (goal.at.offset_bounds-neighbours-e c).In-loop-place)

pub bounds-neighbours-e : goal.bounds-neighbours-e
bounds-neighbours-e c = omega (arith, room (goal.at.bounds-neighbours-e c).In-loop-place)

pub bounds-weights-i : goal.bounds-weights-i
bounds-weights-i c = omega (arith, room (goal.at.bounds-weights-i c).In-loop-place)

pub offset_bounds-entry_weights-e : goal.offset_bounds-entry_weights-e
offset_bounds-entry_weights-e c = omega (arith, room (goal.at.offset_bounds-entry_weights-e c).In-loop-place)

pub bounds-entry_weights-e : goal.bounds-entry_weights-e
bounds-entry_weights-e c = omega (arith, room (goal.at.bounds-entry_weights-e c).In-loop-place)

pub bounds-arcs-i-in-loop-place : goal.bounds-arcs-i-in-loop-place
bounds-arcs-i-in-loop-place c = omega (arith, room (goal.at.bounds-arcs-i-in-loop-place c).In-loop-place)

pub offset_bounds-centres-e : goal.offset_bounds-centres-e
offset_bounds-centres-e c = omega (arith, room (goal.at.offset_bounds-centres-e c).In-loop-place)

pub bounds-centres-e : goal.bounds-centres-e
bounds-centres-e c = omega (arith, room (goal.at.bounds-centres-e c).In-loop-place)

pub bounds-arcs-i-in-loop-place-2 : goal.bounds-arcs-i-in-loop-place-2
bounds-arcs-i-in-loop-place-2 c = omega (arith, room (goal.at.bounds-arcs-i-in-loop-place-2 c).In-loop-place)

pub overflow_add-e : goal.overflow_add-e
overflow_add-e c = omega (arith, room (goal.at.overflow_add-e c).In-loop-place)

pub loop-place-smaller : goal.loop-place-smaller
loop-place-smaller c = reads_nearer (left (goal.at.loop-place-smaller c).At-loop-place).reads c.loop-place-test.true

pub loop-place-preserved : goal.loop-place-preserved
loop-place-preserved c = λ nodes list p. one_written p (c.loop-place.invariant nodes list p) c.loop-place-test.true

pub returns : goal.returns
returns c = λ nodes list p. all_written p (c.loop-place.invariant nodes list p) c.loop-place-test.false
