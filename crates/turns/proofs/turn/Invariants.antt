-- A turn. The outer invariant: labels and best are as at the start, since the item that changes them ends the turn, and what is
-- left of the turn, from here, is the whole of it. The inner one: what is left of the scan decides as all of it.
use mathlib.Core.Path.{◌≡◌}
use Rattle.rules.specs.Lists.{range}
use Rattle.halves.specs.Slices.{Kept}
use Rattle.turns.specs.Turning.{of, TurningOn}
use Rattle.turns.proofs.Reading.{lower_by}
use Rattle.turns.proofs.Turning.{Going}
use Rattle.turns.proofs.turn.Given as goal

abbrev pub invariant-loop-e : goal.invariant-loop-e
invariant-loop-e l =
    lower_by l.half.labels.now l.half.base l.t.other.neighbours.now l.t.other.weights.now l.weight (range l.e l.e-end) ≡
    lower_by l.half.labels.now l.half.base l.t.other.neighbours.now l.t.other.weights.now l.weight (range l.initial.e l.e-end)

abbrev pub invariant-outer : goal.invariant-outer
invariant-outer l =
    let x = l.initial.half in
    (l.half.labels.now ≡ x.labels.now) × (l.best ≡ l.initial.best) × Kept x l.half ×
    ((t : TurningOn l.t x l.facing.labels.now l.initial.best.sum) →
    Going l.t.num_nodes l.t.ranks.now l.t.own.starts.now l.t.own.neighbours.now l.t.own.weights.now l.t.other.starts.now l.t.other.neighbours.now l.t.other.weights.now x.labels.now x.heap.now l.facing.labels.now x.base x.len (of l.initial.best) t l.half.heap.now l.half.len)

abbrev pub decreases-outer : goal.decreases-outer
decreases-outer l = l.half.len
