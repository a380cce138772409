-- The rounds that are left, from here, are all of them from the start.
use Rattle.halves.specs.Slices.{Kept}
use Rattle.turns.specs.Turning.{of}
use Rattle.rounds.specs.Rounds.{RunningOn}
use Rattle.rounds.proofs.Going.{Going}
use Rattle.rounds.proofs.rounds.Given as goal

abbrev pub invariant-loop-fwd : goal.invariant-loop-fwd
invariant-loop-fwd l =
    let x = l.initial.fwd in
    let y = l.initial.bwd in
    Kept x l.fwd × Kept y l.bwd ×
    ((t : RunningOn l.g x y (of l.initial.best) l.fuel) →
    Going l.g.num_nodes l.g.ranks.now l.g.fwd.starts.now l.g.fwd.neighbours.now l.g.fwd.weights.now l.g.bwd.starts.now l.g.bwd.neighbours.now l.g.bwd.weights.now x.labels.now y.labels.now x.heap.now y.heap.now x.base x.len y.len (of l.initial.best) l.fuel t l.fwd.labels.now l.bwd.labels.now l.fwd.heap.now l.bwd.heap.now l.fwd.len l.bwd.len (of l.best) l.left)

abbrev pub decreases-loop-fwd : goal.decreases-loop-fwd
decreases-loop-fwd l = l.left
