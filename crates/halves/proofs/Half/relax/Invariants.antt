-- The offers that are left, from here, are all of them from the start.
use Rattle.halves.proofs.Relaxing.{Going}
use Rattle.halves.specs.Promises.{Relaxing}
use Rattle.halves.specs.Slices.{Kept}
use Rattle.halves.proofs.Half.relax.Given as goal

abbrev pub invariant-loop-e : goal.invariant-loop-e
invariant-loop-e l =
    let x = l.initial.self in
    (given : Relaxing l.neighbours l.weights x.labels.now x.heap.now x.len l.weight l.begin l.end) × Kept x l.self ×
    Going l.neighbours l.weights x.labels.now x.heap.now x.base x.len l.node l.weight l.begin l.end given l.self.labels.now l.self.heap.now l.self.len l.e
