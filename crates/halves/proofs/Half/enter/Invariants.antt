-- The ends that are left, from here, are all of them from the start.
use Rattle.halves.specs.Promises.{Entering}
use Rattle.halves.specs.Slices.{Kept}
use Rattle.halves.proofs.Entering.{Going}
use Rattle.halves.proofs.Half.enter.Given as goal

abbrev pub invariant-loop-k : goal.invariant-loop-k
invariant-loop-k l =
    let x = l.initial.self in
    (given : Entering l.ends.nodes.now l.ends.offsets.now x.labels.now x.heap.now) × Kept x l.self ×
    Going l.ends.nodes.now l.ends.offsets.now x.labels.now x.heap.now x.base given l.self.labels.now l.self.heap.now l.self.len l.k
