-- The pairs passed are answered, and what is left of the columns is as it was.
use Rattle.tables.specs.Lent.{hierarchy_of}
use Rattle.halves.specs.Slices.{AsLong}
use Rattle.calc_paths.specs.Filling.{columns_of}
use Rattle.calc_paths.proofs.Going.{Going}
use Rattle.calc_paths.proofs.fill_all.Given as goal

abbrev pub invariant-loop-k : goal.invariant-loop-k
invariant-loop-k l =
    let x = l.initial.fwd in
    let y = l.initial.bwd in
    AsLong x l.fwd × AsLong y l.bwd ×
    Going l.g.num_nodes (hierarchy_of l.g) l.sources l.targets (columns_of l.initial.numbers l.initial.weights l.initial.lengths l.initial.paths) x.labels.now y.labels.now x.heap.now y.heap.now (columns_of l.numbers l.weights l.lengths l.paths) l.fwd.labels.now l.bwd.labels.now l.fwd.heap.now l.bwd.heap.now l.k
