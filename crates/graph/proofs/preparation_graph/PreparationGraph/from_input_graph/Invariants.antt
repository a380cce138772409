-- The invariant: the slices hold the first links, and the others are left.
use mathlib.Core.List.{map}
use mathlib.Core.Path.{◌≡◌}
use lib.ListN.{length, take, drop}
use Rattle.std.specs.Iterator.Adapters.{zip_first, zip_second}
use Rattle.std.specs.Slice.Iter.{iter_rest}
use Rattle.rules.specs.Columns.{link_list}
use Rattle.rules.specs.Build.{link_arc}
use Rattle.input_graph.specs.Given.{links}
use Rattle.lists.specs.Memory.{memory}
use Rattle.graph.specs.Stands.{Stands}
use Rattle.graph.specs.Promises.{Kept}
use Rattle.graph.proofs.preparation_graph.PreparationGraph.from_input_graph.Given as goal

abbrev pub invariant-loop-tail : goal.invariant-loop-tail
invariant-loop-tail l =
    let i = length l.yielded in
    (iter_rest (zip_first (zip_first l.tail-iterator)) ≡ drop i l.tails) × (iter_rest (zip_second (zip_first l.tail-iterator)) ≡ drop i l.heads) ×
    (iter_rest (zip_second l.tail-iterator) ≡ drop i l.link_weights) ×
    Stands l.n l.fn.self.pool (memory l.self.arcs.now l.self.nodes.now) l.self.weights.now l.self.state (map link_arc (take i (link_list (links l.tails l.heads l.link_weights)))) ×
    Kept l.fn.self l.self
