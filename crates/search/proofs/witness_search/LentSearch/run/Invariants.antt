-- What is to come, with `left` as fuel, is what came from the start. The measure is `left`.
use Rattle.search.specs.Searching.{lent}
use Rattle.search.specs.Promises.{Each, Asked, SameStart, Kept}
use Rattle.search.proofs.Runs.{Onward}
use Rattle.search.proofs.witness_search.LentSearch.run.Given as goal

abbrev pub invariant-turns : goal.invariant-turns
invariant-turns l =
    let r = l.initial.self.round in
    Each (Asked (lent l.graph.arcs.now l.graph.weights.now l.graph.nodes.now l.initial.self.labels.now l.initial.self.heap.now) r.base r.len r.settled l.target l.weight_limit)
    (Onward (lent l.graph.arcs.now l.graph.weights.now l.graph.nodes.now l.self.labels.now l.self.heap.now) r.base r.avoid l.self.round.len l.self.round.settled l.target l.weight_limit l.settled_nodes_limit l.left) ×
    SameStart r l.self.round × Kept l.initial.self l.self

abbrev pub decreases-turns : goal.decreases-turns
decreases-turns l = l.left
