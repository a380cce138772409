-- What is left of a chain, and what was done, comes to the whole. The measure is the number of links to the end of the chain.
use lib.ListN.{length}
use Rattle.lists.specs.Walks.{steps}
use Rattle.search.specs.Promises.{Each, Relaxing, SameRound, Kept}
use Rattle.search.proofs.Rows.{link, Rest}
use Rattle.search.proofs.witness_search.LentSearch.relax.Given as goal

abbrev pub invariant-loop-place : goal.invariant-loop-place
invariant-loop-place l =
    let x = l.initial.self in
    let y = l.self in
    SameRound x.round y.round × Kept x y ×
    Each (Relaxing l.graph.arcs.now l.graph.weights.now x.labels.now x.heap.now x.round.base x.round.len l.first l.weight) (Rest l.graph.arcs.now l.graph.weights.now y.labels.now y.heap.now x.round.base x.round.avoid y.round.len l.place l.weight)

abbrev pub decreases-loop-place : goal.decreases-loop-place
decreases-loop-place l =
    steps (link l.graph.arcs.now) (length l.graph.weights.now) l.place
