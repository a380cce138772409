-- The tests said which case of the definition it is.
use native.Mathlib.Omega.{arith}
use Rattle.search.specs.Promises.{Finds, found}
use Rattle.node_contractor.specs.Work.{slices}
use Rattle.node_contractor.proofs.Pairs.{same_ends, dropped, asks, still_pairing, witnessed, not_witnessed}
use Rattle.node_contractor.proofs.handle_pair.Goals as goal
use Rattle.node_contractor.proofs.handle_pair.Goals.{After-find_max_weight-found}

-- what the search found in the graph's slices as they were read
finds : (c : After-find_max_weight-found) →
    let a = c.args in
    let searched = c.find_max_weight-found.new.self in
    Finds (slices a.graph.now a.search.now) searched.labels.now searched.heap.now a.search.now.round a.head a.sum a.limit
    (found c.find_max_weight-found.result searched.round)
finds c =
    let arcs = c.read-arcs.ensures in
    rw (arcs.arcs, arcs.weights, arcs.nodes) at c.find_max_weight-found.ensures.finds

pub returns-then-same-clause-pairs : goal.returns-then-same-clause-pairs
returns-then-same-clause-pairs c = λ n g s p small. dropped p (same_ends _ _ _ _ _ _ _ c.if-same.true)

pub find_max_weight-found-requires : goal.find_max_weight-found-requires
find_max_weight-found-requires c =
    let p = c.requires in
    let arcs = c.read-arcs.ensures in
    rw (arcs.arcs, arcs.weights, arcs.nodes) (_, p.2, asks p.3 p.4)

pub returns-then-witness-clause-pairs : goal.returns-then-witness-clause-pairs
returns-then-witness-clause-pairs c =
    λ n g s p small.
    witnessed p _ (finds (goal.at.returns-then-witness-clause-pairs c).After-find_max_weight-found _ s (asks p small)) c.if-same.false c.if-witness.true

pub add_shortcut-requires : goal.add_shortcut-requires
add_shortcut-requires c =
    let p = c.requires in
    (_, _, _, p.0, p.1, _, still_pairing p.3 _ (finds (goal.at.add_shortcut-requires c).After-find_max_weight-found _ p.2 (asks p.3 p.4)))

pub returns-clause-pairs : goal.returns-clause-pairs
returns-clause-pairs c =
    λ n g s p small.
    let answered = finds (goal.at.returns-clause-pairs c).After-find_max_weight-found _ s (asks p small) in
    not_witnessed p _ answered c.if-same.false (omega (arith, c.if-witness.false))
    (c.add_shortcut.ensures.adds _ _ _ c.args.limit n g _ (still_pairing p _ answered))
