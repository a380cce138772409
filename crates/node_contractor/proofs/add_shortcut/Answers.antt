-- An arc was there or none, of a sum too large; of any other the arc came, or no place was left.
use Rattle.node_contractor.proofs.Pairs.{addable, arc_there, no_arc_there, added}
use Rattle.node_contractor.proofs.add_shortcut.Goals as goal

pub returns-then-reduce_edge-clause-adds : goal.returns-then-reduce_edge-clause-adds
returns-then-reduce_edge-clause-adds c =
    λ labels heap r limit n g s p.
    let found = c.reduce_edge.ensures in
    rw found.state (arc_there p _ limit c.if-heavy.true c.reduce_edge.result (found.reduces n _ _ g (addable p)) c.if-reduce_edge.true)

pub returns-then-heavy-clause-adds : goal.returns-then-heavy-clause-adds
returns-then-heavy-clause-adds c =
    λ labels heap r limit n g s p.
    no_arc_there p _ limit c.if-heavy.true c.reduce_edge.result (c.reduce_edge.ensures.reduces n _ _ g (addable p)) c.if-reduce_edge.false

pub returns-clause-adds : goal.returns-clause-adds
returns-clause-adds c = λ labels heap r limit n g s p. added p _ limit c.if-heavy.false _ _ (c.add_or_reduce_edge.ensures.answers n g (addable p))
