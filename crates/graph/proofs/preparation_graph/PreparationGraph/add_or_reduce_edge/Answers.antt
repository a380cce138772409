-- `add_or_reduce_edge` meets its contract: where nothing was reduced the slices are as they were, and an arc is added.
use Rattle.graph.proofs.Answering.{answers_came, still_addable, answers_after}
use Rattle.graph.proofs.preparation_graph.PreparationGraph.add_or_reduce_edge.Goals as goal

pub returns-then-reduced-clause-answers : goal.returns-then-reduced-clause-answers
returns-then-reduced-clause-answers c n g r =
    let before = c.args.self.now in
    let found = c.reduce_edge-reduced.ensures in
    rw found.state (answers_came ((found.reduces n before.pool before.state g r).reduced c.if-reduced.true))

pub add_edge_or_shortcut-requires : goal.add_edge_or_shortcut-requires
add_edge_or_shortcut-requires c =
    let k = c.requires in
    let before = c.args.self.now in
    let found = c.reduce_edge-reduced.ensures in
    let none = found.reduces k.0 before.pool before.state k.1 k.2 in
    (k.0, k.1, rw (found.kept.pool, found.state) (still_addable (none.same c.if-reduced.false) k.2))

pub returns-clause-answers : goal.returns-clause-answers
returns-clause-answers c n g r =
    let before = c.args.self.now in
    let found = c.reduce_edge-reduced.ensures in
    let none = found.reduces n before.pool before.state g r in
    let off = c.if-reduced.false in
    let added = rw (found.kept.pool, found.state) at c.add_edge_or_shortcut.ensures.answers in
    answers_after (none.same off) r (none.added off) (added n g (still_addable (none.same off) r))
