-- Rule 3, then rule 4.
use mathlib.Core.Path.{ap}
use Rattle.std.proofs.lemmas.Result.{err_from_is_err_and}
use Rattle.graph.specs.Promises.{told}
use Rattle.graph.proofs.Answering.{kept_on}
use Rattle.node_contractor.proofs.InArcs.{does_came, does_refused, contract_stops, contract_done}
use Rattle.node_contractor.proofs.contract_node.Goals as goal

pub disconnect-requires : goal.disconnect-requires
disconnect-requires c =
    let p = c.requires in
    let done = (c.handle_shortcuts.ensures.handles p.0 p.1 p.2).came _ (ap (told _) c.in_ok-handle_shortcuts.was) in
    (p.0, _, _, done.graph, done.rests.standing.stands, p.2.entering.node)

pub returns-in_err-handle_shortcuts-clause-contracts : goal.returns-in_err-handle_shortcuts-clause-contracts
returns-in_err-handle_shortcuts-clause-contracts c =
    λ n g p.
    let a = c.args in
    let is = err_from_is_err_and c.from_residual.result c.from_residual.ensures.1 in
    rw (is.1, is.2, told)
    (does_refused
    (contract_stops a.graph.now.pool a.limit a.v g ((c.handle_shortcuts.ensures.handles n g p).no _ (ap (told _) c.in_err-handle_shortcuts.was))))

pub returns-clause-contracts : goal.returns-clause-contracts
returns-clause-contracts c =
    λ n g p.
    let a = c.args in
    let done = (c.handle_shortcuts.ensures.handles n g p).came _ (ap (told _) c.in_ok-handle_shortcuts.was) in
    rw c.disconnect.ensures.weights
    (does_came
    (contract_done a.graph.now.pool a.limit a.v g done _ (c.disconnect.ensures.without n a.graph.now.pool _ done.graph done.rests.standing.stands p.entering.node)))

pub returns-clause-kept : goal.returns-clause-kept
returns-clause-kept c = kept_on c.handle_shortcuts.ensures.kept c.disconnect.ensures.kept
