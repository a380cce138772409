-- The lists are counted and laid, and the node is contracted.
use mathlib.Core.Path.{ap}
use native.Mathlib.Omega.{arith}
use Rattle.graph.specs.Promises.{told}
use Rattle.contraction.specs.Ranks.{staged}
use Rattle.std.proofs.lemmas.Result.{err_from_is_err_and}
use Rattle.contraction.proofs.Ranking.{nodes_room, walk_out, walk_in, forward_within, backward_within, full_forward, full_backward, layable_forward, layable_backward, contractible, step_came, step_stopped}
use Rattle.contraction.proofs.rank_step.Goals as goal

pub bounds-graph-v : goal.bounds-graph-v
bounds-graph-v c = omega (arith, nodes_room c.requires.3)

pub bounds-graph-v-2 : goal.bounds-graph-v-2
bounds-graph-v-2 c = omega (arith, nodes_room c.requires.3)

pub list_length-more_fwd-requires : goal.list_length-more_fwd-requires
list_length-more_fwd-requires c = (omega arith, (_, walk_out c.requires.3))

pub list_length-more_bwd-requires : goal.list_length-more_bwd-requires
list_length-more_bwd-requires c = (omega arith, (_, walk_in c.requires.3))

pub overflow_sub-fwd : goal.overflow_sub-fwd
overflow_sub-fwd c = forward_within c.requires.3

pub returns-then-fwd-ranked-clause-steps : goal.returns-then-fwd-ranked-clause-steps
returns-then-fwd-ranked-clause-steps c = λ g b vs p. full_forward p (c.list_length-more_fwd.ensures _ (walk_out p)) (c.list_length-more_bwd.ensures _ (walk_in p)) c.if-fwd-ranked.true

pub overflow_sub-bwd : goal.overflow_sub-bwd
overflow_sub-bwd c = backward_within c.requires.3

pub returns-then-bwd-ranked-clause-steps : goal.returns-then-bwd-ranked-clause-steps
returns-then-bwd-ranked-clause-steps c = λ g b vs p. full_backward p (c.list_length-more_fwd.ensures _ (walk_out p)) (c.list_length-more_bwd.ensures _ (walk_in p)) c.if-fwd-ranked.false c.if-bwd-ranked.true

pub lay_rank-requires : goal.lay_rank-requires
lay_rank-requires c = let p = c.requires.3 in (_, _, layable_forward p (c.list_length-more_fwd.ensures _ (walk_out p)) (c.list_length-more_bwd.ensures _ (walk_in p)) c.if-fwd-ranked.false c.if-bwd-ranked.false)

pub lay_rank-requires-2 : goal.lay_rank-requires-2
lay_rank-requires-2 c = let p = c.requires.3 in (_, _, layable_backward p (c.list_length-more_fwd.ensures _ (walk_out p)) (c.list_length-more_bwd.ensures _ (walk_in p)) c.if-fwd-ranked.false c.if-bwd-ranked.false)

pub contract_node-requires : goal.contract_node-requires
contract_node-requires c = let p = c.requires.3 in (_, _, contractible p (c.list_length-more_fwd.ensures _ (walk_out p)) (c.list_length-more_bwd.ensures _ (walk_in p)) c.if-fwd-ranked.false c.if-bwd-ranked.false)

pub returns-clause-steps : goal.returns-clause-steps
returns-clause-steps c =
    λ g b vs p.
    step_came p (c.list_length-more_fwd.ensures _ (walk_out p)) (c.list_length-more_bwd.ensures _ (walk_in p)) c.if-fwd-ranked.false c.if-bwd-ranked.false c.lay_rank.ensures.lays c.lay_rank-2.ensures.lays
    c.contract_node.ensures.contracts _ (ap (told _) c.in_ok-contract_node.was)

pub returns-in_err-contract_node-clause-steps : goal.returns-in_err-contract_node-clause-steps
returns-in_err-contract_node-clause-steps c =
    λ g b vs p.
    let is = err_from_is_err_and c.from_residual.result c.from_residual.ensures.1 in
    rw (is.1, is.2, staged)
    (step_stopped p (c.list_length-more_fwd.ensures _ (walk_out p)) (c.list_length-more_bwd.ensures _ (walk_in p)) c.if-fwd-ranked.false c.if-bwd-ranked.false c.contract_node.ensures.contracts _ (ap (told _) c.in_err-contract_node.was))
