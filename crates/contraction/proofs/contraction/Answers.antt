-- The links' graph is taken in, labels are cleared, and then the ranks follow.
use mathlib.Core.Path.{sym, ◌∙◌, ap}
use Rattle.std.proofs.lemmas.Result.{err_from_is_err_and}
use Rattle.rules.specs.Build.{refused}
use Rattle.rules.specs.Refused.{number_of}
use Rattle.input_graph.specs.Given.{links}
use Rattle.graph.specs.Promises.{told}
use Rattle.contraction.specs.Ranks.{given, staged}
use Rattle.contraction.proofs.Ranking.{stopped}
use Rattle.contraction.proofs.Running.{no_room, starting, starting_as, came_as, from_links_went}
use Rattle.contraction.proofs.contraction.Goals as goal

pub returns-in_err-from_input_graph-clause-comes : goal.returns-in_err-from_input_graph-clause-comes
returns-in_err-from_input_graph-clause-comes c =
    λ h s p.
    let a = c.args in
    let is = err_from_is_err_and c.from_residual.result c.from_residual.ensures.1 in
    let full = c.from_input_graph.ensures.took_in.full _ (ap (told _) c.in_err-from_input_graph.was) in
    rw (is.1, is.2, staged)
    (stopped (no_room (given a.n (links a.tails.now a.heads.now a.link_weights.now) a.order.now h s) a.limit a.graph.now.pool full.1 ∙ ap (λ e. refused (number_of e)) (sym full.0)))

pub run_contraction_with_order-requires : goal.run_contraction_with_order-requires
run_contraction_with_order-requires c =
    let q = c.requires in
    let taken = c.from_input_graph.ensures in
    let stands = taken.took_in.came _ (ap (told _) c.in_ok-from_input_graph.was) in
    let cleared = c.clear.ensures in
    (_, _, q.0, q.1, starting_as taken.kept.pool cleared.heap (starting q.2 stands _ cleared.cleared.0 cleared.cleared.1))

pub returns-clause-comes : goal.returns-clause-comes
returns-clause-comes c =
    λ h s p.
    let a = c.args in
    let taken = c.from_input_graph.ensures in
    let stands = taken.took_in.came _ (ap (told _) c.in_ok-from_input_graph.was) in
    let cleared = c.clear.ensures in
    let ran = rw (taken.kept.pool, cleared.heap) at c.run_contraction_with_order.ensures.starts in
    came_as (from_links_went (given a.n (links a.tails.now a.heads.now a.link_weights.now) a.order.now h s) a.limit stands)
    (ran _ _ h s (starting p stands _ cleared.cleared.0 cleared.cleared.1))
