-- Rows 1 to 6 by the check of the links, then 7, then 8.
use mathlib.Core.Path.{sym, ◌∙◌}
use native.Mathlib.Omega.{arith}
use Rattle.std.proofs.lemmas.Result.{err_from_is_err_and}
use Rattle.rules.proofs.Refused.{some_number}
use Rattle.refusals.proofs.Tests.{first_graph, first_later, nodes_few, wrong_length, wrong_numbers, right_order}
use Rattle.refusals.proofs.refusal.Goals as goal

pub returns-in_err-check_graph : goal.returns-in_err-check_graph
returns-in_err-check_graph c =
    let e = c.in_err-check_graph.ensures in
    let p = err_from_is_err_and c.from_residual.result c.from_residual.ensures.1 in
    rw (p.1, p.2) (e ∙ sym (first_graph _ _ _ (λ z. some_number _ (e ∙ z))))

pub returns-then-order-n : goal.returns-then-order-n
returns-then-order-n c = sym (first_later _ _ _ (sym c.in_ok-check_graph.ensures) ∙ wrong_length _ _ c.if-order-n.true)

pub each_once-requires : goal.each_once-requires
each_once-requires c = (nodes_few _ _ (sym c.in_ok-check_graph.ensures), omega (arith, c.if-order-n.false))

pub returns-then-each_once : goal.returns-then-each_once
returns-then-each_once c = sym (first_later _ _ _ (sym c.in_ok-check_graph.ensures) ∙ right_order _ _ c.if-order-n.false (sym c.each_once.ensures ∙ c.if-each_once.true))

pub returns : goal.returns
returns c = sym (first_later _ _ _ (sym c.in_ok-check_graph.ensures) ∙ wrong_numbers _ _ c.if-order-n.false (sym c.each_once.ensures ∙ c.if-each_once.false))
