-- Each row's chain decides as `bad_in` of that row does.
use mathlib.Core.Path.{◌∙◌}
use native.Mathlib.Omega.{arith}
use Rattle.input_graph.proofs.Rows.{bad_above, bad_loop, bad_zero}
use Rattle.input_graph.proofs.any_bad.Goals as goal

pub returns-in-3 : goal.returns-in-3
returns-in-3 c = c.names_above.ensures ∙ bad_above _ _ _ _ _ c.requires c.in-3.is

pub returns-in-4 : goal.returns-in-4
returns-in-4 c = c.has_loop.ensures ∙ bad_loop _ _ _ _ _ c.requires c.in-4.is

pub returns-in_default : goal.returns-in_default
returns-in_default c = c.has_zero.ensures ∙ bad_zero _ _ _ _ _ c.requires (λ e. omega arith) (λ e. omega arith)
