-- The columns after rule 5, or after a refusal, are the definition's.
use mathlib.Core.Path.{ap}
use Rattle.contraction.specs.Ranks.{staged}
use Rattle.fast_graph_builder.proofs.Closing.{ending, closed_went, closed_refused}
use Rattle.fast_graph_builder.proofs.close.Goals as goal

pub finish_contraction-requires : goal.finish_contraction-requires
finish_contraction-requires c = let q = c.requires in (_, _, ending q.4 _ (ap (staged q.3) c.in-Ok.is))

pub returns-in-Ok-clause-closes : goal.returns-in-Ok-clause-closes
returns-in-Ok-clause-closes c = λ k s m w p. closed_went p _ (ap (staged w) c.in-Ok.is) c.finish_contraction.ensures

pub returns-in-Err-clause-closes : goal.returns-in-Err-clause-closes
returns-in-Err-clause-closes c = λ k s m w p. closed_refused p _ (ap (staged w) c.in-Err.is) c.mark_all.ensures.marks
