-- `find_max_weight` meets its contract: the answer at once, by label or by stamp, or that of a run.
use mathlib.Core.Path.{sym, ◌∙◌}
use mathlib.Core.Bool.{false}
use Rattle.search.specs.Promises.{progress}
use Rattle.search.proofs.Answers.{answered_labelled, answered_settled, answered_run, moved_is}
use Rattle.search.proofs.witness_search.LentSearch.find_max_weight.Goals as goal

pub returns-then-weight-weight_limit-clause-finds : goal.returns-then-weight-weight_limit-clause-finds
returns-then-weight-weight_limit-clause-finds c = λ w s x. answered_labelled c.args.self.now.round x _ c.get_current_weight-weight.ensures c.if-weight-weight_limit.true

pub returns-then-is_settled-clause-finds : goal.returns-then-is_settled-clause-finds
returns-then-is_settled-clause-finds c =
    λ w s x.
    answered_settled c.args.self.now.round x _ c.get_current_weight-weight.ensures
    (sym c.is_settled.ensures ∙ c.if-is_settled.true)

pub returns-clause-finds : goal.returns-clause-finds
returns-clause-finds c =
    λ w s x.
    let ran = c.run.ensures in
    rw (← (moved_is c.args.self.now.round _ ran.round))
    (answered_run c.args.self.now.round x _ (progress c.run.new.self.round false) c.get_current_weight-weight.ensures c.if-weight-weight_limit.false
    (sym c.is_settled.ensures ∙ c.if-is_settled.false)
    (ran.runs w s x)
    (rw ran.round.base at c.get_current_weight.ensures))
