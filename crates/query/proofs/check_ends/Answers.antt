-- Each return is the first row that is met, by the tests that led there.
use mathlib.Core.Path.{sym, ◌∙◌}
use Rattle.query.proofs.FirstMet.{row_21, row_21_targets, row_22, row_22_targets, row_23, row_23_targets, ends_good}
use Rattle.query.proofs.check_ends.Goals as goal

pub returns-then-not-ends_fit : goal.returns-then-not-ends_fit
returns-then-not-ends_fit c = row_21 _ _ _ (sym c.ends_fit.ensures ∙ c.if-not-ends_fit.true)

pub returns-then-not-ends_fit-2 : goal.returns-then-not-ends_fit-2
returns-then-not-ends_fit-2 c = row_21_targets _ _ _ (sym c.ends_fit.ensures ∙ c.if-not-ends_fit.false) (sym c.ends_fit-2.ensures ∙ c.if-not-ends_fit-2.true)

pub returns-then-not-all_below : goal.returns-then-not-all_below
returns-then-not-all_below c = row_22 _ _ _ (sym c.ends_fit.ensures ∙ c.if-not-ends_fit.false) (sym c.ends_fit-2.ensures ∙ c.if-not-ends_fit-2.false) (sym c.all_below.ensures ∙ c.if-not-all_below.true)

pub returns-then-not-all_below-2 : goal.returns-then-not-all_below-2
returns-then-not-all_below-2 c = row_22_targets _ _ _ (sym c.ends_fit.ensures ∙ c.if-not-ends_fit.false) (sym c.ends_fit-2.ensures ∙ c.if-not-ends_fit-2.false) (sym c.all_below.ensures ∙ c.if-not-all_below.false) (sym c.all_below-2.ensures ∙ c.if-not-all_below-2.true)

pub returns-then-not-offsets_fit : goal.returns-then-not-offsets_fit
returns-then-not-offsets_fit c = row_23 _ _ _ (sym c.ends_fit.ensures ∙ c.if-not-ends_fit.false) (sym c.ends_fit-2.ensures ∙ c.if-not-ends_fit-2.false) (sym c.all_below.ensures ∙ c.if-not-all_below.false) (sym c.all_below-2.ensures ∙ c.if-not-all_below-2.false) (sym c.offsets_fit.ensures ∙ c.if-not-offsets_fit.true)

pub returns-then-not-offsets_fit-2 : goal.returns-then-not-offsets_fit-2
returns-then-not-offsets_fit-2 c = row_23_targets _ _ _ (sym c.ends_fit.ensures ∙ c.if-not-ends_fit.false) (sym c.ends_fit-2.ensures ∙ c.if-not-ends_fit-2.false) (sym c.all_below.ensures ∙ c.if-not-all_below.false) (sym c.all_below-2.ensures ∙ c.if-not-all_below-2.false) (sym c.offsets_fit.ensures ∙ c.if-not-offsets_fit.false) (sym c.offsets_fit-2.ensures ∙ c.if-not-offsets_fit-2.true)

pub returns : goal.returns
returns c = ends_good _ _ _ (sym c.ends_fit.ensures ∙ c.if-not-ends_fit.false) (sym c.ends_fit-2.ensures ∙ c.if-not-ends_fit-2.false) (sym c.all_below.ensures ∙ c.if-not-all_below.false) (sym c.all_below-2.ensures ∙ c.if-not-all_below-2.false) (sym c.offsets_fit.ensures ∙ c.if-not-offsets_fit.false) (sym c.offsets_fit-2.ensures ∙ c.if-not-offsets_fit-2.false)
