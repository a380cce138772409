-- Each return is the first row that is met, by the tests that led there.
use mathlib.Core.Path.{refl, sym, ◌∙◌}
use Rattle.std.proofs.lemmas.Result.{err_from_is_err_and}
use Rattle.rules.specs.Columns.{forward, backward, table}
use Rattle.rules.proofs.Refused.{some_number}
use Rattle.query.proofs.FirstMet.{table_rules}
use Rattle.calc_paths.proofs.Rows.{scratch_alone, tables_broken, columns_differ, answers_lack, scratch_lacks, none_met}
use Rattle.calc_paths.proofs.refusal.Goals as goal

pub returns-in_err-check_tables : goal.returns-in_err-check_tables
returns-in_err-check_tables c =
    let p = err_from_is_err_and c.from_residual.result c.from_residual.ensures.1 in
    rw (p.1, p.2) (tables_broken _ _ _ _ _ _ _ c.in_err-check_tables.ensures (some_number _))

pub returns-then-sources-targets : goal.returns-then-sources-targets
returns-then-sources-targets c = columns_differ _ _ _ _ _ _ _ c.in_ok-check_tables.ensures refl c.if-sources-targets.true

pub returns-then-answers_short : goal.returns-then-answers_short
returns-then-answers_short c = answers_lack _ _ _ _ _ _ _ c.in_ok-check_tables.ensures refl c.if-sources-targets.false (sym c.answers_short.ensures ∙ c.if-answers_short.true)

pub lent_short-requires : goal.lent_short-requires
unfolding table
lent_short-requires c =
    let rules = table_rules _ _ _ c.in_ok-check_tables.ensures refl in
    (rules.nodes, (rules.side_rules forward).places_for_starts, (rules.side_rules backward).places_for_starts)

pub returns-then-lent_short : goal.returns-then-lent_short
returns-then-lent_short c =
    scratch_lacks _ _ _ _ _ _ _ c.in_ok-check_tables.ensures refl c.if-sources-targets.false (sym c.answers_short.ensures ∙ c.if-answers_short.false)
    (sym (scratch_alone _ _ _ _ _ _) ∙ sym c.lent_short.ensures ∙ c.if-lent_short.true)

pub returns : goal.returns
returns c =
    none_met _ _ _ _ _ _ _ c.in_ok-check_tables.ensures refl c.if-sources-targets.false (sym c.answers_short.ensures ∙ c.if-answers_short.false)
    (sym (scratch_alone _ _ _ _ _ _) ∙ sym c.lent_short.ensures ∙ c.if-lent_short.false)
