-- Each return is the first row that is met, by the tests that led there.
use mathlib.Core.Path.{refl, sym, ◌∙◌}
use Rattle.std.proofs.lemmas.Result.{err_from_is_err_and}
use Rattle.rules.specs.Columns.{forward, backward, table}
use Rattle.rules.proofs.Refused.{some_number}
use Rattle.query.proofs.FirstMet.{table_rules, tables_broken, ends_bad, room_bad, room_good}
use Rattle.query.proofs.refusal.Goals as goal

pub returns-in_err-check_tables : goal.returns-in_err-check_tables
returns-in_err-check_tables c =
    let p = err_from_is_err_and c.from_residual.result c.from_residual.ensures.1 in
    rw (p.1, p.2) (tables_broken _ _ _ _ _ _ _ _ _ _ _ _ c.in_err-check_tables.ensures (some_number _))

pub returns-in_err-check_ends : goal.returns-in_err-check_ends
returns-in_err-check_ends c =
    let p = err_from_is_err_and c.from_residual-in_err-check_ends.result c.from_residual-in_err-check_ends.ensures.1 in
    rw (p.1, p.2) (ends_bad _ _ _ _ _ _ _ _ _ _ _ _ c.in_ok-check_tables.ensures refl _ c.in_err-check_ends.ensures (some_number _))

pub lent_short-requires : goal.lent_short-requires
unfolding table
lent_short-requires c =
    let rules = table_rules _ _ _ c.in_ok-check_tables.ensures refl in
    (rules.nodes, (rules.side_rules forward).places_for_starts, (rules.side_rules backward).places_for_starts)

pub returns-then-lent_short : goal.returns-then-lent_short
returns-then-lent_short c =
    room_bad _ _ _ _ _ _ _ _ _ _ _ _ c.in_ok-check_tables.ensures refl c.in_ok-check_ends.ensures (sym c.lent_short.ensures ∙ c.if-lent_short.true)

pub returns : goal.returns
returns c =
    room_good _ _ _ _ _ _ _ _ _ _ _ _ c.in_ok-check_tables.ensures refl c.in_ok-check_ends.ensures (sym c.lent_short.ensures ∙ c.if-lent_short.false)
