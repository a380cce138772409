-- The counts, and the records after the build; or a refusal's line and no more.
use mathlib.Core.Path.{◌≡◌, sym, ap, ◌∙◌}
use Rattle.rules.specs.Refused.{code}
use Rattle.rules.proofs.Refused.{some_number}
use Rattle.gateway.proofs.Closing.{stop_fits, stop_wrote, counts_fit, onward_fits, go_wrote}
use Rattle.gateway.proofs.after_build.Goals as goal
use Rattle.gateway.proofs.after_build.Goals.{In-Ok, In-Err}

none : (c : In-Ok) → code c.args.outcome ≡ 0
none c = ap code c.in-Ok.is

some : (c : In-Err) → code c.args.outcome ≡ 0 → ⊥
some c e = some_number c.in-Err.refusal (sym (ap code c.in-Err.is) ∙ e)

pub built_line-end-requires : goal.built_line-end-requires
built_line-end-requires c = counts_fit _ _ _ _ _ (none (goal.at.built_line-end-requires c).In-Ok) c.requires.fits

pub answer_all-requires : goal.answer_all-requires
answer_all-requires c =
    let none = none (goal.at.answer_all-requires c).In-Ok in
    (c.requires.small none, c.requires.short, onward_fits _ _ _ _ _ none c.requires.fits c.built_line-end.ensures)

pub refused_line-requires : goal.refused_line-requires
refused_line-requires c =
    rw (c.into.ensures, ← ap code c.in-Err.is) (stop_fits _ _ _ _ _ (some (goal.at.refused_line-requires c).In-Err) c.requires.fits)

pub returns-in-Ok : goal.returns-in-Ok
returns-in-Ok c = go_wrote _ _ _ _ _ (none (goal.at.returns-in-Ok c).In-Ok) c.built_line-end.ensures c.answer_all.ensures

pub returns-in-Err : goal.returns-in-Err
returns-in-Err c =
    stop_wrote _ _ _ _ _ (some (goal.at.returns-in-Err c).In-Err) (rw (c.into.ensures, ← ap code c.in-Err.is) at c.refused_line.ensures)
