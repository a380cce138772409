-- The ranks are filled, and each table is marked.
use Rattle.rules.specs.Numbers.{invalid}
use Rattle.marks.proofs.Filling.{filled_whole, all_marked}
use Rattle.marks.proofs.mark_all.Goals as goal

pub returns-clause-marks : goal.returns-clause-marks
returns-clause-marks c =
    all_marked _ (filled_whole invalid c.args.ranks.now (c.fill.ensures.after (λ _ e. e))) c.mark.ensures.marks c.mark-2.ensures.marks
