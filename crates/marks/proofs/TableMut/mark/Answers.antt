-- Each column is filled.
use Rattle.rules.specs.Numbers.{invalid, no_weight}
use Rattle.marks.proofs.Filling.{filled_whole, table_marked}
use Rattle.marks.proofs.TableMut.mark.Goals as goal

pub returns-clause-marks : goal.returns-clause-marks
returns-clause-marks c =
    let a = c.args.self.now in
    table_marked _
    (filled_whole invalid a.starts.now (c.fill.ensures.after (λ _ e. e)))
    (filled_whole invalid a.bases.now (c.fill-2.ensures.after (λ _ e. e)))
    (filled_whole invalid a.neighbours.now (c.fill-3.ensures.after (λ _ e. e)))
    (filled_whole no_weight a.weights.now (c.fill-4.ensures.after (λ _ e. e)))
    (filled_whole invalid a.ins.now (c.fill-5.ensures.after (λ _ e. e)))
    (filled_whole invalid a.outs.now (c.fill-6.ensures.after (λ _ e. e)))
