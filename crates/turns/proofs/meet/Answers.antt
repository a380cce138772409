-- A node with no label on the other side makes no sum below the mark.
use Rattle.std.proofs.Common.{rules, arith, ◌≤◌}
use Rattle.rules.specs.Numbers.{no_weight}
use Rattle.turns.proofs.Settling.{improves_not}
use Rattle.turns.proofs.meet.Goals as goal

pub returns-then-apart : goal.returns-then-apart
returns-then-apart c =
    let most : c.args.best.sum ≤ no_weight = search rules in
    improves_not _ _ _ (omega (arith, c.get_weight-across.ensures, c.if-apart.true, most))
