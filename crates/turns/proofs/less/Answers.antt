-- The sum is compared without being formed.
use Rattle.turns.proofs.Settling.{less_not, less_by}
use Rattle.turns.proofs.less.Goals as goal

pub returns-then-weight-label : goal.returns-then-weight-label
returns-then-weight-label c = less_not _ _ _ c.if-weight-label.true

pub returns : goal.returns
returns c = less_by _ _ _ c.if-weight-label.false
