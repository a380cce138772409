-- Each return is a case of `improve`.
use Rattle.turns.proofs.Settling.{improves, improves_not}
use Rattle.turns.proofs.Best.improve.Goals as goal

pub returns-then-sum-self : goal.returns-then-sum-self
returns-then-sum-self c = improves _ _ _ c.if-sum-self.true

pub returns : goal.returns
returns c = improves_not _ _ _ c.if-sum-self.false
