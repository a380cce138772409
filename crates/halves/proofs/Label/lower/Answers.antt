-- Each return is a case of `lower`.
use borrow.Author.Tests.{lt-ltb, le-ltb}
use Rattle.rules.specs.Query.{lower}
use Rattle.halves.proofs.Label.lower.Goals as goal

pub returns-then-weight-self : goal.returns-then-weight-self
unfolding lower
returns-then-weight-self c = rw (lt-ltb _ _ c.if-weight-self.true, lower)

pub returns : goal.returns
unfolding lower
returns c = rw (le-ltb _ _ c.if-weight-self.false, lower)
