-- Each return is a case of `seen`.
use borrow.Author.Tests.{lt-ltb, le-ltb}
use Rattle.rules.specs.Query.{no_label}
use Rattle.halves.specs.Labels.{seen}
use Rattle.halves.proofs.SideLabels.load.Goals as goal

pub returns-then-self-v : goal.returns-then-self-v
unfolding seen no_label
returns-then-self-v c = rw (lt-ltb _ _ c.if-self-v.true, seen)

pub returns : goal.returns
unfolding seen
returns c = rw (le-ltb _ _ c.if-self-v.false, seen)
