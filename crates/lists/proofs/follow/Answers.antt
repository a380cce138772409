-- `follow` meets its contract: the store is that of the branch taken.
use mathlib.Core.Path.{refl}
use native.Mathlib.Omega.{arith}
use borrow.Author.Tests.{eq-eqb, ne_eqb}
use Rattle.rules.specs.Numbers.{invalid}
use Rattle.lists.specs.Steps.{follow}
use Rattle.lists.proofs.follow.Goals as goal

pub bounds-arcs-before : goal.bounds-arcs-before
bounds-arcs-before c = omega (arith, c.requires.place c.if-before-eq-INVALID.false)

pub returns-then-before-eq-INVALID : goal.returns-then-before-eq-INVALID
unfolding follow
returns-then-before-eq-INVALID c = rw (eq-eqb c.args.before invalid c.if-before-eq-INVALID.true, follow) refl

pub returns-else-before-eq-INVALID : goal.returns-else-before-eq-INVALID
unfolding follow
returns-else-before-eq-INVALID c = rw (ne_eqb c.args.before invalid c.if-before-eq-INVALID.false, follow) refl
