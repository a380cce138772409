-- `heap::first` meets its contract: `leaves_first` by the two cases of its middle test.
use mathlib.Core.Bool.{or-false}
use mathlib.Core.Path.{sym}
use native.Mathlib.Nat.{le_of_eq}
use borrow.Author.Tests.{le-ltb, eq-eqb, ne_eqb}
use Rattle.rules.specs.Heap.{leaves_first}
use Rattle.heap.specs.Items.{item}
use Rattle.heap.proofs.first.Goals as goal

pub returns-then-weight-x : goal.returns-then-weight-x
unfolding leaves_first item
returns-then-weight-x c =
    let tie = c.if-weight-x.true in
    rw (le-ltb _ _ (le_of_eq (sym tie)), eq-eqb _ _ tie)

pub returns-else-weight-x : goal.returns-else-weight-x
unfolding leaves_first item
returns-else-weight-x c = rw (ne_eqb _ _ c.if-weight-x.false) (sym (or-false _))
