-- `unlink` meets its contract: its stores are those of the definition, with `follow` before them.
use mathlib.Core.Path.{ap}
use Prim.Native.Nat.{◌+◌}
use borrow.Author.Tests.{eq-eqb, ne_eqb}
use Rattle.rules.specs.Numbers.{invalid}
use Rattle.lists.specs.Memory.{Memory}
use Rattle.lists.specs.Walks.{column}
use Rattle.lists.specs.Steps.{unlink, set_last}
use Rattle.lists.proofs.unlink.Goals as goal

pub returns-then-next : goal.returns-then-next
unfolding unlink
returns-then-next c =
    let a = c.args in
    rw (eq-eqb (column a.arcs.now (3 + a.side) a.place) invalid c.if-next.true, unlink)
    (ap (λ (m : Memory). set_last m a.side a.node a.before) c.follow.ensures)

pub returns-else-next : goal.returns-else-next
unfolding unlink
returns-else-next c =
    let a = c.args in
    rw (ne_eqb (column a.arcs.now (3 + a.side) a.place) invalid c.if-next.false, unlink)
    c.follow.ensures
