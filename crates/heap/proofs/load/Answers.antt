-- `heap::load` meets its contract: the two reads are `item`'s own.
use mathlib.Core.Path.{refl}
use Rattle.heap.specs.Items.{item}
use Rattle.heap.proofs.load.Goals as goal

pub returns : goal.returns
unfolding item
returns c = refl
