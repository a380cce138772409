-- `heap::shift` meets its contract: what is loaded is what is stored.
use Rattle.heap.proofs.shift.Goals as goal

pub returns : goal.returns
returns c = rw c.load-x.ensures at c.store.ensures
