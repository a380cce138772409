-- One call: what it tells stands before the lent slices came back, and each is as long as it was.
use Rattle.ratmanoep.proofs.ratmanoep_build_with_order.Goals as goal

pub returns : goal.returns
returns c = rw c.number.ensures c.build_with_order.ensures
