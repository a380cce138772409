-- The front of the walk is written, and one node more.
use Rattle.rules.specs.Lists.{flat_map}
use Rattle.text.proofs.Writing.{wrote_none, wrote_both, front_next, front_fits}
use Rattle.text.proofs.put_nodes.Goals as goal

pub loop-node-init : goal.loop-node-init
unfolding flat_map
loop-node-init c = wrote_none _ _

pub put_node-end-requires : goal.put_node-end-requires
put_node-end-requires c = front_fits _ _ c.requires c.loop-node-test.true c.loop-node.invariant

pub loop-node-preserved : goal.loop-node-preserved
loop-node-preserved c = rw (front_next _ _ _ c.loop-node-test.true) (wrote_both _ _ c.loop-node.invariant c.put_node-end.ensures)
