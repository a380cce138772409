-- `remove_side` meets its contract. The loop's invariant: of any graph that stood at first, one stands now that has the same arcs
-- beside the list. The measure is what is left of the list.
use Prim.Native.Nat.{◌+◌}
use lib.ListN.{length}
use Rattle.lists.specs.Memory.{memory, first}
use Rattle.lists.specs.Walks.{column, steps}
use Rattle.graph.proofs.Removing.{Fewer}
use Rattle.graph.proofs.preparation_graph.remove_side.Given as goal

abbrev pub invariant-loop-nodes : goal.invariant-loop-nodes
invariant-loop-nodes l = Fewer (memory l.initial.arcs l.initial.nodes) (memory l.arcs l.nodes) l.free l.freed l.side l.node

abbrev pub decreases-loop-nodes : goal.decreases-loop-nodes
decreases-loop-nodes l =
    steps (column l.arcs (3 + l.side)) (length l.arcs) (first (memory l.arcs l.nodes) l.side l.node)
