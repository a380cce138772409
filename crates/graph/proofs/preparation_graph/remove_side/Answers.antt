-- `remove_side` meets its contract. The loop's invariant: of any graph that stood at first, one stands now that has the same arcs
-- beside the list. The measure is what is left of the list.
use Prim.Native.Nat.{◌+◌, ◌*◌, ◌≤◌}
use native.Mathlib.Omega.{arith}
use lib.ListN.{length}
use Rattle.lists.specs.Memory.{memory}
use Rattle.graph.specs.Promises.{HoldsSome}
use Rattle.graph.proofs.Removing.{fewer_on, fewer_all, fewer_holds, removed_nearer}
use Rattle.graph.proofs.preparation_graph.remove_side.Goals as goal
use Rattle.graph.proofs.preparation_graph.remove_side.Goals.{At-loop-nodes}

-- the graph that the caller knows of, as it is now
now_some : (c : At-loop-nodes) →
    let a = c.args in
    HoldsSome (memory c.loop-nodes.arcs c.loop-nodes.nodes) c.loop-nodes.freed a.node
now_some c = fewer_holds c.args.side c.args.node c.loop-nodes.invariant c.requires.1

room : (c : At-loop-nodes) → 4 * c.args.node + 4 ≤ length c.loop-nodes.nodes
room c = let k = (let s = c in fewer_holds s.args.side s.args.node c.loop-nodes.invariant s.requires.1) in omega (arith, k.inside, k.stands.placed.nodes_room)

pub remove_first-freed-requires : goal.remove_first-freed-requires
remove_first-freed-requires c = (c.requires.0, c.loop-nodes-test.true, now_some (goal.at.remove_first-freed-requires c).At-loop-nodes)

pub loop-nodes-smaller : goal.loop-nodes-smaller
loop-nodes-smaller c =
    let k = now_some (goal.at.loop-nodes-smaller c).At-loop-nodes in
    let drops = c.remove_first-freed.ensures in
    removed_nearer c.args.side c.args.node c.requires.0 k.inside k.stands
    (drops k.nodes k.pool k.fresh k.weights k.graph k.stands k.inside) c.loop-nodes-test.true

pub loop-nodes-preserved : goal.loop-nodes-preserved
loop-nodes-preserved c = fewer_on c.args.side c.args.node c.loop-nodes.invariant c.remove_first-freed.ensures

pub returns : goal.returns
returns c = fewer_all c.args.side c.args.node c.loop-nodes.invariant c.requires.0 c.loop-nodes-test.false
