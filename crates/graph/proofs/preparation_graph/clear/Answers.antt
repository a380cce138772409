-- The nodes' numbers are the mark, as `fill` leaves them: no list has an arc.
use Rattle.std.proofs.Common.{refl, arith}
use Rattle.graph.proofs.Standing.{stands_filled}
use Rattle.graph.proofs.preparation_graph.clear.Goals as goal

pub returns : goal.returns
returns c arcs weights pool small arcs_room weights_room =
    stands_filled c.args.n pool arcs c.args.nodes.now weights c.fill.new.self _ small arcs_room weights_room c.requires (omega arith) c.fill.ensures.len
    (λ k h. c.fill.ensures.clones k 0 h refl)
