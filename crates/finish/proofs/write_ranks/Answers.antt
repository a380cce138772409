-- The invariant: the first r nodes of the order have their ranks.
use native.Mathlib.Omega.{arith}
use Rattle.finish.proofs.Seeking.{node_there, one_inverted, all_inverted}
use Rattle.finish.proofs.write_ranks.Goals as goal

pub bounds-ranks-node : goal.bounds-ranks-node
bounds-ranks-node c =
    let q = c.requires in
    omega (arith, node_there q.1 (c.loop-r.invariant q.0 q.1) c.loop-r.auto.ranks (omega arith), q.1.room, c.loop-r.auto.ranks)

pub loop-r-preserved : goal.loop-r-preserved
loop-r-preserved c = λ n p. one_inverted p (c.loop-r.invariant n p) c.loop-r.auto.ranks (omega arith)

pub returns : goal.returns
returns c = λ n p. all_inverted p (c.loop-r.invariant n p) c.loop-r.auto.ranks (omega arith)
