-- How many entries lead up to the node, one fewer at its parent.
use Rattle.paths.proofs.Chains.{steps}
use Rattle.paths.proofs.+climb_bwd.Given as goal

abbrev pub decreases-climb_bwd : goal.decreases-climb_bwd
decreases-climb_bwd l = steps l.half.now.labels.now l.half.now.base l.v
