-- How many entries lead up to the node, one fewer at its parent.
use Rattle.paths.proofs.Chains.{steps}
use Rattle.paths.proofs.+climb_fwd.Given as goal

abbrev pub decreases-climb_fwd : goal.decreases-climb_fwd
decreases-climb_fwd l = steps l.half.now.labels.now l.half.now.base l.v
