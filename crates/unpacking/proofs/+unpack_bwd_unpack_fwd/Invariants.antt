-- How many nodes the entry opens into falls with each call.
use Rattle.rules.specs.Columns.{forward, backward}
use Rattle.tables.specs.Lent.{hierarchy_of}
use Rattle.unpacking.proofs.Opened.{opening}
use Rattle.unpacking.proofs.+unpack_bwd_unpack_fwd.Given as goal

abbrev pub decreases-unpack_bwd : goal.decreases-unpack_bwd
decreases-unpack_bwd l = opening (hierarchy_of l.g.now) backward l.e

abbrev pub decreases-unpack_fwd : goal.decreases-unpack_fwd
decreases-unpack_fwd l = opening (hierarchy_of l.g.now) forward l.e
