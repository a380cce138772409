-- One search begins and goes over all pairs; the next may follow.
use Rattle.node_contractor.proofs.InArcs.{sets_out, in_arc_passes}
use Rattle.node_contractor.proofs.handle_in_arc.Goals as goal

pub handle_out_arcs-requires : goal.handle_out_arcs-requires
handle_out_arcs-requires c = let p = c.requires in (p.0, p.1, p.2, _, sets_out _ p.3 c.init.ensures.starts c.init.ensures.kept.heap)

pub returns-clause-comes : goal.returns-clause-comes
returns-clause-comes c =
    λ n g a p. in_arc_passes _ p c.init.ensures.starts c.init.ensures.kept.heap _ c.handle_out_arcs.ensures.search_kept.heap c.handle_out_arcs.ensures.leaves
