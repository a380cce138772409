-- `settle` meets its contract: v is marked, and the chain of its out-arcs relaxed.
use Rattle.rules.specs.Search.{mark_settled}
use Rattle.search.specs.Labels.{put_settled}
use Rattle.search.proofs.Nodes.{settled_row, settling, settled}
use Rattle.search.proofs.witness_search.LentSearch.settle.Goals as goal

pub relax-requires : goal.relax-requires
unfolding put_settled
relax-requires c =
    let r = c.requires in
    (settled_row r.2, mark_settled _ r.1, settling r.2)

pub returns-clause-settles : goal.returns-clause-settles
unfolding put_settled
returns-clause-settles c = λ w s x. settled x _ (c.relax.ensures.relaxes (settled_row x) (mark_settled _ s) (settling x))
