-- The third demand: the build's half and the query's half together.
use Rattle.rules.specs.Columns.{link_list}
use Rattle.walks.proofs.Agreement.{promise_kept}
use Rattle.build_laws.proofs.Refused.{build_half}
use Rattle.query_laws.proofs.Accepted.{accepted}
use Rattle.query_laws.proofs.Half.{query_half}
use Rattle.routes.specs.Demand.{ThirdDemand}

pub third_demand : ThirdDemand
third_demand c q on =
    let rules = rw on.nodes at (accepted q on.accepted).rules in
    let promise = promise_kept on.tables rules (build_half c on.weights on.built) in
    query_half (link_list c.links) q (rw on.nodes promise) on.accepted
