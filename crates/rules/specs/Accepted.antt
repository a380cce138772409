-- What a build knows of an accepted call: no row from 1 to 9 was met. Contracts of the build's steps ask for it.
use Rattle.std.specs.Prelude.{◌≡◌, true, ℕ, suc, ◌≤◌, ◌<◌, length}
use Rattle.rules.specs.Numbers.{max_nodes}
use Rattle.rules.specs.Lists.{In, distinct}
use Rattle.rules.specs.Columns.{Link, link_list, EquallyLong}
use Rattle.rules.specs.Refusals.{BuildCall, ascending}

pub record AcceptedBuild (c : BuildCall) : Type 0 where
  pub nodes : c.nodes ≤ max_nodes
  pub below : (l : Link) → In l (link_list c.links) → (l.tail < c.nodes) × (l.head < c.nodes)
  pub loopless : (l : Link) → In l (link_list c.links) → l.tail ≡ l.head → ⊥
  pub positive : (l : Link) → In l (link_list c.links) → 1 ≤ l.weight
  pub links_ascend : ascending (link_list c.links) ≡ true
  pub order_length : length c.order ≡ c.nodes
  pub order_below : (v : ℕ) → In v c.order → v < c.nodes
  pub order_distinct : distinct c.order ≡ true
  pub ranks_room : c.nodes ≤ length c.lent.ranks
  pub fwd_starts : suc c.nodes ≤ length c.lent.forward.starts
  pub fwd_columns : EquallyLong c.lent.forward
  pub bwd_starts : suc c.nodes ≤ length c.lent.backward.starts
  pub bwd_columns : EquallyLong c.lent.backward
