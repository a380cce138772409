-- A query that refusals 20 to 24 let pass.
use Rattle.std.specs.Prelude.{◌≡◌, ◌⊎◌, false, ℕ, ◌≤◌, ◌<◌, length}
use Rattle.rules.specs.Numbers.{max_ends, max_weight, no_weight}
use Rattle.rules.specs.Lists.{In}
use Rattle.rules.specs.Columns.{Ends}
use Rattle.rules.specs.TableRules.{TableRules}
use Rattle.rules.specs.Refusals.{QueryCall, short, query_scratch}
use Rattle.rules.specs.Query.{End, end_list}

-- What the refusals leave of ends.
pub record EndRules (n : ℕ) (e : End) : Type 0 where
  pub node_below : e.node < n
  pub fits : (e.offset ≤ max_weight) ⊎ (e.offset ≡ no_weight)

-- The ends of one side, after refusals 21 to 23.
pub record EndsRules (n : ℕ) (e : Ends) : Type 0 where
  pub some : 1 ≤ length e.nodes
  pub few : length e.nodes ≤ max_ends
  pub columns : length e.offsets ≡ length e.nodes
  pub each : (x : End) → In x (end_list e) → EndRules n x
  pub listed : length (end_list e) ≤ length e.nodes

pub record Accepted (q : QueryCall) : Type 0 where
  pub rules : TableRules q.nodes q.hierarchy
  pub sources : EndsRules q.nodes q.sources
  pub targets : EndsRules q.nodes q.targets
  pub path_room : q.nodes ≤ length q.path
  pub scratch_room : short (query_scratch q.nodes q.hierarchy) q.scratch ≡ false
