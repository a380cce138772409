-- The third demand. What a walk is, what counts and what a least walk is, is said in walks/specs Walks and query_laws/specs
-- LeastWalk, without running the build or the query.
use Rattle.std.specs.Prelude.{◌≡◌, ℕ, ◌≤◌}
use Rattle.rules.specs.Numbers.{max_link_weight}
use Rattle.rules.specs.Lists.{In}
use Rattle.rules.specs.Columns.{link_list}
use Rattle.rules.specs.Refusals.{BuildCall, QueryCall, query_refusal}
use Rattle.rules.specs.Build.{build}
use Rattle.walks.specs.Agreement.{Agree}
use Rattle.query_laws.specs.LeastWalk.{Answered}

-- An accepted query on the tables of a build that was not refused, in the columns that it filled, in ones cut to the used
-- entries or in longer ones. A link's weight is a number of 32 bits, as its column has it.
pub record OnBuilt (c : BuildCall) (q : QueryCall) : Type 0 where
  pub weights : (w : ℕ) → In w c.links.weights → w ≤ max_link_weight
  pub built : (build c).number ≡ 0
  pub nodes : q.nodes ≡ c.nodes
  pub tables : Agree c.nodes (build c).hierarchy q.hierarchy
  pub accepted : query_refusal q ≡ 0

abbrev pub ThirdDemand : Type 0
ThirdDemand = (c : BuildCall) (q : QueryCall) → OnBuilt c q → Answered (link_list c.links) q
