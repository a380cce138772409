-- The third demand and the pins of document 01, of the compiled calls: of whatever `build_with_order`, `check_tables`, `fill_path`, `calc_paths`
-- and `answer_records` may leave by their contracts. (routes/specs has the third demand of the definitions.)
use Rattle.std.specs.Prelude.{List, ◌⊎◌, ◌≡◌, ℕ, ◌≤◌, take}
use Rattle.rules.specs.Numbers.{max_link_weight, no_weight}
use Rattle.rules.specs.Lists.{In, over}
use Rattle.rules.specs.Columns.{Link, link_list, Hierarchy}
use Rattle.rules.specs.Refusals.{BuildCall, QueryCall, check_refusal, query_refusal}
use Rattle.rules.specs.Program.{program}
use Rattle.walks.specs.Agreement.{Agree}
use Rattle.query_laws.specs.LeastWalk.{Unreachable, LeastWalk}
use Rattle.text.specs.Wrote.{Wrote}
use Rattle.fast_graph_builder.specs.Outcome as build
use Rattle.query.specs.Answers.{Answer}
use Rattle.query.specs.Outcome as query
use Rattle.calc_paths.specs.Many.{Answers, PathsCall}
use Rattle.calc_paths.specs.Outcome as many

-- A build left the number 0 and the tables h; an accepted query over these tables, in columns of any lengths, left an answer and a path.
pub record Asked (c : BuildCall) (r : ℕ) (h : Hierarchy) (q : QueryCall) (a : Answer) (path : List ℕ) : Type 0 where
  pub weights : (w : ℕ) → In w c.links.weights → w ≤ max_link_weight
  pub build_left : build.Outcome c r h
  pub built : r ≡ 0
  pub nodes : q.nodes ≡ c.nodes
  pub tables : Agree c.nodes h q.hierarchy
  pub accepted : query_refusal q ≡ 0
  pub query_left : query.Outcome q a path

-- "none": no counting source reaches a counting target
pub record ToldNone (ls : List Link) (q : QueryCall) (a : Answer) (path : List ℕ) : Type 0 where
  pub number : a.number ≡ 0
  pub weight : a.weight ≡ no_weight
  pub count : a.count ≡ 0
  pub path_is : path ≡ q.path
  pub unreachable : Unreachable ls q.sources q.targets

-- a least walk stands in the front of the path, which has room for it with a place per node
pub record ToldWalk (ls : List Link) (q : QueryCall) (a : Answer) (path : List ℕ) : Type 0 where
  pub number : a.number ≡ 0
  pub least_walk : LeastWalk ls q.sources q.targets a.weight (take a.count path)
  pub fits : a.count ≤ q.nodes
  pub path_is : path ≡ over q.path (take a.count path)

pub record Calls : Type 0 where
  pub third_demand : (c : BuildCall) (r : ℕ) (h : Hierarchy) (q : QueryCall) (a : Answer) (path : List ℕ) → Asked c r h q a path →
      ToldNone (link_list c.links) q a path ⊎ ToldWalk (link_list c.links) q a path
  -- what many routes in one call leave of a pair is what its single query may leave
  pub each_pair : (c : PathsCall) (r : ℕ) (after : Answers) → many.Outcome c r after → r ≡ 0 → many.EachPair c after
  -- any two outcomes coincide
  pub one_build : (c : BuildCall) (r s : ℕ) (h k : Hierarchy) → build.Outcome c r h → build.Outcome c s k → build.Same r s h k
  pub one_check : (n : ℕ) (h : Hierarchy) (r s : ℕ) → r ≡ check_refusal n h → s ≡ check_refusal n h → r ≡ s
  pub one_query : (q : QueryCall) (a b : Answer) (path path' : List ℕ) → query.Outcome q a path → query.Outcome q b path' → query.Same a b path path'
  pub one_many : (c : PathsCall) (r s : ℕ) (x y : Answers) → many.Outcome c r x → many.Outcome c s y → many.Same r s x y
  pub one_record_answer : (input out : List ℕ) (r s : ℕ) (out' out'' : List ℕ) → Wrote out 0 (program input) r out' → Wrote out 0 (program input) s out'' → (r ≡ s) × (out' ≡ out'')
