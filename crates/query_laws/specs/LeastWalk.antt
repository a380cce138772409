-- What a query must answer: what counts, what a least walk is and what "none" means is said without running a query.
use Rattle.std.specs.Prelude.{◌≡◌, ◌⊎◌, true, List, [], ℕ, ◌+◌, ◌≤◌, length}
use Rattle.rules.specs.Numbers.{no_weight}
use Rattle.rules.specs.Lists.{In, distinct, over}
use Rattle.rules.specs.Columns.{Link, Ends}
use Rattle.rules.specs.Refusals.{QueryCall}
use Rattle.rules.specs.Query.{end_list, query}
use Rattle.walks.specs.Walks.{Walk}

-- a node listed with an offset that is not the mark
abbrev pub Counts : Ends → ℕ → ℕ → Type 0
Counts es v o = In (record { node = v; offset = o }) (end_list es) × (o ≡ no_weight → ⊥)

-- the least offset listed for a node
abbrev pub Least : Ends → ℕ → ℕ → Type 0
Least es v o = Counts es v o × ((p : ℕ) → Counts es v p → o ≤ p)

-- no counting source reaches a counting target
abbrev pub Unreachable : List Link → Ends → Ends → Type 0
Unreachable ls ss ts =
    (s t o p w : ℕ) (vs : List ℕ) → Counts ss s o → Counts ts t p → Walk ls t s w vs → ⊥

-- The walk `vs` is an answer of weight `total`.
pub record LeastWalk (ls : List Link) (ss ts : Ends) (total : ℕ) (vs : List ℕ) : Type 0 where
  pub source : ℕ
  pub target : ℕ
  pub from : ℕ
  pub to : ℕ
  pub weight : ℕ
  pub is_walk : Walk ls target source weight vs
  pub from_least : Least ss source from
  pub to_least : Least ts target to
  pub makes : total ≡ from + weight + to
  pub none_less : (s t o p w : ℕ) (us : List ℕ) → Counts ss s o → Counts ts t p → Walk ls t s w us → total ≤ o + w + p
  pub no_node_twice : distinct vs ≡ true

-- "None", or a least walk; never a refusal.
pub record AnsweredNone (ls : List Link) (q : QueryCall) : Type 0 where
  pub number : (query q).number ≡ 0
  pub weight : (query q).weight ≡ no_weight
  pub walk : (query q).walk ≡ []
  pub path : (query q).path ≡ q.path
  pub unreachable : Unreachable ls q.sources q.targets

pub record AnsweredWalk (ls : List Link) (q : QueryCall) : Type 0 where
  pub number : (query q).number ≡ 0
  pub least_walk : LeastWalk ls q.sources q.targets (query q).weight (query q).walk
  pub fits : length (query q).walk ≤ q.nodes
  pub path : (query q).path ≡ over q.path (query q).walk

abbrev pub Answered : List Link → QueryCall → Type 0
Answered ls q = AnsweredNone ls q ⊎ AnsweredWalk ls q
