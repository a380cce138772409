-- What holds of every graph that a build meets, of every level that it writes, and of the run over the order.
use Rattle.std.specs.Prelude.{◌≡◌, ◌⊎◌, List, ◌++◌, map, ℕ, suc, ◌+◌, ◌≤◌, ◌<◌, eqb, length}
use Rattle.rules.specs.Numbers.{max_weight, invalid}
use Rattle.rules.specs.Lists.{In, position}
use Rattle.rules.specs.Columns.{Link, Side, forward, backward}
use Rattle.rules.specs.Refusals.{BuildCall}
use Rattle.rules.specs.Graph.{Arc, Loopless, Apart}
use Rattle.rules.specs.Build.{Level, arcs_of, neighbour_of, Building}
use Rattle.walks.specs.Walks.{Linked}

-- the end of an arc whose list it stands in
unfoldable pub own_end : Side → Arc → ℕ
own_end forward x = x.tail
own_end backward x = x.head

-- Over a fixed order.
module _ (order : List ℕ) where
  -- where a node stands in the order; its length where it does not
  abbrev pub rank_of : ℕ → ℕ
  rank_of u = position (eqb u) order

  -- not contracted before rank r
  abbrev pub Later : ℕ → ℕ → Type 0
  Later r u = (r ≤ rank_of u) × (rank_of u < length order)

  -- "an arc without centre is an input link; an arc with centre c sums an in-arc and an out-arc of c, which stand in a
  -- level of lower rank"
  pub record Opened (levels : List Level) (r : ℕ) (x : Arc) : Type 0 where
    pub level : Level
    pub written : In level levels
    pub lower : rank_of level.node < r
    pub node : level.node ≡ x.centre
    pub into : Arc
    pub into_in : In into level.ins
    pub into_tail : into.tail ≡ x.tail
    pub out : Arc
    pub out_in : In out level.outs
    pub out_head : out.head ≡ x.head
    pub sum : into.weight + out.weight ≡ x.weight

  -- Over the input links too.
  module _ (ls : List Link) where
    abbrev pub Centred : List Level → ℕ → Arc → Type 0
    Centred levels r x =
        ((x.centre ≡ invalid) × Linked ls x.tail x.head x.weight) ⊎ Opened levels r x

    pub record ArcOk (levels : List Level) (r : ℕ) (x : Arc) : Type 0 where
      pub low : 1 ≤ x.weight
      pub high : x.weight ≤ max_weight
      pub centred : Centred levels r x

    -- a graph whose arcs join nodes of ranks from r on, with centres of ranks below t
    pub record GraphOk (levels : List Level) (r t : ℕ) (g : List Arc) : Type 0 where
      pub loopless : Loopless g
      pub apart : Apart g
      pub tails : (x : Arc) → In x g → Later r x.tail
      pub heads : (x : Arc) → In x g → Later r x.head
      pub arcs : (x : Arc) → In x g → ArcOk levels t x

    -- What a level holds: a node's arcs when its turn came.
    pub record LevelOk (levels : List Level) (l : Level) : Type 0 where
      pub node_in : rank_of l.node < length order
      pub own : (s : Side) (x : Arc) → In x (arcs_of s l) → own_end s x ≡ l.node
      pub higher : (s : Side) (x : Arc) → In x (arcs_of s l) → Later (suc (rank_of l.node)) (neighbour_of s x)
      pub arcs : (s : Side) (x : Arc) → In x (arcs_of s l) → ArcOk levels (rank_of l.node) x
      pub apart : (s : Side) → Apart (arcs_of s l)

-- where the run stands: the levels' nodes and the rest are the order
pub record RunOk (c : BuildCall) (ls : List Link) (vs : List ℕ) (b : Building) : Type 0 where
  pub nodes : map (λ l. l.node) b.levels ++ vs ≡ c.order
  pub levels : (l : Level) → In l b.levels → LevelOk c.order ls b.levels l
  pub graph : GraphOk c.order ls b.levels (length b.levels) (length b.levels) b.graph
