-- How the slices stand for a search.
use Rattle.std.specs.Prelude.{List, ◌≡◌, ℕ, ◌+◌, ◌*◌, ◌^◌, ◌<◌, ◌≤◌, length}
use Rattle.rules.specs.Numbers.{max_weight}
use Rattle.rules.specs.Lists.{In}
use Rattle.rules.specs.Heap.{Item}
use Rattle.rules.specs.Graph.{Arc}
use Rattle.rules.specs.Search.{Search}
use Rattle.search_laws.specs.Paid.{Paid}
use Rattle.heap.specs.Promises.{Holds}
use Rattle.graph.specs.declared.preparation_graph.Pool.{Pool}
use Rattle.lists.specs.Memory.{memory}
use Rattle.graph.specs.Stands.{Stands}
use Rattle.search.specs.Labels.{Stamped, Labelled, Reached}

-- what a search may be asked with: the weights of two arcs
abbrev pub most_sum : ℕ
most_sum = 2 * max_weight

-- labels and heap hold the search s; it has no word of the graph
pub record Searching (n : ℕ) (labels heap : List ℕ) (base len : ℕ) (s : Search) : Type 0 where
  pub labelled : Labelled n labels base s.label s.settled
  pub holds : Holds heap len s.heap
  pub nodes : (i : Item) → In i s.heap → Reached n labels base i.node

-- the graph that the arcs, nodes and weights of the code stand for
pub record World : Type 0 where
  pub n : ℕ
  pub pool : ℕ
  pub state : Pool
  pub graph : List Arc

abbrev pub world : ℕ → ℕ → Pool → List Arc → World
world n pool state g = record { n = n; pool = pool; state = state; graph = g }

-- the slices hold it, and no arc weighs above 2^40
pub record Standing (w : World) (arcs weights nodes : List ℕ) : Type 0 where
  pub stands : Stands w.n w.pool (memory arcs nodes) weights w.state w.graph
  pub light : (a : Arc) → In a w.graph → a.weight ≤ max_weight

-- all slices
pub record Lent : Type 0 where
  pub arcs : List ℕ
  pub weights : List ℕ
  pub nodes : List ℕ
  pub labels : List ℕ
  pub heap : List ℕ

abbrev pub lent : List ℕ → List ℕ → List ℕ → List ℕ → List ℕ → Lent
lent a w n l h = record { arcs = a; weights = w; nodes = n; labels = l; heap = h }

-- the same graph, with labels and heap after a step
abbrev pub with_slices : Lent → List ℕ → List ℕ → Lent
with_slices m labels heap = lent m.arcs m.weights m.nodes labels heap

-- a search in the midst of its targets: an entry for each place of the pool, and one, fits into the heap
pub record Ready (w : World) (m : Lent) (base len count : ℕ) (s : Search) : Type 0 where
  pub standing : Standing w m.arcs m.weights m.nodes
  pub searching : Searching w.n m.labels m.heap base len s
  pub counted : s.count ≡ count
  pub paid : Paid w.graph s
  pub room : 2 * (w.pool + 1) ≤ length m.heap

-- between two searches
pub record Resting (w : World) (arcs weights nodes labels : List ℕ) (heap base : ℕ) : Type 0 where
  pub standing : Standing w arcs weights nodes
  pub stamped : Stamped w.n labels base
  pub heap_room : 2 * (w.pool + 1) ≤ heap

-- the next may begin
pub record Startable (w : World) (arcs weights nodes labels : List ℕ) (heap base start : ℕ) : Type 0 where
  pub resting : Resting w arcs weights nodes labels heap base
  pub inside : start < w.n
  pub fits : base + 3 < 2 ^ 64

-- one for each in-arc of v may begin: there are stamps for them
pub record Entering (w : World) (arcs weights nodes labels : List ℕ) (heap base v : ℕ) : Type 0 where
  pub resting : Resting w arcs weights nodes labels heap base
  pub node : v < w.n
  pub fits : base + 2 * w.pool + 3 < 2 ^ 64
