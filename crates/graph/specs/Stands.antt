-- How the slices stand for a graph.
use Rattle.std.specs.Prelude.{true, List, ◌++◌, map, ◌≡◌, ℕ, ◌+◌, ◌*◌, ◌<◌, ◌≤◌, length}
use Rattle.rules.specs.Numbers.{invalid}
use Rattle.rules.specs.Lists.{In, keep, distinct}
use Rattle.rules.specs.Graph.{Arc}
use Rattle.graph.specs.declared.preparation_graph.Pool.{Pool}
use Rattle.lists.specs.Memory.{Memory, at, first, last, arc_at, ends_at, touches, Chain, last_of}

-- the list of v on side s is at these places
pub record Listed (m : Memory) (s v : ℕ) (l : List ℕ) : Type 0 where
  pub chain : Chain (at m (3 + s)) (first m s v) l
  pub final : last m s v ≡ last_of invalid l

-- the live places, in the order in which their arcs came, and the freed ones
pub record Placed (n pool : ℕ) (m : Memory) (state : Pool) (ids freed : List ℕ) : Type 0 where
  pub listed : (s v : ℕ) → s < 2 → v < n → Listed m s v (keep (ends_at m s v) ids)
  pub ends : (s i : ℕ) → s < 2 → In i ids → at m s i < n
  pub free : Chain (at m 5) state.free freed
  pub apart : distinct (ids ++ freed) ≡ true
  pub below : (i : ℕ) → In i (ids ++ freed) → i < state.fresh
  pub count : length ids + length freed ≡ state.fresh
  pub within : state.fresh ≤ pool
  pub numbered : pool ≤ invalid
  pub arcs_room : 6 * pool ≤ length m.arcs
  pub nodes_room : 4 * n ≤ length m.nodes

-- the slices hold the graph g of n nodes
pub record Stands (n pool : ℕ) (m : Memory) (weights : List ℕ) (state : Pool) (g : List Arc) : Type 0 where
  pub ids : List ℕ
  pub freed : List ℕ
  pub placed : Placed n pool m state ids freed
  pub arcs : g ≡ map (arc_at m weights) ids
  pub weights_room : pool ≤ length weights

-- they hold g, and what was at these places, in this order, still is the first of it: whoever walks along a list may go on
pub record Extends (n pool : ℕ) (m : Memory) (weights : List ℕ) (state : Pool) (g : List Arc) (places : List ℕ) : Type 0 where
  pub stands : Stands n pool m weights state g
  pub more : List ℕ
  pub same_places : stands.ids ≡ places ++ more

-- the lists of v are at the same places as before, in the same order, and hold the same arcs
pub record Unmoved {n pool : ℕ} {m m' : Memory} {w w' : List ℕ} {state state' : Pool} {g g' : List Arc} (v : ℕ)
    (x : Stands n pool m w state g) (y : Stands n pool m' w' state' g') : Type 0 where
  pub places : (s : ℕ) → s < 2 → keep (ends_at m' s v) y.ids ≡ keep (ends_at m s v) x.ids
  pub arcs : (s : ℕ) → s < 2 → keep (touches s v) g' ≡ keep (touches s v) g
