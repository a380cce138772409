-- What the functions ask and promise. `m` and `w` are the slices at entry, `m'` and `w'` at exit.
use Rattle.std.specs.Prelude.{List, [], ◌∷◌, ◌++◌, Bool, true, false, not, ◌≡◌, ℕ, ◌*◌, ◌<◌, ◌≤◌, length, Result, Ok, Err}
use Rattle.rules.specs.Numbers.{invalid}
use Rattle.rules.specs.Lists.{any, keep}
use Rattle.rules.specs.Graph.{Arc, joins, add_or_reduce}
use Rattle.rules.specs.declared.Refusal.{Refusal}
use Rattle.rules.specs.declared.Refusal.TheVariants.{Pool as no_place}
use Rattle.graph.specs.declared.preparation_graph.Pool.{Pool}
use Rattle.graph.specs.declared.preparation_graph.PreparationGraph.{PreparationGraph}
use Rattle.lists.specs.Memory.{Memory, touches}
use Rattle.graph.specs.Stands.{Stands, Extends}

abbrev pub state_of : ℕ → ℕ → Pool
state_of f u = record { free = f; fresh = u }

-- the slices hold g, and a is an arc between its nodes
pub record Addable (n pool : ℕ) (m : Memory) (w : List ℕ) (state : Pool) (a : Arc) (g : List Arc) : Type 0 where
  pub stands : Stands n pool m w state g
  pub tail_in : a.tail < n
  pub head_in : a.head < n

-- the slices hold some graph of more than v nodes, which no weight and none of the numbers here decides
pub record HoldsSome (m : Memory) (free v : ℕ) : Type 0 where
  pub nodes : ℕ
  pub pool : ℕ
  pub fresh : ℕ
  pub weights : List ℕ
  pub graph : List Arc
  pub stands : Stands nodes pool m weights (state_of free fresh) graph
  pub inside : v < nodes

-- the slices are as they were
pub record Same (m : Memory) (w : List ℕ) (m' : Memory) (w' : List ℕ) : Type 0 where
  pub memory_same : m' ≡ m
  pub weights_same : w' ≡ w

-- an arc came, and the slices hold h, the live places staying; or h would exceed the pool, which is told, and they are as they were
pub record Answers (n pool : ℕ) (m : Memory) (w : List ℕ) (m' : Memory) (w' : List ℕ) (places : List ℕ) (h : List Arc) (r : Result Pool Refusal) : Type 0 where
  pub came : (state : Pool) → r ≡ Ok state → Extends n pool m' w' state h places
  pub full : (e : Refusal) → r ≡ Err e → (e ≡ no_place) × (pool < length h)
  pub same : (e : Refusal) → r ≡ Err e → Same m w m' w'

-- an arc of the same ends was there, and is reduced; or there was none, and the slices are as they were
pub record Reduces (n pool : ℕ) (m : Memory) (w : List ℕ) (m' : Memory) (w' : List ℕ) (state : Pool) (places : List ℕ) (a : Arc) (g : List Arc) (r : Bool) : Type 0 where
  pub found : any (joins a) g ≡ r
  pub reduced : r ≡ true → Extends n pool m' w' state (add_or_reduce a g) places
  pub added : r ≡ false → add_or_reduce a g ≡ g ++ a ∷ []
  pub same : r ≡ false → Same m w m' w'

-- all but the first that passes
unfoldable pub drop_first {ℓ} : {A : Type ℓ} → (A → Bool) → List A → List A
drop_first p [] = []
drop_first p (x ∷ l) = elim (p x) [ true ↦ l | false ↦ x ∷ drop_first p l ]

-- the arcs that have not their end of side s at v
unfoldable pub untouched : ℕ → ℕ → List Arc → List Arc
untouched s v g = keep (λ a. not (touches s v a)) g

-- whatever graph stood, it stands without the first arc of the list of v on side s; or without any of them
abbrev pub Drops : Memory → Memory → ℕ → ℕ → ℕ → ℕ → Type 0
Drops m m' free free' s v =
    (n pool fresh : ℕ) (w : List ℕ) (g : List Arc) → Stands n pool m w (state_of free fresh) g → v < n →
    Stands n pool m' w (state_of free' fresh) (drop_first (touches s v) g)

abbrev pub Clears : Memory → Memory → ℕ → ℕ → ℕ → ℕ → Type 0
Clears m m' free free' s v =
    (n pool fresh : ℕ) (w : List ℕ) (g : List Arc) → Stands n pool m w (state_of free fresh) g → v < n →
    Stands n pool m' w (state_of free' fresh) (untouched s v g)

-- the slices have room for a pool and n nodes
pub record Spacious (n pool : ℕ) (m : Memory) (w : List ℕ) : Type 0 where
  pub numbered : pool ≤ invalid
  pub arcs_room : 6 * pool ≤ length m.arcs
  pub weights_room : pool ≤ length w
  pub nodes_room : 4 * n ≤ length m.nodes

-- the slices hold g; or the pool is smaller, which is told
pub record TookIn (n pool : ℕ) (m : Memory) (w : List ℕ) (g : List Arc) (r : Result Pool Refusal) : Type 0 where
  pub came : (state : Pool) → r ≡ Ok state → Stands n pool m w state g
  pub full : (e : Refusal) → r ≡ Err e → (e ≡ no_place) × (pool < length g)

-- what a step answers, with what it leaves behind
abbrev pub told : {A : Type 0} → A → Result (Unit {0}) Refusal → Result A Refusal
told left (Ok u) = Ok left
told left (Err e) = Err e

-- the slices are those that were lent, and as long as they were, and the pool is the same
pub record Kept (g g' : PreparationGraph) : Type 0 where
  pub arcs_name : g'.arcs.ghost_name ≡ g.arcs.ghost_name
  pub weights_name : g'.weights.ghost_name ≡ g.weights.ghost_name
  pub nodes_name : g'.nodes.ghost_name ≡ g.nodes.ghost_name
  pub pool : g'.pool ≡ g.pool
  pub arcs : length g'.arcs.now ≡ length g.arcs.now
  pub weights : length g'.weights.now ≡ length g.weights.now
  pub nodes : length g'.nodes.now ≡ length g.nodes.now
