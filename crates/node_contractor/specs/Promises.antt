-- What the functions ask and promise. As in crates/search, the graph and the search of document 01 are ghost values: a function asks that there are
-- some for which its slices stand, and promises its answer for each of them. The graph has n nodes, and v is being contracted.
use Rattle.std.specs.Prelude.{true, false, List, ◌≡◌, ℕ, ◌+◌, ◌*◌, ◌≤◌, ◌<◌, eqb, length, Result, Ok, Err}
use Rattle.rules.specs.Numbers.{max_weight}
use Rattle.rules.specs.Lists.{In}
use Rattle.rules.specs.Graph.{Arc, outs, ins, Loopless}
use Rattle.rules.specs.Search.{Search, init}
use Rattle.rules.specs.Build.{Step, went, refused, Contracting, within_sum, ask, pairs_of, handle_shortcuts, contract_node}
use Rattle.rules.specs.declared.Refusal.{Refusal}
use Rattle.rules.specs.Refused.{number_of}
use Rattle.lists.specs.Memory.{Memory, arc}
use Rattle.graph.specs.declared.preparation_graph.Pool.{Pool}
use Rattle.graph.specs.Stands.{Stands, Unmoved}
use Rattle.search.specs.Searching.{most_sum, world, Lent, Ready, Resting, Startable, Entering}
use Rattle.node_contractor.specs.Work.{Work}

abbrev pub contracting : List Arc → Search → Contracting
contracting g s = record { graph = g; search = s }

-- `pair` of the rules, by the numbers that it reads
unfoldable pub pair_of : (pool limit v tail head sum : ℕ) → Contracting → Step Contracting
pair_of pool limit v tail head sum c =
    elim (eqb tail head) [ true ↦ went c | false ↦ ask pool limit v (arc tail head sum v) c ]

-- the slices hold g, and a search that is in the midst of its targets
abbrev pub Midst : Lent → (pool : ℕ) → Work → (n : ℕ) → List Arc → Search → Type 0
Midst m pool x n g s = Ready (world n pool x.state g) m x.search.base x.search.len x.search.settled s

-- Within one search. The definition came to a graph and a search, which the slices hold, with the lists of v where they were.
pub record Came {n pool : ℕ} {m : Memory} {w : List ℕ} {state : Pool} {g : List Arc} (x : Work) (m' : Lent) (v : ℕ) (old : Stands n pool m w state g)
    (d : Step Contracting) (y : Work) : Type 0 where
  pub graph : List Arc
  pub search : Search
  pub is : d ≡ went (contracting graph search)
  pub midst : Midst m' pool y n graph search
  pub unmoved : Unmoved v old midst.standing.stands
  pub base : y.search.base ≡ x.search.base
  pub avoid : y.search.avoid ≡ x.search.avoid

-- or it met the same refusal
pub record Steps {n pool : ℕ} {m : Memory} {w : List ℕ} {state : Pool} {g : List Arc} (x : Work) (m' : Lent) (v : ℕ) (old : Stands n pool m w state g)
    (d : Step Contracting) (r : Result Work Refusal) : Type 0 where
  pub came : (y : Work) → r ≡ Ok y → Came x m' v old d y
  pub no : (e : Refusal) → r ≡ Err e → d ≡ refused (number_of e)

-- a pair is at hand, and v is none of its ends
pub record Pairing (m : Lent) (pool : ℕ) (x : Work) (v tail head n : ℕ) (g : List Arc) (s : Search) : Type 0 where
  pub midst : Midst m pool x n g s
  pub avoids : x.search.avoid ≡ v
  pub tail_in : tail < n
  pub head_in : head < n
  pub tail_off : tail ≡ v → ⊥
  pub head_off : head ≡ v → ⊥

abbrev pub Adds : (m m' : Lent) (pool : ℕ) → Work → (v tail head sum limit : ℕ) → Result Work Refusal → Type 0
Adds m m' pool x v tail head sum limit r =
    (n : ℕ) (g : List Arc) (s : Search) (p : Pairing m pool x v tail head n g s) →
    Steps x m' v p.midst.standing.stands (within_sum pool limit v (arc tail head sum v) g s) r

abbrev pub Pairs : (m m' : Lent) (pool : ℕ) → Work → (v tail head sum limit : ℕ) → Result Work Refusal → Type 0
Pairs m m' pool x v tail head sum limit r =
    (n : ℕ) (g : List Arc) (s : Search) (p : Pairing m pool x v tail head n g s) → sum ≤ most_sum →
    Steps x m' v p.midst.standing.stands (pair_of pool limit v tail head sum (contracting g s)) r

-- the in-arc a, of this tail and weight, is at hand, and v is an end of none of its shortcuts
pub record InArc (v tail weight n : ℕ) (g : List Arc) (a : Arc) : Type 0 where
  pub node : v < n
  pub tail_is : a.tail ≡ tail
  pub weight_is : a.weight ≡ weight
  pub tail_in : tail < n
  pub tail_off : tail ≡ v → ⊥
  pub heads_off : (b : Arc) → In b (outs g v) → b.head ≡ v → ⊥
  pub light : weight ≤ max_weight

-- and a search began for it
pub record Leaving (m : Lent) (pool : ℕ) (x : Work) (v tail weight n : ℕ) (g : List Arc) (a : Arc) (s : Search) : Type 0 where
  pub midst : Midst m pool x n g s
  pub avoids : x.search.avoid ≡ v
  pub at : InArc v tail weight n g a

abbrev pub Leaves : (m m' : Lent) (pool : ℕ) → Work → (v tail weight limit : ℕ) → Result Work Refusal → Type 0
Leaves m m' pool x v tail weight limit r =
    (n : ℕ) (g : List Arc) (a : Arc) (s : Search) (p : Leaving m pool x v tail weight n g a s) →
    Steps x m' v p.midst.standing.stands (pairs_of pool limit v a (outs g v) (contracting g s)) r

-- Between searches. The slices hold g, and the next search may begin.
abbrev pub Rests : Lent → (pool : ℕ) → Work → (n : ℕ) → List Arc → Type 0
Rests m pool x n g = Resting (world n pool x.state g) m.arcs m.weights m.nodes m.labels (length m.heap) x.search.base

pub record Coming (m : Lent) (pool : ℕ) (x : Work) (v tail weight n : ℕ) (g : List Arc) (a : Arc) : Type 0 where
  pub startable : Startable (world n pool x.state g) m.arcs m.weights m.nodes m.labels (length m.heap) x.search.base tail
  pub at : InArc v tail weight n g a

-- one search later
pub record Passed {n pool : ℕ} {m : Memory} {w : List ℕ} {state : Pool} {g : List Arc} (x : Work) (m' : Lent) (v : ℕ) (old : Stands n pool m w state g)
    (d : Step Contracting) (y : Work) : Type 0 where
  pub graph : List Arc
  pub search : Search
  pub is : d ≡ went (contracting graph search)
  pub rests : Rests m' pool y n graph
  pub unmoved : Unmoved v old rests.standing.stands
  pub base : y.search.base ≡ x.search.base + 2

pub record Passes {n pool : ℕ} {m : Memory} {w : List ℕ} {state : Pool} {g : List Arc} (x : Work) (m' : Lent) (v : ℕ) (old : Stands n pool m w state g)
    (d : Step Contracting) (r : Result Work Refusal) : Type 0 where
  pub came : (y : Work) → r ≡ Ok y → Passed x m' v old d y
  pub no : (e : Refusal) → r ≡ Err e → d ≡ refused (number_of e)

abbrev pub Comes : (m m' : Lent) (pool : ℕ) → Work → (v tail weight limit : ℕ) → Result Work Refusal → Type 0
Comes m m' pool x v tail weight limit r =
    (n : ℕ) (g : List Arc) (a : Arc) (p : Coming m pool x v tail weight n g a) →
    Passes x m' v p.startable.resting.standing.stands (pairs_of pool limit v a (outs g v) (contracting g (init tail))) r

-- A graph with no loops is held, and there are stamps for a search of each in-arc of v.
pub record Contractible (m : Lent) (pool : ℕ) (x : Work) (v n : ℕ) (g : List Arc) : Type 0 where
  pub entering : Entering (world n pool x.state g) m.arcs m.weights m.nodes m.labels (length m.heap) x.search.base v
  pub loopless : Loopless g

-- The definition came to a graph, which the slices hold, with no loops either; no more stamps were used than the pool has places for.
pub record Done (m' : Lent) (pool : ℕ) (x : Work) (n : ℕ) (d : Step (List Arc)) (y : Work) : Type 0 where
  pub graph : List Arc
  pub is : d ≡ went graph
  pub rests : Rests m' pool y n graph
  pub loopless : Loopless graph
  pub base : y.search.base ≤ x.search.base + 2 * pool

pub record Does (m' : Lent) (pool : ℕ) (x : Work) (n : ℕ) (d : Step (List Arc)) (r : Result Work Refusal) : Type 0 where
  pub came : (y : Work) → r ≡ Ok y → Done m' pool x n d y
  pub no : (e : Refusal) → r ≡ Err e → d ≡ refused (number_of e)

abbrev pub Handles : (m m' : Lent) (pool : ℕ) → Work → (v limit : ℕ) → Result Work Refusal → Type 0
Handles m m' pool x v limit r =
    (n : ℕ) (g : List Arc) → Contractible m pool x v n g →
    Does m' pool x n (handle_shortcuts pool limit v (ins g v) (outs g v) g) r

-- `contract_node`
abbrev pub Contracts : (m m' : Lent) (pool : ℕ) → Work → (v limit : ℕ) → Result Work Refusal → Type 0
Contracts m m' pool x v limit r =
    (n : ℕ) (g : List Arc) → Contractible m pool x v n g → Does m' pool x n (contract_node pool limit v g) r
