-- What the functions ask and promise. The call is no value of the code but for its numbers, and neither is the building: a function
-- asks that there are some, and promises its answer for each of them.
use Rattle.std.specs.Prelude.{List, [], ◌∷◌, ◌≡◌, ℕ, ◌+◌, ◌*◌, ◌≤◌, length, Result, Ok, Err}
use Rattle.rules.specs.Numbers.{max_link_weight}
use Rattle.rules.specs.Lists.{In}
use Rattle.rules.specs.Columns.{Links, link_list, Hierarchy}
use Rattle.rules.specs.Refusals.{BuildCall}
use Rattle.rules.specs.Build.{Step, went, refused, Building, rank_step, rank_steps, contraction, graph_of}
use Rattle.rules.specs.Accepted.{AcceptedBuild}
use Rattle.build_laws.specs.Runs.{RunOk}
use Rattle.input_graph.specs.Given.{Between}
use Rattle.rules.specs.declared.Refusal.{Refusal}
use Rattle.rules.specs.Refused.{number_of}
use Rattle.lists.specs.Memory.{memory}
use Rattle.graph.specs.Promises.{Spacious}
use Rattle.search.specs.Searching.{Lent}
use Rattle.node_contractor.specs.Work.{Work}
use Rattle.contraction.specs.Ranks.{Stage}
use Rattle.contraction.specs.Ranks.{Given, given, call, Parts, parts_of, At}

-- rows 1 to 9 are not met, and weights are what their column can hold
pub record Accepted (c : BuildCall) : Type 0 where
  pub build : AcceptedBuild c
  pub weights : (w : ℕ) → In w c.links.weights → w ≤ max_link_weight

-- the run so far, and that these nodes are left
abbrev pub Run : BuildCall → List ℕ → Building → Type 0
Run c vs b = RunOk c (link_list c.links) vs b

-- The definition came to a building, which the slices hold; or it met the same refusal.
pub record Came (c : BuildCall) (s : Step Building) (t : Parts) (m : Lent) (w : Result Stage Refusal) : Type 0 where
  pub came : (x : Stage) → w ≡ Ok x → (b : Building) × (s ≡ went b) × At c b t m x.work x.fwd x.bwd
  pub no : (e : Refusal) → w ≡ Err e → s ≡ refused (number_of e)

-- the node v of rank r is next
pub record Stepping (g : Given) (b : Building) (vs : List ℕ) (limit pool r v : ℕ) (t : Parts) (m : Lent) (x : Work) (fwd bwd : ℕ) : Type 0 where
  pub ok : Accepted (call g limit pool)
  pub run : Run (call g limit pool) (v ∷ vs) b
  pub rank : length b.levels ≡ r
  pub at : At (call g limit pool) b t m x fwd bwd

abbrev pub Steps : (limit pool r v : ℕ) → Parts → Lent → Work → (fwd bwd : ℕ) → Parts → Lent → Result Stage Refusal → Type 0
Steps limit pool r v t m x fwd bwd t' m' w =
    (g : Given) (b : Building) (vs : List ℕ) → Stepping g b vs limit pool r v t m x fwd bwd →
    Came (call g limit pool) (rank_step (call g limit pool) v b) t' m' w

-- the links' graph is there, and nothing is laid
abbrev pub first : Given → Building
first g = record { graph = graph_of g.links; levels = [] }

pub record Starting (g : Given) (limit pool : ℕ) (t : Parts) (m : Lent) (x : Work) : Type 0 where
  pub ok : Accepted (call g limit pool)
  pub at : At (call g limit pool) (first g) t m x 0 0

abbrev pub Starts : (limit pool : ℕ) → List ℕ → Parts → Lent → Work → Parts → Lent → Result Stage Refusal → Type 0
Starts limit pool order t m x t' m' w =
    (n : ℕ) (l : Links) (h : Hierarchy) (s : List ℕ) → let g = given n l order h s in
    Starting g limit pool t m x → Came (call g limit pool) (rank_steps (call g limit pool) order (first g)) t' m' w

-- the slices have room, and the columns are those that were lent
pub record Accepting (g : Given) (limit pool : ℕ) (t : Parts) (m : Lent) : Type 0 where
  pub ok : Accepted (call g limit pool)
  pub lent_is : t ≡ parts_of g.lent
  pub between : Between g.nodes g.links.tails g.links.heads g.links.weights
  pub spacious : Spacious g.nodes pool (memory m.arcs m.nodes) m.weights
  pub labels_room : 2 * g.nodes ≤ length m.labels
  pub heap_room : 2 * (pool + 1) ≤ length m.heap

abbrev pub Comes : ℕ → Links → List ℕ → (limit pool : ℕ) → Parts → Lent → Parts → Lent → Result Stage Refusal → Type 0
Comes n l order limit pool t m t' m' w =
    (h : Hierarchy) (s : List ℕ) → let g = given n l order h s in
    Accepting g limit pool t m → Came (call g limit pool) (contraction (call g limit pool)) t' m' w
