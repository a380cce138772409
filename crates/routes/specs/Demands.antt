-- All that is proved of the definitions, on one page. Demand.antt has the third demand and says where a walk is defined;
-- walks/specs Promise.antt what a build promises a query.
use Rattle.std.specs.Prelude.{◌≡◌, true, false, List, [], ◌∷◌, ◌++◌, map, ℕ, suc, ◌+◌, ◌-◌, ◌*◌, ◌≤◌, ◌<◌, length, get_or}
use Rattle.rules.specs.Numbers.{max_weight, max_link_weight, no_weight}
use Rattle.rules.specs.Lists.{In, distinct}
use Rattle.rules.specs.Columns.{link_list, Hierarchy, Side, forward, backward, table, entry, rank, room, entries}
use Rattle.rules.specs.TableRules.{tail_of, used, TableRules}
use Rattle.rules.specs.Refusals.{BuildCall, QueryCall, build_scratch, query_scratch, check_refusal, query_refusal}
use Rattle.rules.specs.Heap.{Item}
use Rattle.rules.specs.Graph.{Arc, add_or_reduce}
use Rattle.rules.specs.Search.{Search, init, run, search_fuel, find_max_weight}
use Rattle.rules.specs.Build.{build}
use Rattle.rules.specs.Unpack.{is_shortcut, unpacked}
use Rattle.rules.specs.Query.{Half, entered, rounds, climb, root, searched}
use Rattle.rules.specs.Program.{Phase, digits, lines}
use Rattle.walks.specs.Promise.{Promise}
use Rattle.walks.specs.Agreement.{Agree, cut}
use Rattle.routes.specs.Demand.{ThirdDemand}

-- A build that was not refused, of links whose weights are of 32 bits.
pub record IsBuilt (c : BuildCall) : Type 0 where
  pub weights : (w : ℕ) → In w c.links.weights → w ≤ max_link_weight
  pub number : (build c).number ≡ 0

-- The searches of one in-arc: from its start on, asked for one target after another, while shortcuts are added.
pub data Searched (avoid limit a : ℕ) : List Arc → Search → Type 0 where
  begun : (g : List Arc) → Searched avoid limit a g (init a)
  asked : {g : List Arc} {s : Search} (target sum : ℕ) → Searched avoid limit a g s → Searched avoid limit a g (find_max_weight g avoid limit target sum s).search
  added : {g : List Arc} {s : Search} (x : Arc) → Searched avoid limit a g s → Searched avoid limit a (add_or_reduce x g) s

-- One side of a query's search, with so many ends: its labels and entries stay small, and its heap short.
pub record Small (n : ℕ) (h : Hierarchy) (s : Side) (ends : ℕ) (x : Half) : Type 0 where
  pub labels : (v : ℕ) → (x.label v).weight < no_weight → (x.label v).weight ≤ max_weight * suc (rank h v)
  pub items : (i : Item) → In i x.heap → i.weight ≤ max_weight * suc (rank h i.node)
  pub heap : length x.heap ≤ ends + used n (table h s)

pub record Demands : Type 0 where
  -- 1. The third demand.
  pub third_demand : ThirdDemand
  -- 2. A build's tables pass the table check, also cut to the used places; ranks are the order's inverse; no neighbour twice in a
  -- node's entries; no weight above 2^40, though sums above it are looked into.
  pub tables_pass : (c : BuildCall) → IsBuilt c → check_refusal c.nodes (build c).hierarchy ≡ 0
  pub cut_tables_pass : (c : BuildCall) → IsBuilt c → check_refusal c.nodes (cut c.nodes (build c).hierarchy) ≡ 0
  pub cut_tables_agree : (n : ℕ) (h : Hierarchy) → Agree n h (cut n h)
  pub ranks_inverse : (c : BuildCall) → IsBuilt c → (r : ℕ) → r < c.nodes → rank (build c).hierarchy (get_or c.order r 0) ≡ r
  pub no_neighbour_twice : (c : BuildCall) → IsBuilt c → (s : Side) (v : ℕ) → v < c.nodes → distinct (map (λ e. e.neighbour) (entries (build c).hierarchy s v)) ≡ true
  pub table_weights : (c : BuildCall) → IsBuilt c → (s : Side) (e : ℕ) → e < used c.nodes (table (build c).hierarchy s) → (entry (table (build c).hierarchy s) e).weight ≤ max_weight
  -- 3. Refusals that cannot come, and what stays in its range: of a search after each target, of a query after each round.
  -- (In the midst of a turn: query_laws/proofs Taken and Bounds.)
  pub never_10 : (c : BuildCall) → ((w : ℕ) → In w c.links.weights → w ≤ max_link_weight) → c.nodes * (c.nodes - 1) ≤ c.pool → (build c).number ≡ 10 → ⊥
  pub never_11 : (c : BuildCall) → ((w : ℕ) → In w c.links.weights → w ≤ max_link_weight) → c.nodes * (c.nodes - 1) ≤ 2 * room c.lent.forward →
      c.nodes * (c.nodes - 1) ≤ 2 * room c.lent.backward → (build c).number ≡ 11 → ⊥
  -- heap items are of two numbers: they fit the scratch asked for
  pub search_heap : (n pool avoid limit a : ℕ) (g : List Arc) (s : Search) → Searched avoid limit a g s → length g ≤ pool →
      2 * length s.heap ≤ get_or (build_scratch n pool) 4 0
  pub query_heap : (q : QueryCall) → query_refusal q ≡ 0 → (k : ℕ) →
      (2 * length (rounds q.hierarchy k (entered q)).fwd.heap ≤ get_or (query_scratch q.nodes q.hierarchy) 2 0) ×
      (2 * length (rounds q.hierarchy k (entered q)).bwd.heap ≤ get_or (query_scratch q.nodes q.hierarchy) 3 0)
  pub query_small : (q : QueryCall) → query_refusal q ≡ 0 → (k : ℕ) →
      Small q.nodes q.hierarchy forward (length q.sources.nodes) (rounds q.hierarchy k (entered q)).fwd ×
      Small q.nodes q.hierarchy backward (length q.targets.nodes) (rounds q.hierarchy k (entered q)).bwd
  -- 4. Fuel never runs out: more changes nothing.
  pub search_fuel_enough : (g : List Arc) (avoid limit target sum k : ℕ) (s : Search) →
      run g avoid limit target sum (search_fuel g avoid limit target sum s + k) s ≡ run g avoid limit target sum (search_fuel g avoid limit target sum s) s
  pub rounds_enough : (q : QueryCall) → query_refusal q ≡ 0 → ((searched q).fwd.heap ≡ []) × ((searched q).bwd.heap ≡ [])
  pub climb_enough : (q : QueryCall) → query_refusal q ≡ 0 → (k v : ℕ) → v < q.nodes →
      (climb (q.nodes + k) (searched q).fwd v ≡ climb q.nodes (searched q).fwd v) × (climb (q.nodes + k) (searched q).bwd v ≡ climb q.nodes (searched q).bwd v)
  pub root_enough : (q : QueryCall) → query_refusal q ≡ 0 → (k v : ℕ) → v < q.nodes → root (q.nodes + k) (searched q).bwd v ≡ root q.nodes (searched q).bwd v
  pub unpacked_shortcut : (n : ℕ) (h : Hierarchy) → TableRules n h → (s : Side) (e : ℕ) → e < used n (table h s) → is_shortcut (entry (table h s) e) ≡ true →
      unpacked h s e ≡ unpacked h backward (entry (table h s) e).in_number ++ unpacked h forward (entry (table h s) e).out_number
  pub unpacked_plain : (h : Hierarchy) (s : Side) (e : ℕ) → is_shortcut (entry (table h s) e) ≡ false → unpacked h s e ≡ tail_of s (entry (table h s) e) ∷ []
  pub digits_enough : (n k : ℕ) → digits (suc n + k) n ≡ digits (suc n) n
  pub lines_enough : (at k : ℕ) (p : Phase) (bs : List ℕ) → lines (length bs + k) at p bs ≡ lines (length bs) at p bs
  -- 5. What a build promises a query.
  pub promise : (c : BuildCall) → IsBuilt c → Promise c.nodes (link_list c.links) (build c).hierarchy
