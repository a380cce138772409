-- The first demand, on one page: which number a call answers, and what every lent place then holds, said without running
-- the call's steps. Numbers are written out as document 01 has them. proofs/FirstDemand.antt proves it of the definitions.
use Rattle.std.specs.Prelude.{◌≡◌, ◌↔◌, ◌⊎◌, true, false, ◌||◌, List, [], ◌∷◌, map, ℕ, suc, ◌+◌, ◌-◌, ◌*◌, ◌^◌, ◌≤◌, ◌<◌, eqb, length, get_or}
use Rattle.rules.specs.Numbers.{max_nodes, max_links, max_ends, max_link_weight, max_weight, no_weight, invalid, max_input, program_nodes, program_links}
use Rattle.rules.specs.Lists.{In, any, distinct}
use Rattle.rules.specs.Columns.{Links, Table, EquallyLong, Hierarchy, Side, forward, backward, table, entry, rank, begin, Ends}
use Rattle.rules.specs.TableRules.{SideRules, TableRules}
use Rattle.rules.specs.Refusals.{BuildCall, QueryCall, build_scratch, query_scratch, check_refusal}
use Rattle.rules.specs.Graph.{Arc}
use Rattle.rules.specs.Search.{Search, init, find_max_weight}
use Rattle.rules.specs.Build.{refused, in_pool, Level, raws, in_tables, Contracting, pair, build}
use Rattle.rules.specs.Query.{Answered, searched, walk, query}

infix 90 ◌says◌
-- A row of the table of refusals: its number, and its sentence.
pub record Sentence : Type 1 where
  pub number : ℕ
  pub holds : Type 0

abbrev pub ◌says◌ : ℕ → Type 0 → Sentence
n says P = record { number = n; holds = P }

-- "lowest number first": r is the number of the first sentence that holds, and 0 where none does
abbrev pub Lowest : List Sentence → ℕ → Type 0
Lowest [] r = r ≡ 0
Lowest (s ∷ ss) r = (s.holds × (r ≡ s.number)) ⊎ ((s.holds → ⊥) × Lowest ss r)

-- a place of a column, and the number that stands there
abbrev pub At : List ℕ → (ℕ → Type 0) → Type 0
At column P = (i : ℕ) × (i < length column) × P (get_or column i 0)

-- The i-th link is the i-th place of all three columns.
abbrev pub IsLink : Links → ℕ → Type 0
IsLink l i = (i < length l.tails) × (i < length l.heads) × (i < length l.weights)

abbrev pub ALink : Links → (ℕ → ℕ → ℕ → Type 0) → Type 0
ALink l P = (i : ℕ) × IsLink l i × P (get_or l.tails i 0) (get_or l.heads i 0) (get_or l.weights i 0)

-- "strictly ascending by (from, to)"
abbrev pub Ascending : Links → Type 0
Ascending l =
    (i j : ℕ) → i < j → IsLink l j →
    (get_or l.tails i 0 < get_or l.tails j 0) ⊎
    ((get_or l.tails i 0 ≡ get_or l.tails j 0) × (get_or l.heads i 0 < get_or l.heads j 0))

-- some slice is missing, or has fewer places than asked
abbrev pub Short : List ℕ → List ℕ → Type 0
Short asked lent = (i : ℕ) × (i < length asked) × ((length lent ≤ i) ⊎ (get_or lent i 0 < get_or asked i 0))

abbrev pub TableShort : ℕ → Table → Type 0
TableShort n t = (length t.starts < n + 1) ⊎ (EquallyLong t → ⊥)

abbrev pub build_table : BuildCall → List Sentence
build_table c =
    1 says (1024 < c.nodes) ∷
    2 says
    ((length c.links.heads ≡ length c.links.tails → ⊥) ⊎
    (length c.links.weights ≡ length c.links.tails → ⊥) ⊎
    (16384 < length c.links.tails)) ∷
    3 says (ALink c.links (λ from to _. (c.nodes ≤ from) ⊎ (c.nodes ≤ to))) ∷
    4 says (ALink c.links (λ from to _. from ≡ to)) ∷
    5 says (ALink c.links (λ _ _ weight. weight ≡ 0)) ∷
    6 says (Ascending c.links → ⊥) ∷
    7 says (length c.order ≡ c.nodes → ⊥) ∷
    8 says
    (At c.order (λ v. c.nodes ≤ v) ⊎
    ((i : ℕ) × (j : ℕ) × (i < j) × (j < length c.order) × (get_or c.order i 0 ≡ get_or c.order j 0))) ∷
    9 says
    ((length c.lent.ranks < c.nodes) ⊎
    TableShort c.nodes c.lent.forward ⊎
    TableShort c.nodes c.lent.backward ⊎
    Short (6 * c.pool ∷ c.pool ∷ 4 * c.nodes ∷ 2 * c.nodes ∷ 2 * (c.pool + 1) ∷ []) c.scratch) ∷
    []

-- "none, more than 16, or columns differ"
abbrev pub EndsUnfit : Ends → Type 0
EndsUnfit e = (length e.nodes ≡ 0) ⊎ (16 < length e.nodes) ⊎ (length e.offsets ≡ length e.nodes → ⊥)

-- "an offset above 2^40 that isn't the mark"
abbrev pub OffsetUnfit : ℕ → Type 0
OffsetUnfit o = (2 ^ 40 < o) × (o ≡ 2 ^ 64 - 1 → ⊥)

-- a table's entries end where its last start says
abbrev pub last_start : ℕ → Table → ℕ
last_start n t = get_or t.starts n 0

abbrev pub query_table : QueryCall → List Sentence
query_table q =
    20 says (TableRules q.nodes q.hierarchy → ⊥) ∷
    21 says (EndsUnfit q.sources ⊎ EndsUnfit q.targets) ∷
    22 says (At q.sources.nodes (λ v. q.nodes ≤ v) ⊎ At q.targets.nodes (λ v. q.nodes ≤ v)) ∷
    23 says (At q.sources.offsets OffsetUnfit ⊎ At q.targets.offsets OffsetUnfit) ∷
    24 says
    ((length q.path < q.nodes) ⊎
    Short
    (4 * q.nodes ∷
    4 * q.nodes ∷
    2 * (last_start q.nodes q.hierarchy.forward + 16) ∷
    2 * (last_start q.nodes q.hierarchy.backward + 16) ∷
    [])
    q.scratch) ∷
    []

-- "set every place of .. to the mark of its column"
pub record Filled (mark : ℕ) (lent now : List ℕ) : Type 0 where
  pub places : length now ≡ length lent
  pub each : (i d : ℕ) → i < length now → get_or now i d ≡ mark

pub record FilledTable (lent now : Table) : Type 0 where
  pub starts : Filled (2 ^ 32 - 1) lent.starts now.starts
  pub bases : Filled (2 ^ 32 - 1) lent.bases now.bases
  pub neighbours : Filled (2 ^ 32 - 1) lent.neighbours now.neighbours
  pub weights : Filled (2 ^ 64 - 1) lent.weights now.weights
  pub in_numbers : Filled (2 ^ 32 - 1) lent.in_numbers now.in_numbers
  pub out_numbers : Filled (2 ^ 32 - 1) lent.out_numbers now.out_numbers

pub record FilledAll (lent now : Hierarchy) : Type 0 where
  pub ranks : Filled (2 ^ 32 - 1) lent.ranks now.ranks
  pub forward : FilledTable lent.forward now.forward
  pub backward : FilledTable lent.backward now.backward

-- "Success leaves places beyond those used alone."
pub record Beyond (used : ℕ) (lent now : List ℕ) : Type 0 where
  pub places : length now ≡ length lent
  pub room : used ≤ length lent
  pub each : (i d : ℕ) → used ≤ i → get_or now i d ≡ get_or lent i d

pub record BeyondTable (n used : ℕ) (lent now : Table) : Type 0 where
  pub starts : Beyond (n + 1) lent.starts now.starts
  pub bases : Beyond used lent.bases now.bases
  pub neighbours : Beyond used lent.neighbours now.neighbours
  pub weights : Beyond used lent.weights now.weights
  pub in_numbers : Beyond used lent.in_numbers now.in_numbers
  pub out_numbers : Beyond used lent.out_numbers now.out_numbers

-- n ranks and n + 1 starts are used, and of a table's columns as many places as its last start says
pub record BeyondAll (n : ℕ) (lent now : Hierarchy) : Type 0 where
  pub ranks : Beyond n lent.ranks now.ranks
  pub forward : BeyondTable n (last_start n now.forward) lent.forward now.forward
  pub backward : BeyondTable n (last_start n now.backward) lent.backward now.backward

-- "It leaves the path buffer alone and hands back an empty part and the no-weight mark as weight"
pub record Nothing (q : QueryCall) (a : Answered) : Type 0 where
  pub weight : a.weight ≡ 2 ^ 64 - 1
  pub part : a.walk ≡ []
  pub path : a.path ≡ q.path

-- "The walk is handed back as the filled front part of the caller's path buffer."
pub record Handed (q : QueryCall) (a : Answered) : Type 0 where
  pub some : 1 ≤ length a.walk
  pub front : (i d : ℕ) → i < length a.walk → get_or a.path i d ≡ get_or a.walk i d
  pub beyond : Beyond (length a.walk) q.path a.path

-- The table rules as document 01 has them: `TableRules` without what request 7 adds.
pub record PaperRules (n : ℕ) (h : Hierarchy) : Type 0 where
  pub nodes : n ≤ 1024
  pub places_for_ranks : n ≤ length h.ranks
  pub ranks_below : (v : ℕ) → v < n → rank h v < n
  pub ranks_differ : (u v : ℕ) → u < n → v < n → rank h u ≡ rank h v → u ≡ v
  pub side_rules : (s : Side) → SideRules n h s

-- "a node two entries to one neighbour .. in either table": two places of one table, in the range of one rank
pub record Twins (n : ℕ) (h : Hierarchy) : Type 0 where
  pub side : Side
  pub rank : ℕ
  pub below : rank < n
  pub first : ℕ
  pub second : ℕ
  pub from : begin (table h side) rank ≤ first
  pub later : first < second
  pub to : second < begin (table h side) (suc rank)
  pub alike : (entry (table h side) first).neighbour ≡ (entry (table h side) second).neighbour

-- "the sum is above 2^40, no witness was found within the limit, and no arc from a to b that weighs at most the sum is there
-- already": of the pair of an in-arc a and an out-arc b of v, with the graph and the search as they are when its turn comes
pub record SumExceeded (limit v : ℕ) (a b : Arc) (k : Contracting) : Type 0 where
  pub ends_differ : a.tail ≡ b.head → ⊥
  pub above : 2 ^ 40 < a.weight + b.weight
  pub no_witness : a.weight + b.weight < (find_max_weight k.graph v limit b.head (a.weight + b.weight) k.search).weight
  pub no_arc : (x : Arc) → In x k.graph → x.tail ≡ a.tail → x.head ≡ b.head → a.weight + b.weight < x.weight

-- "the count of nodes settled never passes the limit and is the number of settling steps": from s to t these nodes were
-- settled, the last first, each for the first time
pub record Settling (limit : ℕ) (s t : Search) : Type 0 where
  pub nodes : List ℕ
  pub once : distinct nodes ≡ true
  pub fresh : (v : ℕ) → In v nodes → s.settled v ≡ false
  pub settled : (v : ℕ) → t.settled v ≡ (s.settled v || any (eqb v) nodes)
  pub count : t.count ≡ s.count + length nodes
  pub within : t.count ≤ limit

-- "linear .. with no factor or constant above 1,024": a · x + b · y + c · z + constant
pub record Linear : Type 0 where
  pub a : ℕ
  pub b : ℕ
  pub c : ℕ
  pub constant : ℕ

pub record Modest (f : Linear) : Type 0 where
  pub a : f.a ≤ 1024
  pub b : f.b ≤ 1024
  pub c : f.c ≤ 1024
  pub constant : f.constant ≤ 1024

abbrev pub value : ℕ → ℕ → ℕ → Linear → ℕ
value x y z f = f.a * x + f.b * y + f.c * z + f.constant

pub record FirstDemand : Type 0 where
  -- The numbers.
  pub nodes : max_nodes ≡ 1024
  pub links : max_links ≡ 16384
  pub ends : max_ends ≡ 16
  pub link_weight : max_link_weight ≡ 4294967295
  pub weight : max_weight ≡ 2 ^ 40
  pub weight_mark : no_weight ≡ 2 ^ 64 - 1
  pub mark : invalid ≡ 2 ^ 32 - 1
  pub program_input : max_input ≡ 16384
  pub nodes_of_program : program_nodes ≡ 32
  pub links_of_program : program_links ≡ 256
  -- The build: 1 to 9 exactly when, and what then; no other number than 0 to 12.
  pub build_numbers : (c : BuildCall) → (build c).number ≤ 12
  pub build_refused : (c : BuildCall) (r : ℕ) → 1 ≤ r → r ≤ 9 → ((build c).number ≡ r) ↔ Lowest (build_table c) r
  pub build_works : (c : BuildCall) → Lowest (build_table c) 0 ↔ (((build c).number ≡ 0) ⊎ ((10 ≤ (build c).number) × ((build c).number ≤ 12)))
  pub untouched : (c : BuildCall) → 1 ≤ (build c).number → (build c).number ≤ 9 → (build c).hierarchy ≡ c.lent
  pub filled : (c : BuildCall) → 10 ≤ (build c).number → FilledAll c.lent (build c).hierarchy
  pub beyond : (c : BuildCall) → (build c).number ≡ 0 → BeyondAll c.nodes c.lent (build c).hierarchy
  -- 10, 11 and 12, at the step that meets them: the arcs after it, the entries with a rank's, a pair's sum, whatever the pool.
  pub pool_exceeded : (pool : ℕ) (g : List Arc) → (in_pool pool g ≡ refused 10) ↔ (pool < length g)
  pub table_exceeded : (fwd bwd : ℕ) (ls : List Level) → (in_tables fwd bwd ls ≡ refused 11) ↔ ((fwd < length (raws forward ls)) ⊎ (bwd < length (raws backward ls)))
  pub sum_exceeded : (pool limit v : ℕ) (a b : Arc) (k : Contracting) → (pair pool limit v a b k ≡ refused 12) ↔ SumExceeded limit v a b k
  -- The table check: 20 exactly when a table rule is broken, and else 0.
  pub check_refused : (n : ℕ) (h : Hierarchy) → (check_refusal n h ≡ 20) ↔ (TableRules n h → ⊥)
  pub check_passes : (n : ℕ) (h : Hierarchy) → (check_refusal n h ≡ 0) ↔ TableRules n h
  -- Of tables that document 01's own rules let through it meets those with two entries of one node to one neighbour, and no others.
  pub only_twins : (n : ℕ) (h : Hierarchy) → PaperRules n h → (check_refusal n h ≡ 20) ↔ Twins n h
  -- They let through all that pass, and some that do not.
  pub paper_weaker : (n : ℕ) (h : Hierarchy) → TableRules n h → PaperRules n h
  pub twins_there : (n : ℕ) × (h : Hierarchy) × PaperRules n h × Twins n h
  -- The query: 0 or 20 to 25; 20 to 24 exactly when; 25 exactly when the walk of the steps is longer than the buffer; what then.
  pub query_numbers : (q : QueryCall) → ((query q).number ≡ 0) ⊎ ((20 ≤ (query q).number) × ((query q).number ≤ 25))
  pub query_refused : (q : QueryCall) (r : ℕ) → 1 ≤ r → r ≤ 24 → ((query q).number ≡ r) ↔ Lowest (query_table q) r
  pub query_works : (q : QueryCall) → Lowest (query_table q) 0 ↔ (((query q).number ≡ 0) ⊎ ((query q).number ≡ 25))
  pub too_long : (q : QueryCall) → ((query q).number ≡ 25) ↔
      (Lowest (query_table q) 0 × ((searched q).best.node ≡ 2 ^ 32 - 1 → ⊥) ×
      (length q.path < length (walk q.hierarchy q.nodes (searched q) (searched q).best.node)))
  pub refused_nothing : (q : QueryCall) → 1 ≤ (query q).number → Nothing q (query q)
  pub answered : (q : QueryCall) → (query q).number ≡ 0 → Nothing q (query q) ⊎ Handed q (query q)
  -- The search's count.
  pub settles : (g : List Arc) (avoid limit target sum : ℕ) (s : Search) → s.count ≤ limit → Settling limit s (find_max_weight g avoid limit target sum s).search
  pub none_settled : (a v : ℕ) → ((init a).count ≡ 0) × ((init a).settled v ≡ false)
  -- The scratch formulas: in nodes and pool; in nodes and both tables' entries.
  pub build_linear : (fs : List Linear) × ((f : Linear) → In f fs → Modest f) × ((n pool : ℕ) → build_scratch n pool ≡ map (value n pool 0) fs)
  pub query_linear : (fs : List Linear) × ((f : Linear) → In f fs → Modest f) ×
      ((n : ℕ) (h : Hierarchy) → query_scratch n h ≡ map (value n (last_start n h.forward) (last_start n h.backward)) fs)
