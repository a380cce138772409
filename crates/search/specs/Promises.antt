-- What the functions ask and promise. What the definitions call a graph and a search is no value of the code, which has slices: a
-- function asks that there are some for which its slices stand, and promises its answer for each of them.
use Rattle.std.specs.Prelude.{Bool, List, [], map, ◌≡◌, ℕ, ◌+◌, ◌*◌, ◌^◌, ◌<◌, ◌≤◌, length, get_or}
use Rattle.rules.specs.Numbers.{invalid, max_weight}
use Rattle.rules.specs.Lists.{In}
use Rattle.rules.specs.Graph.{outs}
use Rattle.rules.specs.Search.{Search, init, offer, relax, settle, run, search_fuel, find_max_weight}
use Rattle.heap.specs.Items.{pair, item, items}
use Rattle.heap.specs.Shape.{Ordered}
use Rattle.lists.specs.Memory.{memory, arc_at, Chain}
use Rattle.search.specs.declared.witness_search.WitnessSearch.{WitnessSearch}
use Rattle.search.specs.declared.witness_search.LentSearch.{LentSearch}
use Rattle.search.specs.Labels.{Stamped, Reached}
use Rattle.search.specs.Turns.{cross, take, turn}
use Rattle.search.specs.Searching.{most_sum, Searching, World, Standing, Lent, with_slices, Ready}

abbrev pub Some : {A : Type 0} → (A → Search → Type 0) → Type 0
Some {A} P = (a : A) × (s : Search) × P a s

abbrev pub Each : {A : Type 0} → (A → Search → Type 0) → (A → Search → Type 0) → Type 0
Each {A} P Q = (a : A) (s : Search) → P a s → Q a s

-- there is room for an entry, and for the label of its node
pub record Offering (labels heap : List ℕ) (len v : ℕ) : Type 0 where
  pub label_room : 2 * (v + 1) ≤ length labels
  pub heap_room : 2 * (len + 1) ≤ length heap
  pub ordered : Ordered (items heap len)

-- what stood for a search stands for it after the offer
abbrev pub Offered : (labels heap labels' heap' : List ℕ) (base len len' v weight : ℕ) → Type 0
Offered labels heap labels' heap' base len len' v weight =
    (n : ℕ) (s : Search) → v < n → Searching n labels heap base len s →
    Searching n labels' heap' base len' (offer (pair weight v) s)

-- the same, but that nothing is offered to the avoided node
abbrev pub Crossed : (labels heap labels' heap' : List ℕ) (base avoid len len' head weight : ℕ) → Type 0
Crossed labels heap labels' heap' base avoid len len' head weight =
    (n : ℕ) (s : Search) → head < n → Searching n labels heap base len s →
    Searching n labels' heap' base len' (cross avoid (pair weight head) s)

-- A chain of places.
pub record Row : Type 0 where
  pub n : ℕ
  pub places : List ℕ

-- the arc at a place may be offered
pub record Usable (n : ℕ) (arcs weights : List ℕ) (i : ℕ) : Type 0 where
  pub valid : i < invalid
  pub arc_room : 6 * (i + 1) ≤ length arcs
  pub weight_room : i < length weights
  pub head : get_or arcs (6 * i + 1) 0 < n
  pub light : get_or weights i 0 ≤ max_weight

-- the heap has room for an entry of each arc
pub record Relaxing (arcs weights labels heap : List ℕ) (base len place weight : ℕ) (r : Row) (s : Search) : Type 0 where
  pub chain : Chain (λ i. get_or arcs (6 * i + 3) 0) place r.places
  pub usable : (i : ℕ) → In i r.places → Usable r.n arcs weights i
  pub short : length r.places ≤ length weights
  pub light : weight ≤ most_sum
  pub room : 2 * (len + length r.places) ≤ length heap
  pub searching : Searching r.n labels heap base len s

abbrev pub Relaxed : (arcs weights labels heap : List ℕ) (base len avoid weight : ℕ) → Row → Search → Type 0
Relaxed arcs weights labels heap base len avoid weight r s =
    Searching r.n labels heap base len
    (relax avoid weight (map (arc_at (memory arcs []) weights) r.places) s)

abbrev pub Relaxes : (arcs weights labels heap labels' heap' : List ℕ) (base avoid len len' place weight : ℕ) → Type 0
Relaxes arcs weights labels heap labels' heap' base avoid len len' place weight =
    Each (Relaxing arcs weights labels heap base len place weight) (Relaxed arcs weights labels' heap' base len' avoid weight)

-- an entry of a node that is not settled has left
pub record Settling (m : Lent) (base len v weight : ℕ) (w : World) (s : Search) : Type 0 where
  pub standing : Standing w m.arcs m.weights m.nodes
  pub searching : Searching w.n m.labels m.heap base len s
  pub node : Reached w.n m.labels base v
  pub light : weight ≤ most_sum
  pub room : 2 * (len + length (outs w.graph v)) ≤ length m.heap

abbrev pub Settled : (m : Lent) (base len avoid v weight : ℕ) → World → Search → Type 0
Settled m base len avoid v weight w s =
    Searching w.n m.labels m.heap base len (settle w.graph avoid (pair weight v) s)

abbrev pub Settles : (m : Lent) (labels heap : List ℕ) (base avoid len len' v weight : ℕ) → Type 0
Settles m labels heap base avoid len len' v weight =
    Each (Settling m base len v weight) (Settled (with_slices m labels heap) base len' avoid v weight)

-- a target and a sum are asked for
pub record Asked (m : Lent) (base len count target sum : ℕ) (w : World) (s : Search) : Type 0 where
  pub ready : Ready w m base len count s
  pub inside : target < w.n
  pub small : sum ≤ most_sum

-- the first entry may leave
pub record Taking (m : Lent) (base len count target sum : ℕ) (w : World) (s : Search) : Type 0 where
  pub asked : Asked m base len count target sum w s
  pub some : 1 ≤ len
  pub light : (item m.heap 0).weight ≤ sum
  pub fits : count + 1 < 2 ^ 64

-- where one step leaves a search, and whether it goes on
pub record Progress : Type 0 where
  pub len : ℕ
  pub settled : ℕ
  pub on : Bool

abbrev pub progress : WitnessSearch → Bool → Progress
progress r on = record { len = r.len; settled = r.settled; on = on }

pub record Taken (m : Lent) (base avoid target sum : ℕ) (r : Progress) (w : World) (s : Search) : Type 0 where
  pub on : r.on ≡ (take w.graph avoid target sum s).on
  pub ready : Ready w m base r.len r.settled (take w.graph avoid target sum s).search

abbrev pub Takes : (m : Lent) (labels heap : List ℕ) (base avoid len count target sum : ℕ) → Progress → Type 0
Takes m labels heap base avoid len count target sum r =
    Each (Taking m base len count target sum) (Taken (with_slices m labels heap) base avoid target sum r)

pub record Turned (m : Lent) (base avoid target sum limit : ℕ) (r : Progress) (w : World) (s : Search) : Type 0 where
  pub on : r.on ≡ (turn w.graph avoid target sum limit s).on
  pub ready : Ready w m base r.len r.settled (turn w.graph avoid target sum limit s).search

abbrev pub Turns : (m : Lent) (labels heap : List ℕ) (base avoid len count target sum limit : ℕ) → Progress → Type 0
Turns m labels heap base avoid len count target sum limit r =
    Each (Asked m base len count target sum) (Turned (with_slices m labels heap) base avoid target sum limit r)

abbrev pub Ran : (m : Lent) (base avoid target sum limit : ℕ) → Progress → World → Search → Type 0
Ran m base avoid target sum limit r w s =
    Ready w m base r.len r.settled
    (run w.graph avoid limit target sum (search_fuel w.graph avoid limit target sum s) s)

abbrev pub Runs : (m : Lent) (labels heap : List ℕ) (base avoid len count target sum limit : ℕ) → Progress → Type 0
Runs m labels heap base avoid len count target sum limit r =
    Each (Asked m base len count target sum) (Ran (with_slices m labels heap) base avoid target sum limit r)

-- the answer, and the search for the next target
pub record Found : Type 0 where
  pub weight : ℕ
  pub search : WitnessSearch

abbrev pub found : ℕ → WitnessSearch → Found
found weight search = record { weight = weight; search = search }

-- the answer, and the search as it was left for the next target
pub record Answered (m : Lent) (search : WitnessSearch) (target sum limit : ℕ) (r : Found) (w : World) (s : Search) : Type 0 where
  pub weight : r.weight ≡ (find_max_weight w.graph search.avoid limit target sum s).weight
  pub ready : Ready w m r.search.base r.search.len r.search.settled (find_max_weight w.graph search.avoid limit target sum s).search
  pub base : r.search.base ≡ search.base
  pub avoid : r.search.avoid ≡ search.avoid

-- `search` is asked
abbrev pub Asks : (m : Lent) → WitnessSearch → (target sum : ℕ) → World → Search → Type 0
Asks m search = Asked m search.base search.len search.settled

abbrev pub Finds : (m : Lent) (labels heap : List ℕ) → WitnessSearch → (target sum limit : ℕ) → Found → Type 0
Finds m labels heap search target sum limit r =
    Each (Asks m search target sum) (Answered (with_slices m labels heap) search target sum limit r)

-- a search can begin: stamps have room for one round more
pub record Starting (labels heap : List ℕ) (base start n : ℕ) : Type 0 where
  pub stamped : Stamped n labels base
  pub inside : start < n
  pub heap_room : 2 ≤ length heap
  pub fits : base + 3 < 2 ^ 64

pub record Started (labels heap : List ℕ) (base start avoid : ℕ) (r : WitnessSearch) (n : ℕ) : Type 0 where
  pub searching : Searching n labels heap r.base r.len (init start)
  pub counted : r.settled ≡ 0
  pub next : r.base ≡ base + 2
  pub avoids : r.avoid ≡ avoid

abbrev pub Starts : (labels heap labels' heap' : List ℕ) (base start avoid : ℕ) → WitnessSearch → Type 0
Starts labels heap labels' heap' base start avoid r =
    (n : ℕ) → Starting labels heap base start n → Started labels' heap' base start avoid r n

-- the slices are those that were lent, and as long as they were
pub record Kept (s s' : LentSearch) : Type 0 where
  pub labels_name : s'.labels.ghost_name ≡ s.labels.ghost_name
  pub heap_name : s'.heap.ghost_name ≡ s.heap.ghost_name
  pub labels : length s'.labels.now ≡ length s.labels.now
  pub heap : length s'.heap.now ≡ length s.heap.now

-- the start and the avoided node are the same
pub record SameStart (r r' : WitnessSearch) : Type 0 where
  pub base : r'.base ≡ r.base
  pub avoid : r'.avoid ≡ r.avoid

-- .. and so many nodes were settled
pub record SameRound (r r' : WitnessSearch) : Type 0 where
  pub base : r'.base ≡ r.base
  pub avoid : r'.avoid ≡ r.avoid
  pub settled : r'.settled ≡ r.settled

-- nothing but labels changes
pub record OnlyLabels (s s' : LentSearch) : Type 0 where
  pub labels_name : s'.labels.ghost_name ≡ s.labels.ghost_name
  pub heap_name : s'.heap.ghost_name ≡ s.heap.ghost_name
  pub heap : s'.heap.now ≡ s.heap.now
  pub round : s'.round ≡ s.round
