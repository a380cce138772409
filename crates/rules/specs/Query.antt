-- "How a route is found": the query as one function from what was given and lent to the answer and every lent place.
use Rattle.std.specs.Prelude.{Bool, true, false, ◌&&◌, List, [], ◌∷◌, ◌++◌, reverse, ℕ, zero, suc, ◌+◌, eqb, ltb, length}
use Rattle.rules.specs.Numbers.{invalid, no_weight}
use Rattle.rules.specs.Lists.{any, over, update, flat_map}
use Rattle.rules.specs.Heap.{Item, push}
use Rattle.rules.specs.Columns.{Table, Entry, Hierarchy, Side, forward, backward, opposite, table, entry, rank, places, entries, Ends}
use Rattle.rules.specs.TableRules.{used}
use Rattle.rules.specs.Refusals.{QueryCall, query_refusal}
use Rattle.rules.specs.Unpack.{unpacked}

-- A source or target: a node and its offset.
pub record End : Type 0 where
  pub node : ℕ
  pub offset : ℕ

unfoldable pub zip_ends : List ℕ → List ℕ → List End
zip_ends [] os = []
zip_ends (v ∷ vs) [] = []
zip_ends (v ∷ vs) (o ∷ os) = record { node = v; offset = o } ∷ zip_ends vs os

unfoldable pub end_list : Ends → List End
end_list e = zip_ends e.nodes e.offsets

-- "An end with that mark doesn't count."
unfoldable pub counts : End → Bool
counts e = ltb e.offset no_weight

-- The best sum so far and its meeting node; the marks where there is none.
pub record Best : Type 0 where
  pub sum : ℕ
  pub node : ℕ

unfoldable pub improve : ℕ → ℕ → Best → Best
improve sum v b = elim (ltb sum b.sum) [ true ↦ record { sum = sum; node = v } | false ↦ b ]

-- "First, over sources then targets as listed, equal nodes that count set the best sum when strictly smaller."
unfoldable pub coincide : End → End → Best → Best
coincide s t b =
    elim (eqb s.node t.node && counts s && counts t) [
      | true ↦ improve (s.offset + t.offset) t.node b
      | false ↦ b
    ]

unfoldable pub coincide_all : End → List End → Best → Best
coincide_all s [] b = b
coincide_all s (t ∷ ts) b = coincide_all s ts (coincide s t b)

unfoldable pub first_step : List End → List End → Best → Best
first_step [] ts b = b
first_step (s ∷ ss) ts b = first_step ss ts (coincide_all s ts b)

pub record Label : Type 0 where
  pub weight : ℕ
  pub parent : ℕ
  pub via : ℕ

unfoldable pub no_label : Label
no_label = record { weight = no_weight; parent = invalid; via = invalid }

-- "a label takes an offer and hands back itself, improved or not"
unfoldable pub lower : Label → Label → Label
lower offered own = elim (ltb offered.weight own.weight) [ true ↦ offered | false ↦ own ]

-- One side's search.
pub record Half : Type 0 where
  pub label : ℕ → Label
  pub settled : ℕ → Bool
  pub heap : List Item

unfoldable pub with_heap : List Item → Half → Half
with_heap q x = record { label = x.label; settled = x.settled; heap = q }

unfoldable pub untouched : Half
untouched = record { label = λ _. no_label; settled = λ _. false; heap = [] }

-- "when their offset is strictly below the node's label"
unfoldable pub offer : ℕ → Label → Half → Half
offer v l x =
    record {
      label = update v (lower l (x.label v)) x.label;
      settled = x.settled;
      heap =
          elim (ltb l.weight (x.label v).weight) [
            | true ↦ push (record { weight = l.weight; node = v }) x.heap
            | false ↦ x.heap
          ];
    }

-- "Sources, then targets, enter their heaps": each is its own parent
unfoldable pub enter : List End → Half → Half
enter [] x = x
enter (e ∷ es) x = enter es (offer e.node (record { weight = e.offset; parent = e.node; via = invalid }) x)

-- "A node stalls if a higher neighbour's same-side label, plus the other table's entry between them, is strictly less
-- than the weight taken out"
unfoldable pub stalls : List Entry → Half → Item → Bool
stalls others x i = any (λ e. ltb ((x.label e.neighbour).weight + e.weight) i.weight) others

-- offers along entries of a table, in order
unfoldable pub relax : Table → Item → List ℕ → Half → Half
relax t i [] x = x
relax t i (e ∷ es) x =
    relax t i es
    (offer (entry t e).neighbour
    (record { weight = i.weight + (entry t e).weight; parent = i.node; via = e })
    x)

unfoldable pub mark_settled : ℕ → Half → Half
mark_settled v x = record { label = x.label; settled = update v true x.settled; heap = x.heap }

unfoldable pub settle : Hierarchy → Side → Item → Half → Half
settle h s i x = mark_settled i.node (relax (table h s) i (places (table h s) (rank h i.node)) x)

pub record Turned : Type 0 where
  pub half : Half
  pub best : Best

-- One turn of a side, `facing` the other side's search, over the side's heap. It "ends at the first entry it settles,
-- or at one heavier than the best (taken out and lost), or with its heap empty; settled and stalled entries are passed
-- over. The tests run settled, heavier, stalled." "After relaxing, a settled node with a label on the other side sets
-- best and meeting node when the sum is strictly smaller."
unfoldable pub turn : Hierarchy → Side → Half → Best → Half → List Item → Turned
turn h s facing b x [] = record { half = with_heap [] x; best = b }
turn h s facing b x (i ∷ q) =
    elim (x.settled i.node) [
      | true ↦ turn h s facing b x q
      | false ↦
          elim (ltb b.sum i.weight) [
            | true ↦ record { half = with_heap q x; best = b }
            | false ↦
                elim (stalls (entries h (opposite s) i.node) x i) [
                  | true ↦ turn h s facing b x q
                  | false ↦
                      record {
                        half = settle h s i (with_heap q x);
                        best = improve (i.weight + (facing.label i.node).weight) i.node b;
                      }
                ]
          ]
    ]

pub record Halves : Type 0 where
  pub fwd : Half
  pub bwd : Half
  pub best : Best

-- a forward turn, then a backward turn
unfoldable pub round : Hierarchy → Halves → Halves
round h q =
    let f = turn h forward q.bwd q.best q.fwd q.fwd.heap in
    let b = turn h backward f.half f.best q.bwd q.bwd.heap in
    record { fwd = f.half; bwd = b.half; best = b.best }

unfoldable pub both_empty : List Item → List Item → Bool
both_empty [] [] = true
both_empty [] (i ∷ q) = false
both_empty (i ∷ p) q = false

-- "Then forward and backward turns alternate until both heaps are empty." Each round takes an entry out.
unfoldable pub rounds : Hierarchy → ℕ → Halves → Halves
rounds h zero q = q
rounds h (suc fuel) q =
    elim (both_empty q.fwd.heap q.bwd.heap) [ true ↦ q | false ↦ rounds h fuel (round h q) ]

-- The entries by which labels lead from an end to a node, that of the node last. Ranks rise on the way, so the number
-- of nodes is fuel enough.
unfoldable pub climb : ℕ → Half → ℕ → List ℕ
climb zero x v = []
climb (suc fuel) x v =
    elim (eqb (x.label v).via invalid) [
      | true ↦ []
      | false ↦ climb fuel x (x.label v).parent ++ ((x.label v).via ∷ [])
    ]

-- the end that they lead from
unfoldable pub root : ℕ → Half → ℕ → ℕ
root zero x v = v
root (suc fuel) x v = elim (eqb (x.label v).via invalid) [ true ↦ v | false ↦ root fuel x (x.label v).parent ]

-- the walk through a meeting node
unfoldable pub walk : Hierarchy → ℕ → Halves → ℕ → List ℕ
walk h n q m =
    flat_map (unpacked h forward) (climb n q.fwd m) ++
    (flat_map (unpacked h backward) (reverse (climb n q.bwd m)) ++ (root n q.bwd m ∷ []))

-- What a query answers: a number, a weight, the walk, and what the path buffer then holds.
pub record Answered : Type 0 where
  pub number : ℕ
  pub weight : ℕ
  pub walk : List ℕ
  pub path : List ℕ

-- A refusal, or "none" with the number 0: an empty part, the no-weight mark, the path buffer left alone.
unfoldable pub no_route : QueryCall → ℕ → Answered
no_route c number = record { number = number; weight = no_weight; walk = []; path = c.path }

-- refusal 25: "the unpacked walk is longer than the path buffer"
unfoldable pub handed_back : QueryCall → ℕ → List ℕ → Answered
handed_back c weight w =
    elim (ltb (length c.path) (length w)) [
      | true ↦ no_route c 25
      | false ↦ record { number = 0; weight = weight; walk = w; path = over c.path w }
    ]

-- the entries that can leave: every end, and one for each entry of the tables
unfoldable pub query_fuel : QueryCall → ℕ
query_fuel c =
    length c.sources.nodes + length c.targets.nodes + used c.nodes c.hierarchy.forward +
    used c.nodes c.hierarchy.backward

unfoldable pub entered : QueryCall → Halves
entered c =
    record {
      fwd = enter (end_list c.sources) untouched;
      bwd = enter (end_list c.targets) untouched;
      best = first_step (end_list c.sources) (end_list c.targets) (record { sum = no_weight; node = invalid });
    }

unfoldable pub searched : QueryCall → Halves
searched c = rounds c.hierarchy (query_fuel c) (entered c)

unfoldable pub route : QueryCall → Halves → Answered
route c q =
    elim (eqb q.best.node invalid) [
      | true ↦ no_route c 0
      | false ↦ handed_back c q.best.sum (walk c.hierarchy c.nodes q q.best.node)
    ]

unfoldable pub unless_refused : QueryCall → ℕ → Answered
unless_refused c zero = route c (searched c)
unless_refused c (suc r) = no_route c (suc r)

unfoldable pub query : QueryCall → Answered
query c = unless_refused c (query_refusal c)
