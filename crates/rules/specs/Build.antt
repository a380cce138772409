-- "How a hierarchy is made": rules 1 to 5 with refusals 10 to 12 at the step that meets them, and the build as one
-- function from what was given and lent to the answer and every lent place.
use Rattle.std.specs.Prelude.{true, false, ◌&&◌, List, [], ◌∷◌, ◌++◌, map, ℕ, zero, suc, ◌+◌, eqb, ltb, leb, length}
use Rattle.rules.specs.Numbers.{max_weight, invalid}
use Rattle.rules.specs.Lists.{position, over, range, flat_map}
use Rattle.rules.specs.Columns.{Link, Links, link_list, Table, Entry, Hierarchy, Side, forward, backward, room, marked}
use Rattle.rules.specs.TableRules.{tail_of, head_of}
use Rattle.rules.specs.Refusals.{BuildCall, build_refusal}
use Rattle.rules.specs.Graph.{Arc, outs, ins, add_or_reduce, kept, disconnect}
use Rattle.rules.specs.Search.{Search, init, Found, find_max_weight}

-- A step goes on, or ends the build with a refusal's number.
pub data Step {ℓ} (A : Type ℓ) : Type ℓ where
  went : A → Step A
  refused : ℕ → Step A

module _ {ℓ κ} {A : Type ℓ} {B : Type κ} where
  unfoldable pub and_then : Step A → (A → Step B) → Step B
  and_then (went a) f = f a
  and_then (refused r) f = refused r

-- "live arcs would exceed the lent pool"
unfoldable pub in_pool : ℕ → List Arc → Step (List Arc)
in_pool pool g = elim (leb (length g) pool) [ true ↦ went g | false ↦ refused 10 ]

-- Rule 1.
unfoldable pub link_arc : Link → Arc
link_arc l = record { tail = l.tail; head = l.head; weight = l.weight; centre = invalid }

-- an arc for each link
abbrev pub graph_of : Links → List Arc
graph_of l = map link_arc (link_list l)

unfoldable pub from_links : ℕ → List Link → Step (List Arc)
from_links pool ls = in_pool pool (map link_arc ls)

-- Rule 3, for the node v: the graph and the search of the in-arc at hand.
pub record Contracting : Type 0 where
  pub graph : List Arc
  pub search : Search

-- the arc of a pair, of "the sum and centre v"
unfoldable pub shortcut : ℕ → Arc → Arc → Arc
shortcut v a b = record { tail = a.tail; head = b.head; weight = a.weight + b.weight; centre = v }

module _ (pool limit v : ℕ) where
  -- "an arc a to b that weighs no more is kept; .. (refusal 10 first)"
  unfoldable pub add : Arc → List Arc → Search → Step Contracting
  add s g found = and_then (in_pool pool (add_or_reduce s g)) (λ g'. went (record { graph = g'; search = found }))

  -- A sum that no arc may weigh: nothing is put in.
  unfoldable pub unless_kept : Arc → List Arc → Search → Step Contracting
  unless_kept s g found = elim (kept s g) [ true ↦ went (record { graph = g; search = found }) | false ↦ refused 12 ]

  -- "12 is given, before 10, exactly when the sum is above 2^40, no witness was found .., and no arc .. is there already"
  unfoldable pub within_sum : Arc → List Arc → Search → Step Contracting
  within_sum s g found = elim (ltb max_weight s.weight) [ true ↦ unless_kept s g found | false ↦ add s g found ]

  -- "If the search answers at most the sum, drop the pair."
  unfoldable pub unless_witness : Arc → List Arc → Found → Step Contracting
  unless_witness s g f =
      elim (leb f.weight s.weight) [
        | true ↦ went (record { graph = g; search = f.search })
        | false ↦ within_sum s g f.search
      ]

  -- "the search runs first with the full sum"
  unfoldable pub ask : Arc → Contracting → Step Contracting
  ask s c = unless_witness s c.graph (find_max_weight c.graph v limit s.head s.weight c.search)

  -- "if a = b, drop the pair"
  unfoldable pub pair : Arc → Arc → Contracting → Step Contracting
  pair a b c = elim (eqb a.tail b.head) [ true ↦ went c | false ↦ ask (shortcut v a b) c ]

  -- one in-arc with each out-arc
  unfoldable pub pairs_of : Arc → List Arc → Contracting → Step Contracting
  pairs_of a [] c = went c
  pairs_of a (b ∷ bs) c = and_then (pair a b c) (λ c'. pairs_of a bs c')

  -- each in-arc, with a search of its own
  unfoldable pub handle_shortcuts : List Arc → List Arc → List Arc → Step (List Arc)
  handle_shortcuts [] bs g = went g
  handle_shortcuts (a ∷ rest) bs g =
      and_then (pairs_of a bs (record { graph = g; search = init a.tail })) (λ c. handle_shortcuts rest bs c.graph)

  -- rules 3 and 4
  unfoldable pub contract_node : List Arc → Step (List Arc)
  contract_node g = and_then (handle_shortcuts (ins g v) (outs g v) g) (λ g'. went (disconnect g' v))

-- Rule 2: what stands for a rank, the node's lists as they then are.
pub record Level : Type 0 where
  pub node : ℕ
  pub outs : List Arc
  pub ins : List Arc

-- "(base v, neighbour, weight, centre)"
pub record Raw : Type 0 where
  pub base : ℕ
  pub neighbour : ℕ
  pub weight : ℕ
  pub centre : ℕ

unfoldable pub arcs_of : Side → Level → List Arc
arcs_of forward l = l.outs
arcs_of backward l = l.ins

unfoldable pub neighbour_of : Side → Arc → ℕ
neighbour_of forward a = a.head
neighbour_of backward a = a.tail

unfoldable pub raw : Side → ℕ → Arc → Raw
raw s v a = record { base = v; neighbour = neighbour_of s a; weight = a.weight; centre = a.centre }

unfoldable pub level_raws : Side → Level → List Raw
level_raws s l = map (raw s l.node) (arcs_of s l)

unfoldable pub raws : Side → List Level → List Raw
raws s ls = flat_map (level_raws s) ls

-- "an entry would exceed its table"
unfoldable pub in_tables : ℕ → ℕ → List Level → Step (List Level)
in_tables fwd bwd ls =
    elim (leb (length (raws forward ls)) fwd && leb (length (raws backward ls)) bwd) [
      | true ↦ went ls
      | false ↦ refused 11
    ]

pub record Building : Type 0 where
  pub graph : List Arc
  pub levels : List Level

module _ (c : BuildCall) where
  -- rules 2 to 4 for one node of the order
  unfoldable pub rank_step : ℕ → Building → Step Building
  rank_step v b =
      and_then
      (in_tables (room c.lent.forward) (room c.lent.backward)
      (b.levels ++ (record { node = v; outs = outs b.graph v; ins = ins b.graph v } ∷ [])))
      (λ ls.
      and_then (contract_node c.pool c.limit v b.graph) (λ g. went (record { graph = g; levels = ls })))

  -- "For rank 0, 1, ... take node v of the order."
  unfoldable pub rank_steps : List ℕ → Building → Step Building
  rank_steps [] b = went b
  rank_steps (v ∷ vs) b = and_then (rank_step v b) (λ b'. rank_steps vs b')

  unfoldable pub contraction : Step Building
  contraction =
      and_then (from_links c.pool (link_list c.links))
      (λ g. rank_steps c.order (record { graph = g; levels = [] }))

-- Rule 5. The entry of a node to, or from, a neighbour.
unfoldable pub place : List Raw → ℕ → ℕ → ℕ
place rs v u = position (λ r. eqb r.base v && eqb r.neighbour u) rs

unfoldable pub open_entry : Raw → ℕ → ℕ → Entry
open_entry r i o = record { base = r.base; neighbour = r.neighbour; weight = r.weight; in_number = i; out_number = o }

-- "each centre c becomes two numbers: the backward entry of c from the shortcut's tail, and the forward entry of c to
-- its head. Without a centre both are invalid."
unfoldable pub finish : List Raw → List Raw → Side → Raw → Entry
finish fwd bwd s r =
    elim (eqb r.centre invalid) [
      | true ↦ plain
      | false ↦ open_entry r (place bwd r.centre (tail_of s plain)) (place fwd r.centre (head_of s plain))
    ]
  where
    plain : Entry
    plain = open_entry r invalid invalid

unfoldable pub running_sums : ℕ → List ℕ → List ℕ
running_sums a [] = a ∷ []
running_sums a (x ∷ xs) = a ∷ running_sums (a + x) xs

unfoldable pub starts_of : Side → List Level → List ℕ
starts_of s ls = running_sums 0 (map (λ l. length (arcs_of s l)) ls)

-- a table's columns, written over what was lent
unfoldable pub laid : Table → List ℕ → List Entry → Table
laid lent starts es =
    record {
      starts = over lent.starts starts;
      bases = over lent.bases (map (λ e. e.base) es);
      neighbours = over lent.neighbours (map (λ e. e.neighbour) es);
      weights = over lent.weights (map (λ e. e.weight) es);
      in_numbers = over lent.in_numbers (map (λ e. e.in_number) es);
      out_numbers = over lent.out_numbers (map (λ e. e.out_number) es);
    }

unfoldable pub finished : Side → List Level → List Entry
finished s ls = map (finish (raws forward ls) (raws backward ls) s) (raws s ls)

-- the order's inverse
unfoldable pub ranks_of : List ℕ → ℕ → List ℕ
ranks_of order n = map (λ v. position (eqb v) order) (range 0 n)

unfoldable pub finish_contraction : BuildCall → List Level → Hierarchy
finish_contraction c ls =
    record {
      ranks = over c.lent.ranks (ranks_of c.order c.nodes);
      forward = laid c.lent.forward (starts_of forward ls) (finished forward ls);
      backward = laid c.lent.backward (starts_of backward ls) (finished backward ls);
    }

-- What a build answers, and what every lent place then holds.
pub record Built : Type 0 where
  pub number : ℕ
  pub hierarchy : Hierarchy

unfoldable pub built : BuildCall → Step Building → Built
built c (went b) = record { number = 0; hierarchy = finish_contraction c b.levels }
built c (refused r) = record { number = r; hierarchy = marked c.lent }

unfoldable pub unless_refused : BuildCall → ℕ → Built
unless_refused c zero = built c (contraction c)
unless_refused c (suc r) = record { number = suc r; hierarchy = c.lent }

unfoldable pub build : BuildCall → Built
build c = unless_refused c (build_refusal c)
