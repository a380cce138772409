-- What a turn reads of a node's entries, on either side, in tables that keep the rules.
use mathlib.Core.Bool.{Bool, true, false, ◌||◌}
use mathlib.Core.List.Memᴰ
use mathlib.Core.List.{List, [], ◌∷◌, map}
use mathlib.Core.Path.{◌≡◌, refl, ap}
use Prim.Native.Nat.{ℕ, suc, ◌+◌, ◌<◌, ◌≤◌}
use native.Mathlib.Numerals.{add-one}
use native.Mathlib.Omega.{arith}
use lib.Dec.{ltb}
use lib.ListN.{length, get_or}
use Rattle.rules.specs.Numbers.{max_weight, invalid}
use Rattle.rules.specs.Lists.{any, range, In}
use Rattle.rules.specs.Columns.{Table, Entry, Hierarchy, Side, opposite, table, entry, rank, begin, places, entries, room}
use Rattle.rules.specs.TableRules.{TableRules}
use Rattle.rules.specs.Heap.{Item}
use Rattle.rules.specs.Query.{stalls}
use Rattle.rules.proofs.Prefixes.{in_range}
use Rattle.walks.proofs.Places.{place_entry, place_used, places_within, in_places}
use Rattle.tables.specs.Shapes.{Shape}
use Rattle.tables.proofs.Entries.{get_d_any, entry_read, each_within}
use Rattle.tables.proofs.Check.{shape_of}
use Rattle.halves.specs.Labels.{seen, half}
use Rattle.halves.proofs.Labels.{label_in}
use Rattle.halves.proofs.Relaxing.{range_on, range_done}

-- An entry of a node, as it stands in the columns.
pub record Seen (n : ℕ) (t : Table) (e : ℕ) : Type 0 where
  pub neighbour : (entry t e).neighbour ≡ get_or t.neighbours e 0
  pub weight : (entry t e).weight ≡ get_or t.weights e 0
  pub below : get_or t.neighbours e 0 < n
  pub light : get_or t.weights e 0 ≤ max_weight
  pub neighbour_room : e < length t.neighbours
  pub weight_room : e < length t.weights

module _ (n : ℕ) (h : Hierarchy) (rules : TableRules n h) (v : ℕ) (below : v < n) where
  pub rank_read : get_or h.ranks v 0 ≡ rank h v
  unfolding rank
  rank_read = get_d_any h.ranks v 0 invalid (omega (arith, rules.places_for_ranks))

  pub rank_below : rank h v < n
  rank_below = rules.ranks_below v below

  module _ (s : Side) where
    shape : Shape n (table h s)
    shape = shape_of n h s rules

    pub starts_room : suc n ≤ length (table h s).starts
    starts_room = shape.places_for_starts

    pub from_read : get_or (table h s).starts (rank h v) 0 ≡ begin (table h s) (rank h v)
    unfolding begin
    from_read = refl

    pub to_read : get_or (table h s).starts (rank h v + 1) 0 ≡ begin (table h s) (suc (rank h v))
    unfolding begin
    to_read = rw add-one

    pub seen_entry : (e : ℕ) → begin (table h s) (rank h v) ≤ e → e < begin (table h s) (suc (rank h v)) → Seen n (table h s) e
    unfolding room
    seen_entry e low high =
        let m = in_places (table h s) (rank h v) e low high in
        let r = place_entry n h rules s v below e m in
        let inside : e < length (table h s).bases = omega (arith, place_used n h rules s v below e m, shape.end_within) in
        let is = entry_read n (table h s) shape e inside in
        let long = each_within (table h s) shape.columns in
        record {
          neighbour = ap (λ (x : Entry). x.neighbour) is;
          weight = ap (λ (x : Entry). x.weight) is;
          below = rw is at r.neighbour_below;
          light = rw is at r.weight_high;
          neighbour_room = omega (arith, long.0);
          weight_room = omega (arith, long.1);
        }

    pub stretch_end : begin (table h s) (suc (rank h v)) ≤ length (table h s).bases
    unfolding room
    stretch_end = omega (arith, (places_within n h rules s v below).1, shape.end_within)

-- The scan for stalling, in the columns.
unfoldable pub lower_by : List ℕ → ℕ → List ℕ → List ℕ → ℕ → List ℕ → Bool
lower_by labels base tm tw w es = any (λ e. ltb ((seen labels base (get_or tm e 0)).weight + get_or tw e 0) w) es

module _ (labels : List ℕ) (base : ℕ) (tm tw : List ℕ) (w e end : ℕ) (more : e < end) where
  pub hit : ltb ((seen labels base (get_or tm e 0)).weight + get_or tw e 0) w ≡ true → lower_by labels base tm tw w (range e end) ≡ true
  unfolding lower_by any
  hit t = rw (range_on e end more, t)

  pub miss : ltb ((seen labels base (get_or tm e 0)).weight + get_or tw e 0) w ≡ false →
      lower_by labels base tm tw w (range (e + 1) end) ≡ lower_by labels base tm tw w (range e end)
  unfolding lower_by any
  miss f = rw (range_on e end more, f)

pub none_left : (labels : List ℕ) (base : ℕ) (tm tw : List ℕ) (w e end : ℕ) → end ≤ e → lower_by labels base tm tw w (range e end) ≡ false
unfolding lower_by any
none_left labels base tm tw w e end done = rw (range_done e end done)

-- It is the stall test.
same_any : {A : Type 0} (p : A → Bool) (q : ℕ → Bool) (f : ℕ → A) (es : List ℕ) → ((e : ℕ) → In e es → q e ≡ p (f e)) → any q es ≡ any p (map f es)
unfolding any
same_any p q f [] h = refl
same_any p q f (e ∷ es) h =
    rw (h e (Memᴰ.head refl)) (ap (λ (r : Bool). p (f e) || r) (same_any p q f es (λ k m. h k (Memᴰ.tail m))))

module _ (n : ℕ) (h : Hierarchy) (rules : TableRules n h) (s : Side) (labels heap : List ℕ) (base len : ℕ) (i : Item) (below : i.node < n) where
  abbrev other : Table
  other = table h (opposite s)

  pub stall_scan : lower_by labels base other.neighbours other.weights i.weight
      (range (begin other (rank h i.node)) (begin other (suc (rank h i.node)))) ≡
      stalls (entries h (opposite s) i.node) (half n base labels heap len) i
  unfolding lower_by stalls entries places half
  stall_scan =
      same_any _ _ (entry other) (range (begin other (rank h i.node)) (begin other (suc (rank h i.node))))
      (λ e m.
      let w = in_range (begin other (rank h i.node)) (begin other (suc (rank h i.node))) e m in
      let k = seen_entry n h rules i.node below (opposite s) e w.0 w.1 in
      let at = label_in n base (get_or other.neighbours e 0) labels k.below in
      rw (k.neighbour, k.weight, at))
