-- What each step does to the graph that the slices stand for.
use mathlib.Core.Path.{◌≡◌, refl, sym, ap, ◌∙◌}
use mathlib.Core.Logic.{inl, inr}
use mathlib.Core.List.Memᴰ
use mathlib.Core.List.{List, [], ◌∷◌, ◌++◌, map, map-append, append_assoc, append-nil}
use Prim.Native.Nat.{ℕ, ◌+◌, ◌*◌, ◌≤◌, ◌<◌}
use native.Mathlib.Omega.{arith}
use lib.ListN.{length, set, get_or, take, drop, length-set, length-append, length-take, length-drop, length-map}
use lib.Seq.{get_or-set_same, get_or-set_other}
use Rattle.std.proofs.Math.ListN.{get_or-append}
use Rattle.rules.specs.Numbers.{invalid}
use Rattle.rules.specs.Lists.{In, keep, distinct}
use Rattle.rules.specs.Graph.{Arc}
use Rattle.rules.proofs.Arcs.{same_arc}
use Rattle.rules.proofs.Members.{in_keep}
use Rattle.rules.proofs.Lists.{map_same, Distinct, to_distinct, distinct_parts, distinct_insert}
use Rattle.graph.specs.declared.preparation_graph.Pool.{Pool}
use Rattle.lists.specs.Memory.{Memory, memory, at, last, arc_at, ends_at, Chain, last_of}
use Rattle.graph.specs.Stands.{Placed, Stands, Extends}
use Rattle.lists.specs.Promises.{Open, CanTake}
use Rattle.lists.specs.Steps.{put}
use Rattle.lists.proofs.Chains.{chain_same, chain_empty, chain_first, last_in}
use Rattle.graph.proofs.Places.{freed_valid, all_once, once, roomy, live_at_most, on_sides, put_sides, put_other, put_tail, put_head, put_centre, put_arcs_long, put_nodes_long}

-- Live arcs never exceed the pool.
pub within_pool : {n pool : ℕ} {m : Memory} {w : List ℕ} {state : Pool} {g : List Arc} → Stands n pool m w state g → length g ≤ pool
within_pool st = rw (st.arcs, length-map) (live_at_most st.placed)

-- A node's list can be changed at its end, and a place in the pool can take an arc.
module _ {n pool : ℕ} {m : Memory} {state : Pool} {ids freed : List ℕ} (here : Placed n pool m state ids freed) where
  pub list_open : (s v : ℕ) → s < 2 → v < n → Open m s v (last m s v)
  list_open s v two inside = record {
    side = two;
    node = omega (arith, here.nodes_room);
    place =
        λ h.
        let e = (here.listed s v two inside).final in
        elim (Memᴰ.cases_cons (last_in invalid (keep (ends_at m s v) ids))) [
          | inl mark ↦ absurd (h (e ∙ mark))
          | inr live ↦ rw e (roomy here _ (in_keep (ends_at m s v) _ ids live).0)
        ];
  }

  pub takes : (w : List ℕ) → pool ≤ length w → (p : ℕ) → p < pool → (a : Arc) → a.tail < n → a.head < n → CanTake m w p a
  takes w room p below a tail_in head_in = record {
    place = omega (arith, here.arcs_room);
    weighed = omega arith;
    out = list_open 0 a.tail (omega arith) tail_in;
    enter = list_open 1 a.head (omega arith) head_in;
  }

  -- a freed place is in the pool
  pub freed_below : (state.free ≡ invalid → ⊥) → state.free < pool
  freed_below h =
      let r = chain_first (at m 5) freed state.free here.free h in
      omega (arith, here.below state.free (Memᴰ.append_right ids (rw r.1 (Memᴰ.head refl))), here.within)

-- No arc: every list is empty.
pub stands_clear : (n pool : ℕ) (arcs nodes weights : List ℕ) → pool ≤ invalid → 6 * pool ≤ length arcs → pool ≤ length weights → 4 * n ≤ length nodes
    → ((k : ℕ) → k < 4 * n → get_or nodes k 0 ≡ invalid) → Stands n pool (memory arcs nodes) weights (record { free = invalid; fresh = 0 }) []
unfolding keep last_of distinct
stands_clear n pool arcs nodes weights small arcs_room weights_room nodes_room marked = record {
  ids = [];
  freed = [];
  placed = record {
    listed = λ s v two inside. record { chain = marked (4 * v + 2 * s) (omega arith); final = marked (4 * v + (2 * s + 1)) (omega arith) };
    ends = λ s i two k. absurd (Memᴰ.not-nil k);
    free = refl;
    apart = refl;
    below = λ i k. absurd (Memᴰ.not-nil k);
    count = refl;
    within = omega arith;
    numbered = small;
    arcs_room = arcs_room;
    nodes_room = nodes_room;
  };
  arcs = refl;
  weights_room = weights_room;
}

-- So it is where the front of the numbers was filled with the mark.
pub stands_filled : (n pool : ℕ) (arcs nodes weights marks : List ℕ) (filled : ℕ) → pool ≤ invalid → 6 * pool ≤ length arcs → pool ≤ length weights → 4 * n ≤ length nodes
    → filled ≡ 4 * n → length marks ≡ length (take filled nodes) → ((k : ℕ) → k < length (take filled nodes) → get_or marks k 0 ≡ invalid)
    → Stands n pool (memory arcs (marks ++ drop filled nodes)) weights (record { free = invalid; fresh = 0 }) []
stands_filled n pool arcs nodes weights marks filled small arcs_room weights_room nodes_room whole long marked =
    let rest = drop filled nodes in
    let front = length-take filled nodes in
    stands_clear n pool arcs (marks ++ rest) weights small arcs_room weights_room
    (omega (arith, length-append marks rest, long, front, length-drop filled nodes))
    (λ k h.
    let inside : k < length (take filled nodes) = omega (arith, front) in
    get_or-append marks rest 0 k (omega (arith, long)) ∙ marked k inside)

-- An arc comes into the place p, which was not live; `state` and `rest` are what is left of the freed.
module _ {n pool : ℕ} {m : Memory} {old : Pool} {ids freed : List ℕ} (here : Placed n pool m old ids freed)
    (p : ℕ) (absent : In p ids → ⊥) (below : p < pool) (a : Arc) (tail_in : a.tail < n) (head_in : a.head < n) where
  put_ends : (s i : ℕ) → s < 2 → In i (ids ++ p ∷ []) → at (put m p a) s i < n
  put_ends s i two k =
      elim (Memᴰ.append_cases ids k) [
        | inl left ↦ rw (put_other here p absent below a tail_in head_in s i (omega arith) (λ e _. absent (rw e at left))) (here.ends s i two left)
        | inr right ↦
            rw (Memᴰ.eq_of_singleton right)
            (on_sides (λ q. at (put m p a) q p < n) (rw (put_tail here p absent below a tail_in head_in) tail_in)
            (rw (put_head here p absent below a tail_in head_in) head_in) s two)
      ]

  put_placed : (state : Pool) (rest : List ℕ) → Chain (at m 5) state.free rest → Distinct ((ids ++ p ∷ []) ++ rest)
      → ((i : ℕ) → In i ((ids ++ p ∷ []) ++ rest) → i < state.fresh) → length (ids ++ p ∷ []) + length rest ≡ state.fresh
      → state.fresh ≤ pool → Placed n pool (put m p a) state (ids ++ p ∷ []) rest
  put_placed state rest chain apart small count within = record {
    listed = λ s v two. put_sides here p absent below a tail_in head_in s two v;
    ends = put_ends;
    free =
        chain_same (at m 5) (at (put m p a) 5) rest state.free
        (λ i _. put_other here p absent below a tail_in head_in 5 i (omega arith) (λ _ h. omega arith)) chain;
    apart = to_distinct _ apart;
    below = small;
    count = count;
    within = within;
    numbered = here.numbered;
    arcs_room = rw (put_arcs_long here p absent below a tail_in head_in) here.arcs_room;
    nodes_room = rw (put_nodes_long here p absent below a tail_in head_in) here.nodes_room;
  }

  -- the other arcs stay, and a is the last
  put_arcs : (w : List ℕ) → pool ≤ length w → map (arc_at (put m p a) (set w p a.weight)) (ids ++ p ∷ []) ≡ map (arc_at m w) ids ++ a ∷ []
  put_arcs w room =
      map-append _ ids (p ∷ []) ∙
      (λ i. map_same (arc_at (put m p a) (set w p a.weight)) (arc_at m w) ids stays i ++ new i ∷ [])
    where
      other_number : (k i : ℕ) → k < 3 → (i ≡ p → ⊥) → at (put m p a) k i ≡ at m k i
      other_number k i h d = put_other here p absent below a tail_in head_in k i (omega arith) (λ e _. d e)

      stays : (i : ℕ) → In i ids → arc_at (put m p a) (set w p a.weight) i ≡ arc_at m w i
      stays i k =
          let d : i ≡ p → ⊥ = λ e. absent (rw e at k) in
          same_arc (other_number 0 i (omega arith) d) (other_number 1 i (omega arith) d)
          (get_or-set_other w p i a.weight 0 d) (other_number 2 i (omega arith) d)

      new : arc_at (put m p a) (set w p a.weight) p ≡ a
      new =
          same_arc (put_tail here p absent below a tail_in head_in) (put_head here p absent below a tail_in head_in)
          (get_or-set_same w p a.weight 0 (omega arith)) (put_centre here p absent below a tail_in head_in)

module _ {n pool : ℕ} {m : Memory} {w : List ℕ} {old : Pool} {g : List Arc} (here : Stands n pool m w old g)
    (a : Arc) (tail_in : a.tail < n) (head_in : a.head < n) where
  pl : Placed n pool m old here.ids here.freed
  pl = here.placed

  stands_put : (p : ℕ) (absent : In p here.ids → ⊥) (below : p < pool) (state : Pool) (rest : List ℕ)
      → Placed n pool (put m p a) state (here.ids ++ p ∷ []) rest → Extends n pool (put m p a) (set w p a.weight) state (g ++ a ∷ []) here.ids
  stands_put p absent below state rest placed = record {
    stands =
        record {
          ids = here.ids ++ p ∷ [];
          freed = rest;
          placed = placed;
          arcs = rw here.arcs (sym (put_arcs pl p absent below a tail_in head_in w here.weights_room));
          weights_room = rw length-set here.weights_room;
        };
    more = p ∷ [];
    same_places = refl;
  }

  -- the first of the freed places is used again
  pub stands_reused : (old.free ≡ invalid → ⊥)
      → Extends n pool (put m old.free a) (set w old.free a.weight) (record { free = at m 5 old.free; fresh = old.fresh }) (g ++ a ∷ []) here.ids
  stands_reused h = stands_put p absent below state rest (put_placed pl p absent below a tail_in head_in state rest chain apart small count pl.within)
    where
      p : ℕ
      p = old.free

      state : Pool
      state = record { free = at m 5 p; fresh = old.fresh }

      split : (rest : List ℕ) × (here.freed ≡ p ∷ rest) × Chain (at m 5) (at m 5 p) rest
      split = chain_first (at m 5) here.freed p pl.free h

      rest : List ℕ
      rest = split.0

      chain : Chain (at m 5) (at m 5 p) rest
      chain = split.2

      p_freed : In p here.freed
      p_freed = rw split.1 (Memᴰ.head refl)

      absent : In p here.ids → ⊥
      absent k = distinct_parts here.ids here.freed (all_once pl) p k p_freed

      below : p < pool
      below = freed_below pl h

      together : (here.ids ++ p ∷ []) ++ rest ≡ here.ids ++ here.freed
      together = append_assoc here.ids (p ∷ []) rest ∙ ap (λ l. here.ids ++ l) (sym split.1)

      apart : Distinct ((here.ids ++ p ∷ []) ++ rest)
      apart = rw together (all_once pl)

      small : (i : ℕ) → In i ((here.ids ++ p ∷ []) ++ rest) → i < old.fresh
      small i k = pl.below i (rw together at k)

      count : length (here.ids ++ p ∷ []) + length rest ≡ old.fresh
      count = omega (arith, length-append here.ids (p ∷ []), ap length split.1, pl.count)

  -- there is none, and a place that was never used is
  module _ (none : old.free ≡ invalid) where
    no_freed : here.freed ≡ []
    no_freed = chain_empty (at m 5) here.freed old.free (freed_valid pl) pl.free none

    pub stands_fresh : old.fresh < pool
        → Extends n pool (put m old.fresh a) (set w old.fresh a.weight) (record { free = old.free; fresh = old.fresh + 1 }) (g ++ a ∷ []) here.ids
    stands_fresh below = stands_put p absent below state [] (put_placed pl p absent below a tail_in head_in state [] none apart small count (omega arith))
      where
        p : ℕ
        p = old.fresh

        state : Pool
        state = record { free = old.free; fresh = p + 1 }

        absent : In p here.ids → ⊥
        absent k = omega (arith, pl.below p (Memᴰ.append_left here.freed k))

        apart : Distinct ((here.ids ++ p ∷ []) ++ [])
        apart =
            rw append-nil
            (distinct_insert here.ids [] p (λ k. absent (rw append-nil at k)) (rw (append-nil here.ids) (once pl)))

        small : (i : ℕ) → In i ((here.ids ++ p ∷ []) ++ []) → i < p + 1
        small i k =
            elim (Memᴰ.append_cases here.ids (rw append-nil at k)) [
              | inl left ↦ omega (arith, pl.below i (Memᴰ.append_left here.freed left))
              | inr right ↦ omega (arith, Memᴰ.eq_of_singleton right)
            ]

        count : length (here.ids ++ p ∷ []) + 0 ≡ p + 1
        count = omega (arith, length-append here.ids (p ∷ []), ap length no_freed, pl.count)

    -- no place is left
    pub pool_full : pool ≤ old.fresh → pool < length (g ++ a ∷ [])
    pool_full h =
        omega (arith, length-append g (a ∷ []), ap length here.arcs, length-map here.ids (arc_at m w), ap length no_freed, pl.count)
