-- The graph that stands after the first arc of a node's list has left, and after all of them have.
use mathlib.Core.Path.{◌≡◌, refl, sym, ap, ◌∙◌}
use mathlib.Core.Logic.{inl, inr}
use mathlib.Core.Bool.{Bool, true, false, not, ◌&&◌, ◌||◌, true≢false}
use mathlib.Core.List.Memᴰ
use mathlib.Core.List.{List, [], ◌∷◌, map}
use Prim.Native.Nat.{ℕ, ◌+◌, ◌-◌, ◌<◌}
use native.Mathlib.Omega.{arith}
use lib.ListN.{length, length-map}
use borrow.Author.Tests.{eqb-true, eq-eqb}
use Rattle.rules.specs.Numbers.{invalid}
use Rattle.rules.specs.Lists.{In, keep}
use Rattle.rules.specs.Graph.{Arc, leaves, enters, disconnect}
use Rattle.rules.proofs.Cases.{on_test}
use Rattle.rules.proofs.Arcs.{same_arc}
use Rattle.rules.proofs.Members.{in_keep, keep_in}
use Rattle.rules.proofs.Lists.{keep_same, keep_all, keep_both, map_same, Distinct, to_distinct, distinct_parts, distinct_moved, in_moved, without, other_same, other_true, without_absent, without_length, in_without}
use Rattle.graph.specs.declared.preparation_graph.Pool.{Pool}
use Rattle.lists.specs.Memory.{Memory, at, first, arc_at, ends_at, touches}
use Rattle.graph.specs.Stands.{Placed, Stands}
use Rattle.lists.specs.Steps.{set_at, unlink, remove}
use Rattle.lists.specs.Walks.{Walk, before, steps}
use Rattle.graph.specs.Promises.{drop_first, untouched, HoldsSome, Drops, Clears, state_of}
use Rattle.lists.specs.Promises.{Room, Open}
use Rattle.lists.proofs.Chains.{chain_same, before_in}
use Rattle.graph.proofs.Places.{all_once, once, roomy, removed_sides, removed_same, removed_free, removed_freed, removed_arcs_long, removed_nodes_long}
use Rattle.graph.proofs.Reading.{touched, own_arcs, own_walk, reads_list}
use Rattle.lists.proofs.Walks.{walk_on, walk_end, walk_steps, reads_on}

module _ (p : Arc → Bool) where
  -- what is dropped would not have been kept
  pub keep_dropped : (g : List Arc) → keep (λ a. not (p a)) (drop_first p g) ≡ keep (λ a. not (p a)) g
  unfolding drop_first keep
  keep_dropped [] = refl
  keep_dropped (a ∷ g) =
      on_test (p a)
      (λ t. rw (t, drop_first, keep) refl)
      (λ t. rw (t, drop_first, keep) (rw t (ap (λ k. a ∷ k) (keep_dropped g))))

  -- where the places that pass begin with i, the first arc that passes is at i
  pub dropped_at : (f : ℕ → Arc) (i : ℕ) (rest ids : List ℕ) → Distinct ids → keep (λ j. p (f j)) ids ≡ i ∷ rest
      → drop_first p (map f ids) ≡ map f (without i ids)
  unfolding drop_first keep
  dropped_at f i rest [] d e = refl
  dropped_at f i rest (j ∷ ids) d e =
      on_test (p (f j))
      (λ t.
      let e' : j ∷ keep (λ j. p (f j)) ids ≡ i ∷ rest = rw (t, keep) at e in
      let same : j ≡ i = cc in
      rw (t, drop_first, other_same i j same, keep)
      (ap (map f) (sym (without_absent i ids (λ k. d.0 (rw (← same) at k))))))
      (λ t.
      let e' : keep (λ j. p (f j)) ids ≡ i ∷ rest = rw (t, keep) at e in
      let passes = (in_keep (λ j. p (f j)) i ids (rw e' (Memᴰ.head refl))).1 in
      let differ : j ≡ i → ⊥ = λ same. true≢false (sym passes ∙ ap (λ k. p (f k)) (sym same) ∙ t) in
      rw (t, drop_first, other_true i j differ, keep) (ap (λ k. f j ∷ k) (dropped_at f i rest ids d.1 e')))

-- where none passes, none is dropped
pub keep_none_left : (p : Arc → Bool) (g : List Arc) → keep p g ≡ [] → keep (λ a. not (p a)) g ≡ g
keep_none_left p g e =
    keep_all (λ a. not (p a)) g
    (λ a k.
    on_test (p a)
    (λ t. absurd (Memᴰ.not-nil (rw e at (keep_in p a g k t))))
    (λ t. rw t refl))

-- what is left of both sides is what the node's arcs are not
pub disconnected : (g : List Arc) (v : ℕ) → untouched 1 v (untouched 0 v g) ≡ disconnect g v
unfolding untouched touches disconnect
disconnected g v =
    keep_both (λ a. not (enters v a)) (λ a. not (leaves v a)) g ∙ keep_same _ _ g (λ a k. nor (leaves v a) (enters v a))
  where
    nor : (a b : Bool) → (not a && not b) ≡ not (a || b)
    nor true b = refl
    nor false b = refl

-- The first arc of the list of v on side s leaves.
module _ {n pool : ℕ} {m : Memory} {w : List ℕ} {free fresh : ℕ} {g : List Arc}
    (here : Stands n pool m w (record { free = free; fresh = fresh }) g) (s v : ℕ) (two : s < 2) (inside : v < n)
    (some : first m s v ≡ invalid → ⊥) where
  abbrev p : ℕ
  p = first m s v

  abbrev far : ℕ
  far = at m (1 - s) p

  pl : Placed n pool m (record { free = free; fresh = fresh }) here.ids here.freed
  pl = here.placed

  split : (rest : List ℕ) × (keep (ends_at m s v) here.ids ≡ p ∷ rest)
  split = let r = walk_on (own_walk here s v two inside) some in (r.0, r.1)

  p_kept : In p here.ids × (ends_at m s v p ≡ true)
  p_kept = in_keep (ends_at m s v) p here.ids (rw split.1 (Memᴰ.head refl))

  pub far_inside : far < n
  far_inside = pl.ends (1 - s) p (omega arith) p_kept.0

  -- the other list of its arc, where what stands before it is looked for
  abbrev beyond : List ℕ
  beyond = keep (ends_at m (1 - s) far) here.ids

  pub in_beyond : In p beyond
  in_beyond = keep_in (ends_at m (1 - s) far) p here.ids p_kept.0 (eq-eqb far far refl)

  pub beyond_walk : Walk m.arcs (3 + (1 - s)) (first m (1 - s) far) beyond
  beyond_walk = own_walk here (1 - s) far (omega arith) far_inside

  pub place_room : Room m p
  place_room = roomy pl p p_kept.0

  is_first : invalid ≡ before invalid p (keep (ends_at m s v) here.ids)
  unfolding before
  is_first = rw (split.1, eq-eqb p p refl, before) refl

  module _ (b : ℕ) (b_is : b ≡ before invalid p beyond) where
    pub far_open : Open m (1 - s) far b
    far_open = record {
      side = omega arith;
      node = omega (arith, far_inside, pl.nodes_room);
      place =
          λ h.
          elim (Memᴰ.cases_cons (before_in invalid p beyond)) [
            | inl mark ↦ absurd (h (b_is ∙ mark))
            | inr live ↦ rw b_is (roomy pl _ (in_keep (ends_at m (1 - s) far) _ here.ids live).0)
          ];
    }

    near : at m s p ≡ v
    near = eqb-true (at m s p) v p_kept.1

    abbrev now : Memory
    now = set_at (unlink (unlink m (1 - s) far p b) s v p invalid) 5 p free

    same : (k i : ℕ) → k < 3 → at now k i ≡ at m k i
    same = removed_same pl s two p p_kept.0 v inside near b b_is invalid is_first free

    ids_placed : Placed n pool now (record { free = p; fresh = fresh }) (without p here.ids) (p ∷ here.freed)
    ids_placed = record {
      listed = λ q u h. removed_sides pl s two p p_kept.0 v inside near b b_is invalid is_first free q h u;
      ends = λ q i h k. rw (same q i (omega arith)) (pl.ends q i h (in_without p i here.ids k).0);
      free = (
        refl,
        rw (removed_free pl s two p p_kept.0 v inside near b b_is invalid is_first free)
            (chain_same (at m 5) (at now 5) here.freed free
            (λ i k.
            removed_freed pl s two p p_kept.0 v inside near b b_is invalid is_first free i
            (λ e. distinct_parts here.ids here.freed (all_once pl) p p_kept.0 (rw e at k)))
            pl.free),
      );
      apart = to_distinct _ (distinct_moved p here.ids here.freed p_kept.0 (all_once pl));
      below = λ i k. pl.below i (in_moved p i here.ids here.freed p_kept.0 k);
      count = omega (arith, without_length p here.ids (once pl) p_kept.0, pl.count);
      within = pl.within;
      numbered = pl.numbered;
      arcs_room = rw (removed_arcs_long pl s two p p_kept.0 v inside near b b_is invalid is_first free) pl.arcs_room;
      nodes_room = rw (removed_nodes_long pl s two p p_kept.0 v inside near b b_is invalid is_first free) pl.nodes_room;
    }

    pub stands_removed : Stands n pool (remove m s v p b free) w (record { free = p; fresh = fresh }) (drop_first (touches s v) g)
    unfolding remove
    stands_removed = record {
      ids = without p here.ids;
      freed = p ∷ here.freed;
      placed = ids_placed;
      arcs =
          ap (drop_first (touches s v)) here.arcs ∙
          dropped_at (touches s v) (arc_at m w) p split.0 here.ids (once pl)
          (keep_same _ _ here.ids (λ i k. touched m w v i s two) ∙ split.1) ∙
          map_same (arc_at m w) (arc_at now w) (without p here.ids)
          (λ i k. sym (same_arc (same 0 i (omega arith)) (same 1 i (omega arith)) refl (same 2 i (omega arith))));
      weights_room = here.weights_room;
    }

-- Nothing is in the list: nothing is to leave.
pub stands_untouched : {n pool : ℕ} {m : Memory} {w : List ℕ} {state : Pool} {g : List Arc} → Stands n pool m w state g
    → (s v : ℕ) → s < 2 → v < n → first m s v ≡ invalid → untouched s v g ≡ g
unfolding untouched
stands_untouched {n} {pool} {m} {w} {state} {g} here s v two inside e =
    keep_none_left (touches s v) g
    (own_arcs here s v two inside ∙ ap (map (arc_at m w)) (walk_end (own_walk here s v two inside) e))

-- One turn brings the end of the list nearer.
module _ (p : Arc → Bool) where
  keep_fewer : (g : List Arc) {a : Arc} {rest : List Arc} → keep p g ≡ a ∷ rest → keep p (drop_first p g) ≡ rest
  unfolding keep drop_first
  keep_fewer [] e = cc
  keep_fewer (b ∷ g) e =
      on_test (p b)
      (λ t. let e' = rw (t, keep) at e in rw (t, drop_first) (cc))
      (λ t. rw (t, drop_first, keep) (rw t (keep_fewer g (rw (t, keep) at e))))

module _ {n pool : ℕ} {w : List ℕ} (s v : ℕ) (two : s < 2) (inside : v < n) where
  -- what is left of a list is as many places as arcs
  left : {m : Memory} {state : Pool} {g : List Arc} → Stands n pool m w state g
      → steps (at m (3 + s)) (length m.arcs) (first m s v) ≡ length (keep (touches s v) g)
  left {m} here =
      walk_steps (own_walk here s v two inside) ∙
      sym (ap length (own_arcs here s v two inside) ∙ length-map (keep (ends_at m s v) here.ids) (arc_at m w))

  pub removed_nearer : {m m' : Memory} {state state' : Pool} {g : List Arc} → Stands n pool m w state g
      → Stands n pool m' w state' (drop_first (touches s v) g) → (first m s v ≡ invalid → ⊥)
      → steps (at m' (3 + s)) (length m'.arcs) (first m' s v) < steps (at m (3 + s)) (length m.arcs) (first m s v)
  removed_nearer {g = g} here there some =
      let r = reads_on (reads_list here s v two inside) some in
      omega (arith, left here, left there, ap length (keep_fewer (touches s v) g r.1), ap length r.1)

-- some turns later: fewer arcs are in the list, and the same stand beside it
abbrev pub Fewer : Memory → Memory → ℕ → ℕ → ℕ → ℕ → Type 0
Fewer m m' free free' s v =
    (n pool fresh : ℕ) (w : List ℕ) (g : List Arc) → Stands n pool m w (state_of free fresh) g → v < n →
    (h : List Arc) × Stands n pool m' w (state_of free' fresh) h × (untouched s v h ≡ untouched s v g)

module _ {m : Memory} {free : ℕ} (s v : ℕ) where
  pub fewer_not : Fewer m m free free s v
  fewer_not n pool fresh w g here inside = (g, here, refl)

  module _ {m' : Memory} {free' : ℕ} (fewer : Fewer m m' free free' s v) where
    pub fewer_on : {m'' : Memory} {free'' : ℕ} → Drops m' m'' free' free'' s v → Fewer m m'' free free'' s v
    unfolding untouched
    fewer_on drops n pool fresh w g here inside =
        let f = fewer n pool fresh w g here inside in
        (drop_first (touches s v) f.0, drops n pool fresh w f.0 f.1 inside, keep_dropped (touches s v) f.0 ∙ f.2)

    pub fewer_all : s < 2 → first m' s v ≡ invalid → Clears m m' free free' s v
    fewer_all two none n pool fresh w g here inside =
        let f = fewer n pool fresh w g here inside in
        rw (sym f.2 ∙ stands_untouched f.1 s v two inside none) f.1

    pub fewer_holds : HoldsSome m free v → HoldsSome m' free' v
    fewer_holds k =
        let f = fewer k.nodes k.pool k.fresh k.weights k.graph k.stands k.inside in
        record {
          nodes = k.nodes;
          pool = k.pool;
          fresh = k.fresh;
          weights = k.weights;
          graph = f.0;
          stands = f.1;
          inside = k.inside;
        }
