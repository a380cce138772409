-- The first arc of the same ends, found in its tail's list, is the one that `add_or_reduce` reduces.
use mathlib.Core.Path.{◌≡◌, refl, sym, ap, ◌∙◌}
use mathlib.Core.Bool.{Bool, true, false, ◌&&◌, true≢false, false≢true}
use mathlib.Core.List.Memᴰ
use mathlib.Core.List.{List, [], ◌∷◌, ◌++◌, map, append-nil}
use Prim.Native.Nat.{ℕ, ◌+◌, ◌*◌, ◌≤◌, ◌<◌}
use native.Mathlib.Omega.{arith}
use lib.Dec.{eqb}
use lib.ListN.{length, set, get_or, length-set}
use lib.Seq.{get_or-set_same, get_or-set_other}
use borrow.Author.Tests.{le-leb, lt-leb}
use Rattle.rules.specs.Numbers.{invalid}
use Rattle.rules.specs.Lists.{In, any, keep}
use Rattle.rules.specs.Graph.{Arc, joins, reduce, add_or_reduce}
use Rattle.rules.proofs.Cases.{on_test}
use Rattle.rules.proofs.Arcs.{same_arc, joined_ends}
use Rattle.rules.proofs.Lists.{keep_same, map_same, Distinct}
use Rattle.graph.specs.declared.preparation_graph.Pool.{Pool}
use Rattle.lists.specs.Memory.{Memory, at, arc_at, ends_at}
use Rattle.graph.specs.Stands.{Placed, Stands, Extends}
use Rattle.lists.specs.Steps.{set_at}
use Rattle.lists.specs.Walks.{found}
use Rattle.graph.specs.Promises.{Reduces}
use Rattle.lists.proofs.Chains.{Valid, chain_same}
use Rattle.lists.proofs.Stores.{at_same, at_other}
use Rattle.graph.proofs.Sides.{listed_same}
use Rattle.graph.proofs.Places.{valid, once, place_below}

-- a search among those that pass is a search for what passes both
pub found_kept : (p q : ℕ → Bool) (l : List ℕ) → found p (keep q l) ≡ found (λ i. q i && p i) l
unfolding found keep
found_kept p q [] = refl
found_kept p q (i ∷ l) =
    on_test (q i)
    (λ t.
    on_test (p i)
    (λ u. rw (t, u, keep, found) refl)
    (λ u. rw (t, u, keep, found) (found_kept p q l)))
    (λ t. rw (t, keep, found) (found_kept p q l))

pub found_in : (p : ℕ → Bool) (l : List ℕ) → (found p l ≡ invalid → ⊥) → In (found p l) l × (p (found p l) ≡ true)
unfolding found
found_in p [] h = absurd (h refl)
found_in p (i ∷ l) h =
    on_test (p i)
    (λ t. rw (t, found) (Memᴰ.head refl, t))
    (λ t. rw (t, found) (let r = found_in p l (rw (t, found) at h) in (Memᴰ.tail r.0, r.1)))

module _ (s : Arc) (f : ℕ → Arc) where
  -- none joins: the arc is to come
  pub none_joins : (l : List ℕ) → Valid l → found (λ i. joins s (f i)) l ≡ invalid
      → (any (joins s) (map f l) ≡ false) × (add_or_reduce s (map f l) ≡ map f l ++ s ∷ [])
  unfolding any add_or_reduce found
  none_joins [] v e = (refl, refl)
  none_joins (i ∷ l) v e =
      on_test (joins s (f i))
      (λ t. absurd (v i (Memᴰ.head refl) (rw (t, found) at e)))
      (λ t.
      let r = none_joins l (λ j k. v j (Memᴰ.tail k)) (rw (t, found) at e) in
      rw (t, add_or_reduce) (r.0, ap (λ k. f i ∷ k) r.1))

  -- one joins: the first that does is reduced, in its place
  pub one_joins : (f' : ℕ → Arc) (l : List ℕ) → Distinct l → (found (λ i. joins s (f i)) l ≡ invalid → ⊥)
      → f' (found (λ i. joins s (f i)) l) ≡ reduce s (f (found (λ i. joins s (f i)) l))
      → ((i : ℕ) → In i l → (i ≡ found (λ i. joins s (f i)) l → ⊥) → f' i ≡ f i)
      → (any (joins s) (map f l) ≡ true) × (add_or_reduce s (map f l) ≡ map f' l)
  unfolding any add_or_reduce found
  one_joins f' [] d h new same = absurd (h refl)
  one_joins f' (i ∷ l) d h new same =
      on_test (joins s (f i))
      (λ t.
      let new' : f' i ≡ reduce s (f i) = rw (t, found) at new in
      let same' : (j : ℕ) → In j (i ∷ l) → (j ≡ i → ⊥) → f' j ≡ f j = rw (t, found) at same in
      rw (t, add_or_reduce) (
        refl,
        λ k. sym new' k ∷ map_same f f' l (λ j m. sym (same' j (Memᴰ.tail m) (λ e. d.0 (rw e at m)))) k,
      ))
      (λ t.
      let h' : found (λ i. joins s (f i)) l ≡ invalid → ⊥ = rw (t, found) at h in
      let same' : (j : ℕ) → In j (i ∷ l) → (j ≡ found (λ i. joins s (f i)) l → ⊥) → f' j ≡ f j = rw (t, found) at same in
      let r = one_joins f' l d.1 h' (rw (t, found) at new) (λ j m. same' j (Memᴰ.tail m)) in
      let here : f' i ≡ f i = same' i (Memᴰ.head refl) (λ e. d.0 (rw e (found_in (λ i. joins s (f i)) l h').0)) in
      rw (t, add_or_reduce) (r.0, λ k. sym here k ∷ r.1 k))

-- no place came or went
in_place : {n pool : ℕ} {m : Memory} {w : List ℕ} {state : Pool} {g : List Arc} (x : Stands n pool m w state g) → Extends n pool m w state g x.ids
in_place x = record { stands = x; more = []; same_places = sym (append-nil x.ids) }

-- a centre is no link and no end
pub placed_centre : {n pool : ℕ} {m : Memory} {state : Pool} {ids freed : List ℕ} (i x : ℕ) → Placed n pool m state ids freed → Placed n pool (set_at m 2 i x) state ids freed
placed_centre {n} {pool} {m} {state} {ids} {freed} i x here = record {
  listed =
      λ s v two inside.
      rw (keep_same (ends_at (set_at m 2 i x) s v) (ends_at m s v) ids (λ j _. ap (λ y. eqb y v) (kept s j (omega arith) (omega arith))))
      (listed_same m (set_at m 2 i x) s v _ (λ j _. kept (3 + s) j (omega arith) (omega arith)) refl refl (here.listed s v two inside));
  ends = λ s j two k. rw (kept s j (omega arith) (omega arith)) (here.ends s j two k);
  free = chain_same (at m 5) (at (set_at m 2 i x) 5) freed state.free (λ j _. kept 5 j (omega arith) (omega arith)) here.free;
  apart = here.apart;
  below = here.below;
  count = here.count;
  within = here.within;
  numbered = here.numbered;
  arcs_room = rw length-set here.arcs_room;
  nodes_room = here.nodes_room;
}
  where
    kept : (k j : ℕ) → k < 6 → (k ≡ 2 → ⊥) → at (set_at m 2 i x) k j ≡ at m k j
    kept k j h d = at_other m 2 i x j k (omega arith) h (λ e. d e.1)

module _ {n pool : ℕ} {m : Memory} {w : List ℕ} {state : Pool} {g : List Arc} (here : Stands n pool m w state g) (s : Arc) where
  -- the place that a search of the tail's list finds
  abbrev pub place : ℕ
  place = found (λ i. eqb (at m 1 i) s.head) (keep (ends_at m 0 s.tail) here.ids)

  place_joins : place ≡ found (λ i. joins s (arc_at m w i)) here.ids
  unfolding joins
  place_joins = found_kept (λ i. eqb (at m 1 i) s.head) (ends_at m 0 s.tail) here.ids

  none_here : place ≡ invalid → (any (joins s) g ≡ false) × (add_or_reduce s g ≡ g ++ s ∷ [])
  none_here e = rw here.arcs (none_joins s (arc_at m w) here.ids (valid here.placed) (sym place_joins ∙ e))

  pub reduces_none : place ≡ invalid → Reduces n pool m w m w state here.ids s g false
  reduces_none e = record {
    found = (none_here e).0;
    reduced = λ t. absurd (false≢true t);
    added = λ _. (none_here e).1;
    same = λ _. record { memory_same = refl; weights_same = refl };
  }

  reduces_one : {m' : Memory} {w' : List ℕ} → any (joins s) g ≡ true → Extends n pool m' w' state (add_or_reduce s g) here.ids → Reduces n pool m w m' w' state here.ids s g true
  reduces_one e there = record {
    found = e;
    reduced = λ _. there;
    added = λ t. absurd (true≢false t);
    same = λ t. absurd (true≢false t);
  }

  module _ (some : place ≡ invalid → ⊥) where
    found_here : In place here.ids × (joins s (arc_at m w place) ≡ true)
    found_here =
        rw place_joins (found_in (λ i. joins s (arc_at m w i)) here.ids (λ e. some (place_joins ∙ e)))

    pub place_room : (6 * place + 6 ≤ length m.arcs) × (place < length w)
    place_room =
        let b = place_below here.placed place found_here.0 in
        (omega (arith, b, here.placed.arcs_room), omega (arith, b, here.weights_room))

    -- the arcs after, where the place holds the reduced arc
    after_reduce : (f : ℕ → Arc) → f place ≡ reduce s (arc_at m w place) → ((i : ℕ) → (i ≡ place → ⊥) → f i ≡ arc_at m w i)
        → (any (joins s) g ≡ true) × (add_or_reduce s g ≡ map f here.ids)
    after_reduce f new same =
        rw here.arcs
        (one_joins s (arc_at m w) f here.ids (once here.placed) (λ e. some (place_joins ∙ e)) (rw place_joins at new)
        (λ i _ d. same i (λ e. d (e ∙ place_joins))))

    -- it weighs no more, and is kept
    pub reduces_not : get_or w place 0 ≤ s.weight → Reduces n pool m w m w state here.ids s g true
    unfolding reduce
    reduces_not h =
        let r = after_reduce (arc_at m w) (rw (le-leb (get_or w place 0) s.weight h, reduce) refl) (λ i d. refl) in
        reduces_one r.0
        (in_place (record { ids = here.ids; freed = here.freed; placed = here.placed; arcs = r.1; weights_room = here.weights_room }))

    -- it is heavier, and takes the weight and the centre
    pub reduces_it : s.weight < get_or w place 0 → Reduces n pool m w (set_at m 2 place s.centre) (set w place s.weight) state here.ids s g true
    unfolding reduce
    reduces_it h =
        let m' = set_at m 2 place s.centre in
        let w' = set w place s.weight in
        let r = after_reduce (arc_at m' w') (rw (lt-leb (get_or w place 0) s.weight h, reduce) now) others in
        reduces_one r.0
        (in_place
        (record {
          ids = here.ids;
          freed = here.freed;
          placed = placed_centre place s.centre here.placed;
          arcs = r.1;
          weights_room = rw length-set here.weights_room;
        }))
      where
        kept : (k i : ℕ) → k < 2 → at (set_at m 2 place s.centre) k i ≡ at m k i
        kept k i h = at_other m 2 place s.centre i k (omega arith) (omega arith) (λ e. omega (arith, e.1))

        ends : (at m 0 place ≡ s.tail) × (at m 1 place ≡ s.head)
        ends = joined_ends s (arc_at m w place) found_here.1

        now : arc_at (set_at m 2 place s.centre) (set w place s.weight) place ≡ s
        now =
            same_arc (kept 0 place (omega arith) ∙ ends.0) (kept 1 place (omega arith) ∙ ends.1)
            (get_or-set_same w place s.weight 0 place_room.1) (at_same m 2 place s.centre (omega (arith, place_room.0)))

        others : (i : ℕ) → (i ≡ place → ⊥) → arc_at (set_at m 2 place s.centre) (set w place s.weight) i ≡ arc_at m w i
        others i d =
            same_arc (kept 0 i (omega arith)) (kept 1 i (omega arith)) (get_or-set_other w place i s.weight 0 d)
            (at_other m 2 place s.centre i 2 (omega arith) (omega arith) (λ e. d e.0))
