-- Whoever walks along a node's list may go on after an arc was added or reduced that does not end there: the list is at the same
-- places, in the same order, and holds the same arcs.
use mathlib.Core.Path.{◌≡◌, refl, sym, ap, ◌∙◌}
use mathlib.Core.Bool.{Bool, true, false}
use mathlib.Core.List.{List, [], ◌∷◌, ◌++◌, map, cons-eq-cons}
use Prim.Native.Nat.{ℕ, zero, suc, ◌<◌}
use native.Mathlib.Omega.{arith}
use lib.Dec.{eqb, leb}
use lib.ListN.{length}
use borrow.Author.Tests.{ne_eqb}
use Rattle.rules.specs.Lists.{keep}
use Rattle.rules.specs.Graph.{Arc, leaves, enters, outs, ins, joins, reduce, add_or_reduce}
use Rattle.rules.proofs.Cases.{on_test}
use Rattle.rules.proofs.Arcs.{joined_ends}
use Rattle.rules.proofs.Lists.{keep_same}
use Rattle.lists.specs.Memory.{Memory, arc_at, ends_at, touches}
use Rattle.graph.specs.declared.preparation_graph.Pool.{Pool}
use Rattle.graph.specs.Stands.{Stands, Extends, Unmoved}
use Rattle.graph.proofs.Places.{on_sides}
use Rattle.graph.proofs.Reading.{touched}

-- keeping by what is at a place, before and after
module _ (p : Arc → Bool) (f f' : ℕ → Arc) (more : List ℕ) where
  kept_same : (l : List ℕ) → map f' (l ++ more) ≡ map f l → keep (λ i. p (f' i)) (l ++ more) ≡ keep (λ i. p (f i)) l
  unfolding keep
  kept_same [] e = none more e
    where
      none : (k : List ℕ) → map f' k ≡ [] → keep (λ i. p (f' i)) k ≡ []
      none [] e = refl
      none (j ∷ k) e = absurd (omega (arith, ap length e))
  kept_same (i ∷ l) e =
      let here : p (f' i) ≡ p (f i) = ap p (cons-eq-cons.0 e).0 in
      let rest = kept_same l (cons-eq-cons.0 e).1 in
      on_test (p (f i))
      (λ t. rw (here, t, keep) (ap (λ k. i ∷ k) rest))
      (λ t. rw (here, t, keep) rest)

  module _ (a : Arc) (off : p a ≡ false) (blind : (b : Arc) → joins a b ≡ true → (p b ≡ false) × (p (reduce a b) ≡ false)) where
    kept_after : (l : List ℕ) → map f' (l ++ more) ≡ add_or_reduce a (map f l) → keep (λ i. p (f' i)) (l ++ more) ≡ keep (λ i. p (f i)) l
    unfolding keep add_or_reduce
    kept_after [] e = one more e
      where
        one : (k : List ℕ) → map f' k ≡ a ∷ [] → keep (λ i. p (f' i)) k ≡ []
        one [] e = refl
        one (j ∷ []) e = rw (ap p (cons-eq-cons.0 e).0 ∙ off, keep)
        one (j ∷ (j' ∷ k)) e = absurd (omega (arith, ap length e))
    kept_after (i ∷ l) e =
        on_test (joins a (f i))
        (λ t.
        let e' : f' i ∷ map f' (l ++ more) ≡ reduce a (f i) ∷ map f l = rw (t, add_or_reduce) at e in
        rw (ap p (cons-eq-cons.0 e').0 ∙ (blind (f i) t).1, (blind (f i) t).0, keep) (kept_same l (cons-eq-cons.0 e').1))
        (λ t.
        let e' : f' i ∷ map f' (l ++ more) ≡ f i ∷ add_or_reduce a (map f l) = rw (t, add_or_reduce) at e in
        let here : p (f' i) ≡ p (f i) = ap p (cons-eq-cons.0 e').0 in
        let rest = kept_after l (cons-eq-cons.0 e').1 in
        on_test (p (f i))
        (λ u. rw (here, u, keep) (ap (λ k. i ∷ k) rest))
        (λ u. rw (here, u, keep) rest))

same_touches : (s v : ℕ) (a b : Arc) → b.tail ≡ a.tail → b.head ≡ a.head → touches s v b ≡ touches s v a
unfolding touches leaves enters
same_touches zero v a b t h = ap (λ k. eqb k v) t
same_touches (suc s) v a b t h = ap (λ k. eqb k v) h

-- an arc that joins another touches what that touches
joined_touches : (s v : ℕ) (a b : Arc) → touches s v a ≡ false → joins a b ≡ true → (touches s v b ≡ false) × (touches s v (reduce a b) ≡ false)
unfolding reduce
joined_touches s v a b off j =
    let ends = joined_ends a b j in
    let same = same_touches s v a b ends.0 ends.1 ∙ off in
    (same, on_test (leb b.weight a.weight) (λ t. rw (t, reduce) same) (λ t. rw (t, reduce) off))

pub places_stay : {n pool : ℕ} {m m' : Memory} {w w' : List ℕ} {state state' : Pool} {g : List Arc} (a : Arc)
    (x : Stands n pool m w state g) (y : Extends n pool m' w' state' (add_or_reduce a g) x.ids) (s v : ℕ) → s < 2 → touches s v a ≡ false →
    keep (ends_at m' s v) y.stands.ids ≡ keep (ends_at m s v) x.ids
places_stay {m = m} {m'} {w} {w'} a x y s v two off =
    ap (keep (ends_at m' s v)) y.same_places ∙
    sym (keep_same (λ i. touches s v (arc_at m' w' i)) (ends_at m' s v) (x.ids ++ y.more) (λ i _. touched m' w' v i s two)) ∙
    kept_after (touches s v) (arc_at m w) (arc_at m' w') y.more a off (λ b j. joined_touches s v a b off j) x.ids
    (sym (ap (map (arc_at m' w')) y.same_places) ∙ sym y.stands.arcs ∙ ap (add_or_reduce a) x.arcs) ∙
    keep_same (λ i. touches s v (arc_at m w i)) (ends_at m s v) x.ids (λ i _. touched m w v i s two)

-- the arcs themselves: a graph's lists, whatever slices hold it
pub arcs_stay : (a : Arc) (g : List Arc) (s v : ℕ) → touches s v a ≡ false → keep (touches s v) (add_or_reduce a g) ≡ keep (touches s v) g
unfolding keep add_or_reduce
arcs_stay a [] s v off = rw (off, keep)
arcs_stay a (b ∷ g) s v off =
    on_test (joins a b)
    (λ t. let blind = joined_touches s v a b off t in rw (t, add_or_reduce, blind.1, blind.0, keep))
    (λ t.
    let rest = arcs_stay a g s v off in
    rw (t, add_or_reduce)
    (on_test (touches s v b)
    (λ u. rw (u, keep) (ap (λ k. b ∷ k) rest))
    (λ u. rw (u, keep) rest)))

pub outs_stay : (a : Arc) (g : List Arc) (v : ℕ) → (a.tail ≡ v → ⊥) → outs (add_or_reduce a g) v ≡ outs g v
unfolding outs touches leaves
outs_stay a g v off = arcs_stay a g 0 v (ne_eqb a.tail v off)

pub ins_stay : (a : Arc) (g : List Arc) (v : ℕ) → (a.head ≡ v → ⊥) → ins (add_or_reduce a g) v ≡ ins g v
unfolding ins touches enters
ins_stay a g v off = arcs_stay a g 1 v (ne_eqb a.head v off)

-- no end of a is v
off_sides : (a : Arc) (v : ℕ) → (a.tail ≡ v → ⊥) → (a.head ≡ v → ⊥) → (s : ℕ) → s < 2 → touches s v a ≡ false
unfolding touches leaves enters
off_sides a v p q = on_sides (λ s. touches s v a ≡ false) (ne_eqb a.tail v p) (ne_eqb a.head v q)

pub added_unmoved : {n pool : ℕ} {m m' : Memory} {w w' : List ℕ} {state state' : Pool} {g : List Arc} (a : Arc) (v : ℕ)
    (x : Stands n pool m w state g) (y : Extends n pool m' w' state' (add_or_reduce a g) x.ids) → (a.tail ≡ v → ⊥) → (a.head ≡ v → ⊥) →
    Unmoved v x y.stands
added_unmoved {g = g} a v x y p q =
    record {
      places = λ s two. places_stay a x y s v two (off_sides a v p q s two);
      arcs = λ s two. arcs_stay a g s v (off_sides a v p q s two);
    }

pub unmoved_refl : {n pool : ℕ} {m : Memory} {w : List ℕ} {state : Pool} {g : List Arc} (v : ℕ) (x : Stands n pool m w state g) → Unmoved v x x
unmoved_refl v x = record { places = λ s two. refl; arcs = λ s two. refl }

pub unmoved_trans : {n pool : ℕ} {m m' m'' : Memory} {w w' w'' : List ℕ} {state state' state'' : Pool} {g g' g'' : List Arc} {v : ℕ}
    {x : Stands n pool m w state g} {y : Stands n pool m' w' state' g'} {z : Stands n pool m'' w'' state'' g''} →
    Unmoved v x y → Unmoved v y z → Unmoved v x z
unmoved_trans p q =
    record {
      places = λ s two. q.places s two ∙ p.places s two;
      arcs = λ s two. q.arcs s two ∙ p.arcs s two;
    }
