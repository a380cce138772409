-- How the shape of a heap changes: a gap opens at the root, sinks, rises, and is filled.
use mathlib.Core.List.{List}
use mathlib.Core.Path.{◌≡◌, sym, ap, ◌∙◌}
use Prim.Native.Nat.{ℕ, zero, suc, ◌+◌, ◌*◌, ◌<◌, ◌≤◌}
use native.Mathlib.Decide.{ℕ_discrete}
use native.Mathlib.Omega.{arith}
use lib.ListN.{length, set, length-set}
use lib.Seq.{get_or-set_same, get_or-set_other}
use Rattle.rules.specs.Heap.{Item}
use Rattle.heap.specs.Shape.{parent, at, First, Ordered}
use Rattle.heap.specs.Gaps.{Gap, Above, Leads}
use Rattle.heap.proofs.Order.{first_refl, first_trans}

-- who is first of two places after a store, by where the store was
module _ (l : List Item) (i : ℕ) (x : Item) (inside : i < length l) where
  first_of_set : (y : Item) (k : ℕ) → (k ≡ i → First y x) → ((k ≡ i → ⊥) → First y (at l k)) → First y (at (set l i x) k)
  first_of_set y k same other = go (ℕ_discrete k i)
    where
      go : Dec (k ≡ i) → First y (at (set l i x) k)
      go (yes e) = rw (e, get_or-set_same l i x _ inside) (same e)
      go (no n) = rw (get_or-set_other l i k x _ n) (other n)

  after_set : (p k : ℕ) → (p ≡ k → ⊥) → (k ≡ i → First (at l p) x) → (p ≡ i → First x (at l k))
      → ((k ≡ i → ⊥) → (p ≡ i → ⊥) → First (at l p) (at l k)) → First (at (set l i x) p) (at (set l i x) k)
  after_set p k apart below above beside = go (ℕ_discrete p i)
    where
      go : Dec (p ≡ i) → First (at (set l i x) p) (at (set l i x) k)
      go (yes e) = rw (e, get_or-set_same l i x _ inside) (first_of_set x k (λ f. absurd (apart (e ∙ sym f))) (λ _. above e))
      go (no n) = rw (get_or-set_other l i p x _ n) (first_of_set (at l p) k below (λ m. beside m n))

-- the root may leave before all, as its parent may before each
pub root_first : (l : List Item) → Ordered l → (i : ℕ) → i < length l → First (at l 0) (at l i)
root_first l o i h = go i i (omega arith) h
  where
    up : (i : ℕ) → 0 < i → i < length l → First (at l 0) (at l (parent i)) → First (at l 0) (at l i)
    up i a h ih = first_trans (at l 0) (at l (parent i)) (at l i) ih (o.parent_first i a h)

    at_root : (i : ℕ) → i ≡ 0 → First (at l 0) (at l i)
    at_root i e = rw e (first_refl (at l 0))

    go : (fuel i : ℕ) → i ≤ fuel → i < length l → First (at l 0) (at l i)
    go zero i b h = at_root i (omega arith)
    go (suc fuel) i b h =
        elim (ℕ_discrete i 0) [ yes e ↦ at_root i e | no n ↦ up i (omega arith) h (go fuel (parent i) (omega arith) (omega arith)) ]

pub gap_at_root : (l : List Item) → Ordered l → 0 < length l → Gap l 0
gap_at_root l o h = record { inside = h; beside = λ j a b _ _. o.parent_first j a b; across = λ j a _ _. absurd (omega arith) }

-- where nothing is below, anything may stand
pub leaf : (x : Item) (l : List Item) (i : ℕ) → length l ≤ 2 * i + 1 → Above x l i
leaf x l i h = record { first = λ j a b e. absurd (omega arith) }

-- of the two children j and s of the item at i, j leads if it may leave before s, where there is an s
pub leads : (l : List Item) (i j s : ℕ) → parent j ≡ i → i < j → j < length l → j + s ≡ 4 * i + 3
    → (s < length l → First (at l j) (at l s)) → Leads l i j
leads l i j s e below inside both h = record {
  inside = inside;
  below = below;
  child = e;
  first = record {
    first = λ k a b f.
        elim (ℕ_discrete k j) [
          | yes g ↦ rw g (first_refl (at l j))
          | no n ↦ (let g : k ≡ s = omega arith in rw g (h (omega arith)))
        ];
  };
}

-- the leading child moves up into the gap
pub gap_sinks : (l : List Item) (i j : ℕ) → Gap l i → Leads l i j → Gap (set l i (at l j)) j
gap_sinks l i j g c = record {
  inside = rw length-set c.inside;
  beside = λ k a b m n.
      let b' : k < length l = rw length-set at b in
      after_set l i (at l j) g.inside (parent k) k (λ e. omega arith)
      (λ e. rw e (g.across j (omega arith) c.inside c.child))
      (λ e. c.first.first k a b' e)
      (λ p q. g.beside k a b' p q);
  across = λ k a b e.
      let b' : k < length l = rw length-set at b in
      after_set l i (at l j) g.inside (parent j) k (λ f. omega arith)
      (λ f. absurd (omega arith))
      (λ f. rw e at (g.beside k (omega arith) b' (λ f. omega arith) (λ f. omega arith)))
      (λ p q. absurd (q c.child));
}

-- the parent moves down into the gap, as x may leave before it
module _ (x : Item) (l : List Item) (i : ℕ) (g : Gap l i) (up : 0 < i) (h : First x (at l (parent i))) where
  -- what is below the parent, beside the gap
  beside_parent : (k : ℕ) → 0 < k → k < length l → parent k ≡ parent i → (k ≡ i → ⊥) → First (at l (parent i)) (at l k)
  beside_parent k a b e n = rw e at (g.beside k a b n (λ f. omega arith))

  pub gap_rises : Gap (set l i (at l (parent i))) (parent i)
  gap_rises = record {
    inside = rw length-set (omega (arith, g.inside));
    beside = λ k a b m n.
        let b' : k < length l = rw length-set at b in
        after_set l i (at l (parent i)) g.inside (parent k) k (λ e. omega arith)
        (λ e. absurd (n (ap parent e)))
        (λ e. g.across k up b' e)
        (λ p q. g.beside k a b' p q);
    across = λ k a b e.
        let b' : k < length l = rw length-set at b in
        let over : First (at l (parent (parent i))) (at l (parent i)) =
        g.beside (parent i) a (omega (arith, g.inside)) (λ f. omega arith) (λ f. omega arith) in
        after_set l i (at l (parent i)) g.inside (parent (parent i)) k (λ f. omega arith)
        (λ f. over)
        (λ f. absurd (omega arith))
        (λ p q. first_trans (at l (parent (parent i))) (at l (parent i)) (at l k) over (beside_parent k (omega arith) b' e p));
  }

  pub above_rises : Above x (set l i (at l (parent i))) (parent i)
  above_rises = record {
    first = λ k a b e.
        first_of_set l i (at l (parent i)) g.inside x k (λ f. h)
        (λ n. first_trans x (at l (parent i)) (at l k) h (beside_parent k a (rw length-set at b) e n));
  }

-- x is put into the gap
pub filled : (x : Item) (l : List Item) (i : ℕ) → Gap l i → Above x l i → (0 < i → First (at l (parent i)) x) → Ordered (set l i x)
filled x l i g above up = record {
  parent_first = λ k a b.
      let b' : k < length l = rw length-set at b in
      after_set l i x g.inside (parent k) k (λ e. omega arith)
      (λ e. rw e (up (omega arith)))
      (λ e. above.first k a b' e)
      (λ p q. g.beside k a b' p q);
}
