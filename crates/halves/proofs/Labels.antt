-- What a store at one node does to what the labels stand for.
use mathlib.Core.Bool.{Bool, true, false}
use mathlib.Core.List.{List}
use mathlib.Core.Logic.{◌⊎◌, inl, inr}
use mathlib.Core.Path.{◌≡◌, refl, sym, ap, ◌∙◌, fun_ext}
use Prim.Native.Nat.{ℕ, ◌+◌, ◌*◌, ◌<◌, ◌≤◌}
use native.Mathlib.Decide.{ℕ_discrete, dec_lt}
use native.Mathlib.Omega.{arith}
use lib.Dec.{ltb}
use lib.ListN.{length, get_or, set, length-set}
use lib.Seq.{get_or-set_same, get_or-set_other}
use borrow.Author.Tests.{ltb-true, ltb-false, lt-ltb, le-ltb}
use Rattle.rules.specs.Lists.{update}
use Rattle.rules.specs.Query.{Label, no_label, lower, offer, mark_settled}
use Rattle.rules.proofs.Cases.{on_test}
use Rattle.rules.proofs.Heaps.{update_same, update_other}
use Rattle.heap.specs.Items.{pair, items, sorted}
use Rattle.heap.specs.Shape.{Ordered}
use Rattle.heap.specs.Promises.{Pushed}
use Rattle.halves.specs.Labels.{label, stamp, Keeps, seen, label_at, settled_at, half, kept_stamp, put_label, put_settled}
use Rattle.halves.specs.Promises.{Offers}

-- Only the four numbers of v differ.
pub record Beside (v : ℕ) (labels labels' : List ℕ) : Type 0 where
  pub outside : (i : ℕ) → (i < 4 * v) ⊎ (4 * v + 3 < i) → get_or labels' i 0 ≡ get_or labels i 0

beside_set : {v : ℕ} {labels labels' : List ℕ} → Beside v labels labels' → (k x : ℕ) → 4 * v ≤ k → k ≤ 4 * v + 3 → Beside v labels (set labels' k x)
beside_set {v} {labels} {labels'} b k x low high =
    record {
      outside = λ i o. get_or-set_other labels' k i x 0 (λ e. elim o [ inl l ↦ omega arith | inr g ↦ omega arith ]) ∙ b.outside i o;
    }

-- what a node other than v is seen to have stays
module _ {v : ℕ} {labels labels' : List ℕ} (b : Beside v labels labels') (k : ℕ) (other : k ≡ v → ⊥) where
  place : (j : ℕ) → j ≤ 3 → (4 * k + j < 4 * v) ⊎ (4 * v + 3 < 4 * k + j)
  place j small = elim (dec_lt k v) [ yes l ↦ inl (omega arith) | no g ↦ inr (omega arith) ]

  place_0 : (4 * k < 4 * v) ⊎ (4 * v + 3 < 4 * k)
  place_0 = elim (dec_lt k v) [ yes l ↦ inl (omega arith) | no g ↦ inr (omega arith) ]

  beside_stamp : stamp labels' k ≡ stamp labels k
  beside_stamp = b.outside (4 * k + 3) (place 3 (omega arith))

  beside_seen : (base : ℕ) → seen labels' base k ≡ seen labels base k
  unfolding seen
  beside_seen base =
      let s = beside_stamp in
      let w = b.outside (4 * k) place_0 in
      let p = b.outside (4 * k + 1) (place 1 (omega arith)) in
      let e = b.outside (4 * k + 2) (place 2 (omega arith)) in
      λ i. elim (ltb (s i) base) as (λ _. Label) [ true ↦ no_label | false ↦ label (w i) (p i) (e i) ]

pub label_in : (n base v : ℕ) (labels : List ℕ) → v < n → label_at n base labels v ≡ seen labels base v
unfolding label_at
label_in n base v labels below = rw (lt-ltb v n below, label_at)

pub settled_in : (n base v : ℕ) (labels : List ℕ) → v < n → settled_at n base labels v ≡ ltb base (stamp labels v)
unfolding settled_at
settled_in n base v labels below = rw (lt-ltb v n below, settled_at)

module _ (n base v : ℕ) (below : v < n) {labels labels' : List ℕ} (b : Beside v labels labels') where
  pub labels_updated : label_at n base labels' ≡ update v (seen labels' base v) (label_at n base labels)
  unfolding label_at
  labels_updated =
      fun_ext
      (λ k.
      elim (ℕ_discrete k v) [
        | yes e ↦
            ap (label_at n base labels') e ∙ label_in n base v labels' below
            ∙ sym (update_same v (seen labels' base v) (label_at n base labels) k e)
        | no d ↦
            ap (λ (l : Label). elim (ltb k n) [ true ↦ l | false ↦ no_label ]) (beside_seen b k d base)
            ∙ sym (update_other v (seen labels' base v) (label_at n base labels) k d)
      ])

  pub settled_updated : settled_at n base labels' ≡ update v (ltb base (stamp labels' v)) (settled_at n base labels)
  unfolding settled_at
  settled_updated =
      fun_ext
      (λ k.
      elim (ℕ_discrete k v) [
        | yes e ↦
            ap (settled_at n base labels') e ∙ settled_in n base v labels' below
            ∙ sym (update_same v (ltb base (stamp labels' v)) (settled_at n base labels) k e)
        | no d ↦
            ap (λ (s : ℕ). elim (ltb k n) [ true ↦ ltb base s | false ↦ false ]) (beside_stamp b k d)
            ∙ sym (update_other v (ltb base (stamp labels' v)) (settled_at n base labels) k d)
      ])

-- a function that is changed to what it was
update_own : {A : Type 0} (v : ℕ) (x : A) (f : ℕ → A) → f v ≡ x → update v x f ≡ f
update_own v x f e =
    fun_ext (λ k. elim (ℕ_discrete k v) [ yes s ↦ update_same v x f k s ∙ sym (rw s e) | no d ↦ update_other v x f k d ])

-- The stores.
module _ (labels : List ℕ) (base v : ℕ) (room : 4 * (v + 1) ≤ length labels) where
  beside_none : Beside v labels labels
  beside_none = record { outside = λ i o. refl }

  pub settled_beside : Beside v labels (put_settled labels base v)
  unfolding put_settled
  settled_beside = beside_set beside_none (4 * v + 3) (base + 1) (omega arith) (omega arith)

  settled_stamp : stamp (put_settled labels base v) v ≡ base + 1
  unfolding put_settled
  settled_stamp = get_or-set_same labels (4 * v + 3) (base + 1) 0 (omega arith)

  settled_place : (j : ℕ) → j < 4 * v + 3 → get_or (put_settled labels base v) j 0 ≡ get_or labels j 0
  unfolding put_settled
  settled_place j low = get_or-set_other labels (4 * v + 3) j (base + 1) 0 (λ e. omega arith)

  -- a node that is settled keeps its label
  settled_seen : base ≤ stamp labels v → seen (put_settled labels base v) base v ≡ seen labels base v
  unfolding seen
  settled_seen has =
      rw (
        settled_stamp,
        seen,
        le-ltb (base + 1) base (omega arith),
        le-ltb (stamp labels v) base has,
        settled_place (4 * v) (omega arith),
        settled_place (4 * v + 1) (omega arith),
        settled_place (4 * v + 2) (omega arith),
      )

  module _ (l : Label) where
    abbrev l1 : List ℕ
    l1 = set labels (4 * v) l.weight

    abbrev l2 : List ℕ
    l2 = set l1 (4 * v + 1) l.parent

    abbrev l3 : List ℕ
    l3 = set l2 (4 * v + 2) l.via

    long_1 : length l1 ≡ length labels
    long_1 = length-set labels (4 * v) l.weight

    long_2 : length l2 ≡ length labels
    long_2 = length-set l1 (4 * v + 1) l.parent ∙ long_1

    long_3 : length l3 ≡ length labels
    long_3 = length-set l2 (4 * v + 2) l.via ∙ long_2

    pub label_beside : Beside v labels (put_label labels base v l)
    unfolding put_label
    label_beside =
        beside_set
        (beside_set
        (beside_set (beside_set beside_none (4 * v) l.weight (omega arith) (omega arith)) (4 * v + 1) l.parent (omega arith) (omega arith))
        (4 * v + 2) l.via (omega arith) (omega arith))
        (4 * v + 3) (kept_stamp labels base v) (omega arith) (omega arith)

    label_stamp : stamp (put_label labels base v l) v ≡ kept_stamp labels base v
    unfolding put_label
    label_stamp = get_or-set_same l3 (4 * v + 3) (kept_stamp labels base v) 0 (omega (arith, long_3))

    label_via : get_or (put_label labels base v l) (4 * v + 2) 0 ≡ l.via
    unfolding put_label
    label_via =
        get_or-set_other l3 (4 * v + 3) (4 * v + 2) (kept_stamp labels base v) 0 (λ e. omega arith)
        ∙ get_or-set_same l2 (4 * v + 2) l.via 0 (omega (arith, long_2))

    label_parent : get_or (put_label labels base v l) (4 * v + 1) 0 ≡ l.parent
    unfolding put_label
    label_parent =
        get_or-set_other l3 (4 * v + 3) (4 * v + 1) (kept_stamp labels base v) 0 (λ e. omega arith)
        ∙ get_or-set_other l2 (4 * v + 2) (4 * v + 1) l.via 0 (λ e. omega arith)
        ∙ get_or-set_same l1 (4 * v + 1) l.parent 0 (omega (arith, long_1))

    label_weight : get_or (put_label labels base v l) (4 * v) 0 ≡ l.weight
    unfolding put_label
    label_weight =
        get_or-set_other l3 (4 * v + 3) (4 * v) (kept_stamp labels base v) 0 (λ e. omega arith)
        ∙ get_or-set_other l2 (4 * v + 2) (4 * v) l.via 0 (λ e. omega arith)
        ∙ get_or-set_other l1 (4 * v + 1) (4 * v) l.parent 0 (λ e. omega arith)
        ∙ get_or-set_same labels (4 * v) l.weight 0 (omega arith)

    kept_is : (base ≤ kept_stamp labels base v) × (ltb base (kept_stamp labels base v) ≡ ltb base (stamp labels v))
    unfolding kept_stamp
    kept_is =
        on_test (ltb (stamp labels v) base)
        (λ t.
        rw (t, kept_stamp)
        (omega arith, le-ltb base base (omega arith) ∙ sym (le-ltb base (stamp labels v) (omega (arith, ltb-true (stamp labels v) base t)))))
        (λ t. rw (t, kept_stamp) (ltb-false (stamp labels v) base t, refl))

    label_seen : seen (put_label labels base v l) base v ≡ l
    unfolding seen
    label_seen = rw (label_stamp, seen, le-ltb (kept_stamp labels base v) base kept_is.0, label_weight, label_parent, label_via)

-- No store leaves a stamp beyond the two of its base.
module _ (labels : List ℕ) (base v : ℕ) (room : 4 * (v + 1) ≤ length labels) where
  keeps_beside : (labels' : List ℕ) → Beside v labels labels' → (stamp labels v < base + 2 → stamp labels' v < base + 2) → Keeps base labels labels'
  keeps_beside labels' b own n before k below =
      elim (ℕ_discrete k v) [
        | yes e ↦ rw e (own (rw e at (before k below)))
        | no d ↦ rw (beside_stamp b k d) (before k below)
      ]

  pub settled_keeps : Keeps base labels (put_settled labels base v)
  settled_keeps =
      keeps_beside (put_settled labels base v) (settled_beside labels base v room) (λ _. omega (arith, settled_stamp labels base v room))

  kept_below : stamp labels v < base + 2 → kept_stamp labels base v < base + 2
  unfolding kept_stamp
  kept_below own = on_test (ltb (stamp labels v) base) (λ t. rw (t, kept_stamp) (omega arith)) (λ t. rw (t, kept_stamp) own)

  label_keeps : (l : Label) → Keeps base labels (put_label labels base v l)
  label_keeps l =
      keeps_beside (put_label labels base v l) (label_beside labels base v room l)
      (λ own. omega (arith, kept_below own, label_stamp labels base v room l))

-- So what the slices stand for changes as the definitions say.
module _ (n : ℕ) (labels heap : List ℕ) (base len v : ℕ) (below : v < n) (room : 4 * (v + 1) ≤ length labels) where
  pub half_settled : base ≤ stamp labels v → half n base (put_settled labels base v) heap len ≡ mark_settled v (half n base labels heap len)
  unfolding half mark_settled
  half_settled has =
      let l = labels_updated n base v below (settled_beside labels base v room)
      ∙ update_own v _ (label_at n base labels) (label_in n base v labels below ∙ sym (settled_seen labels base v room has)) in
      let s = settled_updated n base v below (settled_beside labels base v room)
      ∙ ap (λ (t : Bool). update v t (settled_at n base labels)) (ap (ltb base) (settled_stamp labels base v room) ∙ lt-ltb base (base + 1) (omega arith)) in
      λ i. record { label = l i; settled = s i; heap = sorted (items heap len) }

  module _ (l : Label) where
    lowered : l.weight < (seen labels base v).weight → lower l (label_at n base labels v) ≡ l
    unfolding lower
    lowered less = rw (label_in n base v labels below, lt-ltb l.weight (seen labels base v).weight less, lower)

    -- an offer that is lower than the label
    pub half_offered : (heap' : List ℕ) → l.weight < (seen labels base v).weight → Pushed heap heap' len (pair l.weight v) →
        half n base (put_label labels base v l) heap' (len + 1) ≡ offer v l (half n base labels heap len)
    unfolding half offer
    half_offered heap' less pushed =
        let at = label_in n base v labels below in
        let a = labels_updated n base v below (label_beside labels base v room l)
        ∙ ap (λ (x : Label). update v x (label_at n base labels)) (label_seen labels base v room l ∙ sym (lowered less)) in
        let s = settled_updated n base v below (label_beside labels base v room l)
        ∙ update_own v _ (settled_at n base labels)
        (settled_in n base v labels below ∙ sym (ap (ltb base) (label_stamp labels base v room l) ∙ (kept_is labels base v room l).1)) in
        rw (at, lt-ltb l.weight (seen labels base v).weight less)
        (λ i. record { label = rw at at a i; settled = s i; heap = pushed.same i })

    -- one that is not
    pub half_left : (seen labels base v).weight ≤ l.weight → half n base labels heap len ≡ offer v l (half n base labels heap len)
    unfolding half offer lower
    half_left more =
        let at = label_in n base v labels below in
        let own : lower l (label_at n base labels v) ≡ label_at n base labels v =
        rw (ap (λ (x : Label). ltb l.weight x.weight) at ∙ le-ltb l.weight (seen labels base v).weight more, lower) in
        let a = sym (update_own v (label_at n base labels v) (label_at n base labels) refl)
        ∙ ap (λ (x : Label). update v x (label_at n base labels)) (sym own) in
        rw (ap (λ (x : Label). ltb l.weight x.weight) at ∙ le-ltb l.weight (seen labels base v).weight more)
        (λ i. record { label = a i; settled = settled_at n base labels; heap = sorted (items heap len) })

-- the label that is stored is the one offered
pub stored_is : (l own : Label) → l.weight < own.weight → lower l own ≡ l
unfolding lower
stored_is l own less = rw (lt-ltb l.weight own.weight less, lower)

-- no place comes or goes
pub put_label_long : (labels : List ℕ) (base v : ℕ) (l : Label) → length (put_label labels base v l) ≡ length labels
unfolding put_label
put_label_long labels base v l = simp length-set refl

-- What `offer` promises, either way.
module _ (labels heap : List ℕ) (base len v : ℕ) (l : Label) (room : 4 * (v + 1) ≤ length labels) where
  pub offers_new : (labels' heap' : List ℕ) → l.weight < (seen labels base v).weight → labels' ≡ put_label labels base v l →
      Pushed heap heap' len (pair l.weight v) → Offers labels heap labels' heap' base len (len + 1) v l
  offers_new labels' heap' less is pushed =
      record {
        half_is = λ n below. rw is (half_offered n labels heap base len v below room l heap' less pushed);
        ordered = pushed.ordered;
        one_more = omega arith;
        stamps = rw is (label_keeps labels base v room l);
      }

  pub offers_not : (seen labels base v).weight ≤ l.weight → Ordered (items heap len) → Offers labels heap labels heap base len len v l
  offers_not more ordered =
      record {
        half_is = λ n below. half_left n labels heap base len v below room l more;
        ordered = ordered;
        one_more = omega arith;
        stamps = λ n before. before;
      }
