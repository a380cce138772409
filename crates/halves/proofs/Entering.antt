-- Ends enter one after the other; and labels of which no stamp is of the query.
use mathlib.Core.Bool.{false}
use mathlib.Core.List.{List, [], ◌∷◌}
use mathlib.Core.Path.{◌≡◌, refl, sym, ap, ◌∙◌, fun_ext}
use Prim.Native.Nat.{ℕ, zero, suc, ◌+◌, ◌*◌, ◌<◌, ◌≤◌}
use native.Mathlib.Decide.{dec_lt, ℕ_discrete}
use native.Mathlib.Numerals.{add-one}
use native.Mathlib.Omega.{arith}
use lib.ListN.{length, get_or, drop, set, drop_of_length-le}
use lib.Seq.{get_or-set_same, get_or-set_other}
use borrow.Author.Tests.{lt-ltb, le-ltb}
use Rattle.rules.specs.Numbers.{invalid}
use Rattle.rules.specs.Query.{End, no_label, untouched, zip_ends, enter}
use Rattle.heap.specs.Items.{items}
use Rattle.heap.specs.Shape.{Ordered}
use Rattle.heap.proofs.Laws.{empty_ordered, empty_sorted}
use Rattle.halves.specs.Labels.{label, stamp, Before, Keeps, seen, label_at, settled_at, half}
use Rattle.halves.specs.Promises.{Offering, Offers, Entering, Enters}

abbrev end : ℕ → ℕ → End
end v o = record { node = v; offset = o }

ends_at : (vs os : List ℕ) (k : ℕ) → length os ≡ length vs → k < length vs →
    drop k (zip_ends vs os) ≡ end (get_or vs k 0) (get_or os k 0) ∷ drop (suc k) (zip_ends vs os)
unfolding zip_ends
ends_at [] os k e h = absurd (omega arith)
ends_at (v ∷ vs) [] k e h = absurd (omega arith)
ends_at (v ∷ vs) (o ∷ os) zero e h = refl
ends_at (v ∷ vs) (o ∷ os) (suc k) e h = ends_at vs os k (omega arith) (omega arith)

pub ends_from : (vs os : List ℕ) (k : ℕ) → length os ≡ length vs → k < length vs →
    drop k (zip_ends vs os) ≡ end (get_or vs k 0) (get_or os k 0) ∷ drop (k + 1) (zip_ends vs os)
ends_from vs os k e h = rw (add-one k) (ends_at vs os k e h)

pub ends_length : (vs os : List ℕ) → length os ≡ length vs → length (zip_ends vs os) ≡ length vs
unfolding zip_ends
ends_length [] os e = refl
ends_length (v ∷ vs) [] e = absurd (omega arith)
ends_length (v ∷ vs) (o ∷ os) e = ap suc (ends_length vs os (omega arith))

module _ (nodes offsets labels₀ heap₀ : List ℕ) (base : ℕ) (given : Entering nodes offsets labels₀ heap₀) where
  -- the ends that are left, from here, are all of them from the start
  pub record Going (labels heap : List ℕ) (len k : ℕ) : Type 0 where
    pub labels_long : length labels ≡ length labels₀
    pub heap_long : length heap ≡ length heap₀
    pub ordered : Ordered (items heap len)
    pub stamps : Keeps base labels₀ labels
    pub passed : k ≤ length nodes
    pub most : len ≤ k
    pub same : (n : ℕ) → ((i : ℕ) → i < length nodes → get_or nodes i 0 < n) →
        enter (drop k (zip_ends nodes offsets)) (half n base labels heap len) ≡
        enter (zip_ends nodes offsets) (half n base labels₀ heap₀ 0)

  pub going_first : Going labels₀ heap₀ 0 0
  going_first =
      record {
        labels_long = refl;
        heap_long = refl;
        ordered = empty_ordered heap₀;
        stamps = λ n before. before;
        passed = omega arith;
        most = omega arith;
        same = λ n below. refl;
      }

  module _ (labels heap : List ℕ) (len k : ℕ) (g : Going labels heap len k) (more : k < length nodes) where
    pub offering : Offering labels heap len (get_or nodes k 0)
    offering =
        record {
          label_room = omega (arith, given.label_room k more, g.labels_long);
          heap_room = omega (arith, given.heap_room, g.heap_long, g.most);
          ordered = g.ordered;
        }

    pub going_on : (labels' heap' : List ℕ) (r : ℕ) → length labels' ≡ length labels → length heap' ≡ length heap →
        Offers labels heap labels' heap' base len r (get_or nodes k 0) (label (get_or offsets k 0) (get_or nodes k 0) invalid) →
        Going labels' heap' r (k + 1)
    unfolding enter
    going_on labels' heap' r long long' o =
        record {
          labels_long = long ∙ g.labels_long;
          heap_long = long' ∙ g.heap_long;
          ordered = o.ordered;
          stamps = λ n before. o.stamps n (g.stamps n before);
          passed = omega arith;
          most = omega (arith, o.one_more, g.most);
          same = λ n below.
              ap (enter (drop (k + 1) (zip_ends nodes offsets))) (o.half_is n (below k more))
              ∙ ap (λ es. enter es (half n base labels heap len)) (sym (ends_from nodes offsets k given.even more))
              ∙ g.same n below;
        }

  pub enters : (labels heap : List ℕ) (len k : ℕ) → Going labels heap len k → length nodes ≤ k →
      Enters nodes offsets labels₀ heap₀ labels heap base len
  unfolding enter
  enters labels heap len k g done =
      record {
        half_is = λ n below.
            ap (λ es. enter es (half n base labels heap len))
            (sym (drop_of_length-le (zip_ends nodes offsets) {i = k} (omega (arith, ends_length nodes offsets given.even))))
            ∙ g.same n below;
        ordered = g.ordered;
        stamps = g.stamps;
        most = omega (arith, g.most, g.passed);
      }

-- Labels of which no stamp is of the query are of a search that has not begun.
module _ (n base : ℕ) (labels heap : List ℕ) (old : Before n base labels) where
  no_labels : (v : ℕ) → label_at n base labels v ≡ no_label
  unfolding label_at seen
  no_labels v =
      elim (dec_lt v n) [
        | yes h ↦ rw (lt-ltb v n h, label_at, lt-ltb (stamp labels v) base (old v h), seen)
        | no h ↦ rw (le-ltb v n (omega arith), label_at)
      ]

  none_settled : (v : ℕ) → settled_at n base labels v ≡ false
  unfolding settled_at
  none_settled v =
      elim (dec_lt v n) [
        | yes h ↦ rw (lt-ltb v n h, settled_at) (le-ltb base (stamp labels v) (omega (arith, old v h)))
        | no h ↦ rw (le-ltb v n (omega arith), settled_at)
      ]

  pub half_untouched : half n base labels heap 0 ≡ untouched
  unfolding half untouched
  half_untouched =
      let l : label_at n base labels ≡ (λ _. no_label) = fun_ext no_labels in
      let s : settled_at n base labels ≡ (λ _. false) = fun_ext none_settled in
      λ i. record { label = l i; settled = s i; heap = empty_sorted heap i }

-- one stamp more is cleared
pub cleared_on : (labels : List ℕ) (v : ℕ) → 4 * (v + 1) ≤ length labels → ((k : ℕ) → k < v → stamp labels k ≡ 0) →
    (k : ℕ) → k < v + 1 → stamp (set labels (4 * v + 3) 0) k ≡ 0
cleared_on labels v room so_far k low =
    elim (ℕ_discrete k v) [
      | yes e ↦ rw e (get_or-set_same labels (4 * v + 3) 0 0 (omega arith))
      | no d ↦ get_or-set_other labels (4 * v + 3) (4 * k + 3) 0 0 (λ e. d (omega arith)) ∙ so_far k (omega arith)
    ]
