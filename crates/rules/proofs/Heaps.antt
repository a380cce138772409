-- Laws of the heap as a sorted list, and of a function that differs at one number.
use mathlib.Core.Path.{◌≡◌, refl, ap}
use mathlib.Core.Logic.{◌⊎◌, inl, inr}
use mathlib.Core.Bool.{true, false, ◌&&◌}
use mathlib.Core.List.Memᴰ
use mathlib.Core.List.{List, [], ◌∷◌}
use Prim.Native.Nat.{ℕ, suc, ◌≤◌}
use native.Mathlib.Omega.{arith}
use lib.Dec.{eqb, ltb, leb}
use lib.ListN.{length}
use borrow.Author.Tests.{eqb-true, eq-eqb, ne_eqb, ltb-true, ltb-false}
use Rattle.rules.specs.Lists.{In, update}
use Rattle.rules.specs.Heap.{Item, leaves_first, push, Sorted}
use Rattle.rules.proofs.Cases.{on_test, not_both}
use Rattle.rules.proofs.Decides.{and_both, or_either, left_or}

module _ {A : Type 0} (at : ℕ) (value : A) (f : ℕ → A) where
  pub update_same : (k : ℕ) → k ≡ at → update at value f k ≡ value
  unfolding update
  update_same k e = rw (eq-eqb k at e, update)

  pub update_other : (k : ℕ) → (k ≡ at → ⊥) → update at value f k ≡ f k
  unfolding update
  update_other k e = rw (ne_eqb k at e, update)

pub sorted_none : Sorted []
unfolding Sorted
sorted_none = tt

pub sorted_first : (i : Item) (q : List Item) → Sorted (i ∷ q) → (j : Item) → In j q → i.weight ≤ j.weight
unfolding Sorted
sorted_first i q h = h.0

pub sorted_rest : (i : Item) (q : List Item) → Sorted (i ∷ q) → Sorted q
unfolding Sorted
sorted_rest i q h = h.1

pub push_has : (i : Item) (q : List Item) → In i (push i q)
unfolding push
push_has i [] = Memᴰ.head refl
push_has i (j ∷ q) =
    on_test (leaves_first i j) (λ e. rw (e, push) (Memᴰ.head refl))
    (λ e. rw (e, push) (Memᴰ.tail (push_has i q)))

pub push_keeps : (i : Item) (q : List Item) (k : Item) → In k q → In k (push i q)
unfolding push
push_keeps i [] k m = absurd (Memᴰ.not-nil m)
push_keeps i (j ∷ q) k m =
    on_test (leaves_first i j) (λ e. rw (e, push) (Memᴰ.tail m))
    (λ e.
    rw (e, push)
    (elim (Memᴰ.cases_cons m) [
      | inl here ↦ Memᴰ.head here
      | inr later ↦ Memᴰ.tail (push_keeps i q k later)
    ]))

pub push_in : (i : Item) (q : List Item) (k : Item) → In k (push i q) → (k ≡ i) ⊎ In k q
unfolding push
push_in i [] k m = Memᴰ.cases_cons m
push_in i (j ∷ q) k m =
    on_test (leaves_first i j) (λ e. Memᴰ.cases_cons (rw (e, push) at m))
    (λ e.
    elim (Memᴰ.cases_cons (rw (e, push) at m)) [
      | inl here ↦ inr (Memᴰ.head here)
      | inr later ↦ elim (push_in i q k later) [ inl new ↦ inl new | inr old ↦ inr (Memᴰ.tail old) ]
    ])

pub push_length : (i : Item) (q : List Item) → length (push i q) ≡ suc (length q)
unfolding push
push_length i [] = refl
push_length i (j ∷ q) = on_test (leaves_first i j) (λ e. rw (e, push)) (λ e. rw (e, push) (ap suc (push_length i q)))

first_is_light : (i j : Item) → leaves_first i j ≡ true → i.weight ≤ j.weight
unfolding leaves_first
first_is_light i j e =
    elim (or_either (ltb i.weight j.weight) (eqb i.weight j.weight && leb i.node j.node) e) [
      | inl less ↦ omega (arith, ltb-true i.weight j.weight less)
      | inr same ↦
          omega (arith, eqb-true i.weight j.weight (and_both (eqb i.weight j.weight) (leb i.node j.node) same).0)
    ]

later_is_heavy : (i j : Item) → leaves_first i j ≡ false → j.weight ≤ i.weight
unfolding leaves_first
later_is_heavy i j e =
    on_test (ltb i.weight j.weight)
    (λ less. absurd (not_both _ (left_or (ltb i.weight j.weight) (eqb i.weight j.weight && leb i.node j.node) less) e))
    (λ more. ltb-false i.weight j.weight more)

pub push_sorted : (i : Item) (q : List Item) → Sorted q → Sorted (push i q)
unfolding push Sorted
push_sorted i [] h = (λ j m. absurd (Memᴰ.not-nil m), tt)
push_sorted i (j ∷ q) h =
    on_test (leaves_first i j)
    (λ e.
    rw (e, push) (
      λ k m.
          elim (Memᴰ.cases_cons m) [
            | inl here ↦ omega (arith, first_is_light i j e, ap (λ (o : Item). o.weight) here)
            | inr later ↦ omega (arith, first_is_light i j e, h.0 k later)
          ],
      h,
    ))
    (λ e.
    rw (e, push) (
      λ k m.
          elim (push_in i q k m) [
            | inl new ↦ omega (arith, later_is_heavy i j e, ap (λ (o : Item). o.weight) new)
            | inr old ↦ h.0 k old
          ],
      push_sorted i q h.1,
    ))
