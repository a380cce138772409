-- What stands in a list: after keeping, mapping, testing and reading columns as links, and at which place.
use mathlib.Core.Path.{◌≡◌, refl, sym, ◌∙◌, ap}
use mathlib.Core.Logic.{inl, inr}
use mathlib.Core.Bool.{Bool, true, false, false≢true}
use mathlib.Core.List.Memᴰ
use mathlib.Core.List.{List, [], ◌∷◌, map}
use Prim.Native.Nat.{ℕ, zero, suc, ◌<◌}
use native.Mathlib.Omega.{arith}
use lib.Dec.{eqb}
use lib.ListN.{length, get_or}
use borrow.Author.Tests.{eqb-true}
use Rattle.rules.specs.Lists.{In, all, any, keep}
use Rattle.rules.specs.Columns.{Link, zip_links}
use Rattle.rules.proofs.Cases.{on_test, neither}
use Rattle.rules.proofs.Decides.{and_both, or_either, left_or, right_or}

module _ {A : Type 0} (p : A → Bool) where
  pub keep_in : (x : A) (xs : List A) → In x xs → p x ≡ true → In x (keep p xs)
  unfolding keep
  keep_in x [] m t = m
  keep_in x (y ∷ ys) m t =
      elim (Memᴰ.cases_cons m) [
        | inl here ↦ rw (ap p (sym here) ∙ t, keep) (Memᴰ.head here)
        | inr later ↦
            on_test (p y) (λ e. rw (e, keep) (Memᴰ.tail (keep_in x ys later t)))
            (λ e. rw (e, keep) (keep_in x ys later t))
      ]

  pub in_keep : (x : A) (xs : List A) → In x (keep p xs) → In x xs × (p x ≡ true)
  unfolding keep
  in_keep x [] m = absurd (Memᴰ.not-nil m)
  in_keep x (y ∷ ys) m =
      on_test (p y)
      (λ e.
      elim (Memᴰ.cases_cons (rw (e, keep) at m)) [
        | inl here ↦ (Memᴰ.head here, ap p here ∙ e)
        | inr later ↦ let r = in_keep x ys later in (Memᴰ.tail r.0, r.1)
      ])
      (λ e. let r = in_keep x ys (rw (e, keep) at m) in (Memᴰ.tail r.0, r.1))

module _ {A : Type 0} (p : A → Bool) where
  pub all_each : (xs : List A) → all p xs ≡ true → (x : A) → In x xs → p x ≡ true
  unfolding all
  all_each [] e x m = absurd (Memᴰ.not-nil m)
  all_each (y ∷ ys) e x m =
      let b = and_both (p y) (all p ys) e in
      elim (Memᴰ.cases_cons m) [
        | inl here ↦ ap p here ∙ b.0
        | inr later ↦ all_each ys b.1 x later
      ]

  pub none_any : (xs : List A) → any p xs ≡ false → (x : A) → In x xs → p x ≡ false
  unfolding any
  none_any [] e x m = absurd (Memᴰ.not-nil m)
  none_any (y ∷ ys) e x m =
      let b = neither (p y) (any p ys) e in
      elim (Memᴰ.cases_cons m) [
        | inl here ↦ ap p here ∙ b.0
        | inr later ↦ none_any ys b.1 x later
      ]

module _ {A : Type 0} where
  pub in_any : (p : A → Bool) (xs : List A) (x : A) → In x xs → p x ≡ true → any p xs ≡ true
  unfolding any
  in_any p [] x m t = absurd (Memᴰ.not-nil m)
  in_any p (y ∷ ys) x m t =
      elim (Memᴰ.cases_cons m) [
        | inl here ↦ left_or (p y) (any p ys) (sym (ap p here) ∙ t)
        | inr later ↦ right_or (p y) (any p ys) (in_any p ys x later t)
      ]

  pub any_in : (p : A → Bool) (xs : List A) → any p xs ≡ true → (x : A) × In x xs × (p x ≡ true)
  unfolding any
  any_in p [] e = absurd (false≢true e)
  any_in p (y ∷ ys) e =
      elim (or_either (p y) (any p ys) e) [
        | inl here ↦ (y, Memᴰ.head refl, here)
        | inr later ↦ let w = any_in p ys later in (w.0, Memᴰ.tail w.1, w.2)
      ]

-- of a number: it is the one that stands there
pub any_same : (u : ℕ) (xs : List ℕ) → any (eqb u) xs ≡ true → In u xs
any_same u xs e = let w = any_in (eqb u) xs e in rw (eqb-true u w.0 w.2) w.1

module _ {A : Type 0} where
  -- what is not the first stands behind it
  pub in_rest : (x y : A) (xs : List A) → In x (y ∷ xs) → (x ≡ y → ⊥) → In x xs
  in_rest x y xs m differ = elim (Memᴰ.cases_cons m) [ inl here ↦ absurd (differ here) | inr later ↦ later ]

  pub get_d_in : (xs : List A) (k : ℕ) (d : A) → k < length xs → In (get_or xs k d) xs
  get_d_in [] k d h = absurd (omega arith)
  get_d_in (x ∷ xs) zero d h = Memᴰ.head refl
  get_d_in (x ∷ xs) (suc k) d h = Memᴰ.tail (get_d_in xs k d (omega arith))

  pub in_get_d : (x : A) (xs : List A) (d : A) → In x xs → (k : ℕ) × (k < length xs) × (get_or xs k d ≡ x)
  in_get_d x [] d m = absurd (Memᴰ.not-nil m)
  in_get_d x (y ∷ ys) d m =
      elim (Memᴰ.cases_cons m) [
        | inl here ↦ (0, omega arith, sym here)
        | inr later ↦ let r = in_get_d x ys d later in (suc r.0, omega (arith, r.1), r.2)
      ]

module _ {A B : Type 0} (f : A → B) where
  pub in_map : (y : B) (xs : List A) → In y (map f xs) → (x : A) × In x xs × (y ≡ f x)
  in_map y [] m = absurd (Memᴰ.not-nil m)
  in_map y (x ∷ xs) m =
      elim (Memᴰ.cases_cons m) [
        | inl here ↦ (x, Memᴰ.head refl, here)
        | inr later ↦ let r = in_map y xs later in (r.0, Memᴰ.tail r.1, r.2)
      ]

  pub map_in : (x : A) (xs : List A) → In x xs → In (f x) (map f xs)
  map_in x [] m = absurd (Memᴰ.not-nil m)
  map_in x (y ∷ ys) m =
      elim (Memᴰ.cases_cons m) [
        | inl here ↦ Memᴰ.head (ap f here)
        | inr later ↦ Memᴰ.tail (map_in x ys later)
      ]

-- a link's weight is a number of its column
pub weight_in : (ts hs ws : List ℕ) (l : Link) → In l (zip_links ts hs ws) → In l.weight ws
unfolding zip_links
weight_in [] hs ws l m = absurd (Memᴰ.not-nil m)
weight_in (t ∷ ts) [] ws l m = absurd (Memᴰ.not-nil m)
weight_in (t ∷ ts) (h ∷ hs) [] l m = absurd (Memᴰ.not-nil m)
weight_in (t ∷ ts) (h ∷ hs) (w ∷ ws) l m =
    elim (Memᴰ.cases_cons m) [
      | inl here ↦ Memᴰ.head (ap (λ x. x.weight) here)
      | inr later ↦ Memᴰ.tail (weight_in ts hs ws l later)
    ]
