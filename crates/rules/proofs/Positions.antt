-- The first place that passes a test.
use mathlib.Core.Path.{◌≡◌, sym, ◌∙◌, ap}
use mathlib.Core.Logic.{inl, inr}
use mathlib.Core.Bool.{Bool, true, false≢true}
use mathlib.Core.List.Memᴰ
use mathlib.Core.List.{List, [], ◌∷◌}
use Prim.Native.Nat.{ℕ, zero, suc, ◌≤◌, ◌<◌, zero-le, suc-le-suc}
use native.Mathlib.Omega.{arith}
use native.Mathlib.Nat.{le_of_suc-le-suc}
use lib.Dec.{eqb}
use lib.ListN.{length, get_or}
use borrow.Author.Tests.{eqb-true}
use Rattle.rules.specs.Lists.{In, position}
use Rattle.rules.proofs.Cases.{on_test}

module _ {A : Type 0} (p : A → Bool) where
  pub position_passes : (xs : List A) (d : A) → position p xs < length xs → p (get_or xs (position p xs) d) ≡ true
  unfolding position
  position_passes [] d h = absurd (omega arith)
  position_passes (x ∷ xs) d h =
      on_test (p x)
      (λ t. rw (t, position) t)
      (λ t. rw (t, position) (position_passes xs d (le_of_suc-le-suc (rw (t, position) at h))))

  pub position_below : (xs : List A) (x : A) → In x xs → p x ≡ true → position p xs < length xs
  unfolding position
  position_below [] x m t = absurd (Memᴰ.not-nil m)
  position_below (y ∷ ys) x m t =
      on_test (p y)
      (λ u. rw (u, position) (omega arith))
      (λ u.
      rw (u, position)
      (elim (Memᴰ.cases_cons m) [
        | inl here ↦ absurd (false≢true (sym u ∙ ap p (sym here) ∙ t))
        | inr later ↦ omega (arith, position_below ys x later t)
      ]))

  pub position_first : (xs : List A) (k : ℕ) (d : A) → k < length xs → p (get_or xs k d) ≡ true → position p xs ≤ k
  unfolding position
  position_first [] k d h t = absurd (omega arith)
  position_first (y ∷ ys) zero d h t = rw (t, position) zero-le
  position_first (y ∷ ys) (suc k) d h t =
      on_test (p y)
      (λ u. rw (u, position) zero-le)
      (λ u. rw (u, position) (suc-le-suc (position_first ys k d (omega arith) t)))

-- of a number: what stands there is it
pub position_is : (xs : List ℕ) (u d : ℕ) → position (eqb u) xs < length xs → get_or xs (position (eqb u) xs) d ≡ u
position_is xs u d h = sym (eqb-true u _ (position_passes (eqb u) xs d h))

pub same_position : (xs : List ℕ) (u v : ℕ) → position (eqb u) xs ≡ position (eqb v) xs → position (eqb u) xs < length xs → u ≡ v
same_position xs u v same h =
    sym (position_is xs u 0 h) ∙ ap (λ k. get_or xs k 0) same ∙ position_is xs v 0 (rw same at h)
