-- Distinct numbers below k are at most k; so n of them below n are all.
use mathlib.Core.Path.{◌≡◌, refl}
use mathlib.Core.Logic.{inl, inr}
use mathlib.Core.Bool.{true, false}
use mathlib.Core.List.Memᴰ
use mathlib.Core.List.{List, [], ◌∷◌}
use Prim.Native.Nat.{ℕ, zero, suc, ◌≤◌, ◌<◌}
use native.Mathlib.Omega.{arith}
use lib.Dec.{eqb}
use lib.ListN.{length}
use borrow.Author.Tests.{eqb-false}
use Rattle.rules.specs.Lists.{In, any, distinct}
use Rattle.rules.proofs.Cases.{on_test}
use Rattle.rules.proofs.Members.{none_any, any_same}
use Rattle.rules.proofs.Lists.{Distinct, of_distinct, keep_distinct, other, without, in_without, without_length}

most_below : (k : ℕ) (xs : List ℕ) → Distinct xs → ((x : ℕ) → In x xs → x < k) → length xs ≤ k
most_below zero [] d h = omega arith
most_below zero (x ∷ xs) d h = absurd (omega (arith, h x (Memᴰ.head refl)))
most_below (suc k) xs d h =
    on_test (any (eqb k) xs)
    (λ t.
    omega (
      arith,
      without_length k xs d (any_same k xs t),
      most_below k (without k xs) (keep_distinct (other k) xs d)
          (λ x m. let i = in_without k x xs m in omega (arith, h x i.0, i.1)),
    ))
    (λ t. omega (arith, most_below k xs d (λ x m. omega (arith, h x m, eqb-false k x (none_any (eqb k) xs t x m)))))

pub at_most : (k : ℕ) (xs : List ℕ) → distinct xs ≡ true → ((x : ℕ) → In x xs → x < k) → length xs ≤ k
at_most k xs e h = most_below k xs (of_distinct xs e) h

pub distinct_more : (u : ℕ) (xs : List ℕ) → any (eqb u) xs ≡ false → distinct xs ≡ true → distinct (u ∷ xs) ≡ true
unfolding distinct
distinct_more u xs t e = rw t e

-- all of them
pub every_below : (n : ℕ) (xs : List ℕ) → distinct xs ≡ true → ((x : ℕ) → In x xs → x < n) → length xs ≡ n → (u : ℕ) → u < n → In u xs
every_below n xs e h long u below =
    on_test (any (eqb u) xs)
    (λ t. any_same u xs t)
    (λ t.
    absurd
    (omega (
      arith,
      at_most n (u ∷ xs) (distinct_more u xs t e)
          (λ x m. elim (Memᴰ.cases_cons m) [ inl here ↦ rw here below | inr later ↦ h x later ]),
    )))
