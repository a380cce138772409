-- A test that fails says that a fact fails, and where: it is false exactly if the statement holds. Tests joined by && fail
-- where one of them does, tests joined by || where both do.
use mathlib.Core.Path.{◌≡◌, refl, sym}
use mathlib.Core.Logic.{◌↔◌, ◌⊎◌, inl, inr}
use mathlib.Core.Bool.{Bool, true, false, not, ◌&&◌, ◌||◌, true≢false}
use mathlib.Core.List.{List, [], ◌∷◌}
use Prim.Native.Nat.{ℕ, suc, ◌≤◌, ◌<◌}
use native.Mathlib.Omega.{arith}
use lib.Dec.{eqb, ltb, leb}
use lib.ListN.{length, get_or}
use borrow.Author.Tests.{ltb-false, leb-false, le-ltb, lt-leb, not-true}
use Rattle.rules.specs.Lists.{Decides, all, any, distinct}
use Rattle.rules.proofs.Cases.{on_test, not_both, neither}
use Rattle.rules.proofs.Members.{in_any, any_in, any_same, get_d_in, in_get_d, all_each}
use Rattle.rules.proofs.Ranges.{distinct_decides}

abbrev pub Refutes : Bool → Type 0 → Type 0
Refutes b P = (b ≡ false) ↔ P

-- a row's test is often such a test, negated
pub not_decides : {b : Bool} {P : Type 0} → Refutes b P → Decides (not b) P
not_decides {b} d = (λ t. d.0 (not-true b t), λ p. rw (d.1 p))

pub refuted : {b : Bool} {P : Type 0} → Decides b P → Refutes b (P → ⊥)
refuted {b} d = (λ f p. not_both b (d.1 p) f, λ f. on_test b (λ t. absurd (f (d.0 t))) (λ t. t))

pub not_below : (a b : ℕ) → Refutes (ltb a b) (b ≤ a)
not_below a b = (ltb-false a b, le-ltb a b)

pub not_within : (a b : ℕ) → Refutes (leb a b) (b < a)
not_within a b = (leb-false a b, lt-leb a b)

one_fails : (a b : Bool) → (a && b) ≡ false → (a ≡ false) ⊎ (b ≡ false)
one_fails true b e = inr e
one_fails false b e = inl refl

module _ {a b : Bool} {P Q : Type 0} where
  pub and_refutes : Refutes a P → Refutes b Q → Refutes (a && b) (P ⊎ Q)
  and_refutes p q = (
    λ e. elim (one_fails a b e) [ inl x ↦ inl (p.0 x) | inr y ↦ inr (q.0 y) ],
    λ t. elim t [ inl x ↦ rw (p.1 x) | inr y ↦ on_test a (λ u. rw (u, q.1 y)) (λ u. rw u) ],
  )

  pub or_refutes : Refutes a P → Refutes b Q → Refutes (a || b) (P × Q)
  or_refutes p q = (
    λ e. let n = neither a b e in (p.0 n.0, q.0 n.1),
    λ t. rw (p.1 t.0, q.1 t.1),
  )

pub refutes_as : {b : Bool} {P Q : Type 0} → Refutes b P → P ↔ Q → Refutes b Q
refutes_as p e = (λ t. e.0 (p.0 t), λ q. p.1 (e.1 q))

-- && and || join to the left, ⊎ to the right
pub regrouped : {P Q R : Type 0} → ((P ⊎ Q) ⊎ R) ↔ (P ⊎ Q ⊎ R)
regrouped = (
  λ x. elim x [ inl y ↦ elim y [ inl p ↦ inl p | inr q ↦ inr (inl q) ] | inr r ↦ inr (inr r) ],
  λ x. elim x [ inl p ↦ inl (inl p) | inr y ↦ elim y [ inl q ↦ inl (inr q) | inr r ↦ inr r ] ],
)

-- Some element passes; some does not.
module _ {A : Type 0} (d : A) (P : A → Type 0) where
  abbrev pub Somewhere : List A → Type 0
  Somewhere xs = (i : ℕ) × (i < length xs) × P (get_or xs i d)

  pub any_decides : (p : A → Bool) (xs : List A) → ((x : A) → Decides (p x) (P x)) → Decides (any p xs) (Somewhere xs)
  any_decides p xs each = (
    λ t.
        let w = any_in p xs t in
        let k = in_get_d w.0 xs d w.1 in
        (k.0, k.1, rw k.2 ((each w.0).0 w.2)),
    λ s. in_any p xs (get_or xs s.0 d) (get_d_in xs s.0 d s.1) ((each (get_or xs s.0 d)).1 s.2),
  )

  fails_at : (p : A → Bool) (xs : List A) → all p xs ≡ false → (i : ℕ) × (i < length xs) × (p (get_or xs i d) ≡ false)
  unfolding all
  fails_at p [] e = absurd (true≢false e)
  fails_at p (x ∷ xs) e =
      elim (one_fails (p x) (all p xs) e) [
        | inl here ↦ (0, omega arith, here)
        | inr later ↦ let r = fails_at p xs later in (suc r.0, omega (arith, r.1), r.2)
      ]

  pub all_refutes : (p : A → Bool) (xs : List A) → ((x : A) → Refutes (p x) (P x)) → Refutes (all p xs) (Somewhere xs)
  all_refutes p xs each = (
    λ e. let w = fails_at p xs e in (w.0, w.1, (each (get_or xs w.0 d)).0 w.2),
    λ s.
        on_test (all p xs)
        (λ t.
        absurd (not_both (p (get_or xs s.0 d)) (all_each p xs t (get_or xs s.0 d) (get_d_in xs s.0 d s.1)) ((each (get_or xs s.0 d)).1 s.2)))
        (λ f. f),
  )

-- Some number stands at two places.
abbrev pub Twice : List ℕ → Type 0
Twice xs = (i : ℕ) × (j : ℕ) × (i < j) × (j < length xs) × (get_or xs i 0 ≡ get_or xs j 0)

repeated : (xs : List ℕ) → distinct xs ≡ false → Twice xs
unfolding distinct
repeated [] e = absurd (true≢false e)
repeated (x ∷ xs) e =
    on_test (any (eqb x) xs)
    (λ t.
    let k = in_get_d x xs 0 (any_same x xs t) in
    (0, suc k.0, omega arith, omega (arith, k.1), sym k.2))
    (λ t.
    let r = repeated xs (rw t at e) in
    (suc r.0, suc r.1, omega (arith, r.2), omega (arith, r.3), r.4))

pub distinct_refutes : (xs : List ℕ) → Refutes (distinct xs) (Twice xs)
distinct_refutes xs = (
  repeated xs,
  λ r.
      on_test (distinct xs)
      (λ t. absurd (omega (arith, r.2, (distinct_decides xs 0).0 t r.0 r.1 (omega (arith, r.2, r.3)) r.3 r.4)))
      (λ f. f),
)
