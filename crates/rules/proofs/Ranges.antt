-- Tests of all numbers of a range, and of all elements of a list.
use mathlib.Core.Path.{◌≡◌, refl, sym, ap, ◌∙◌}
use mathlib.Core.Bool.{Bool, true, false, not}
use mathlib.Core.List.{List, [], ◌∷◌, map}
use Prim.Native.Nat.{ℕ, zero, suc, ◌+◌, ◌-◌, ◌≤◌, ◌<◌}
use native.Mathlib.Omega.{arith}
use native.Mathlib.Decide.{ℕ_discrete}
use native.Mathlib.Nat.{add-sub_of_le}
use lib.Dec.{eqb}
use lib.ListN.{length, get_or, length-map}
use borrow.Author.Tests.{eq-eqb, not-true}
use Rattle.rules.specs.Lists.{Decides, TellsApart, all, any, distinct, range, count_from}
use Rattle.rules.proofs.Cases.{not_both}
use Rattle.rules.proofs.Members.{in_any, any_same, get_d_in, in_get_d}
use Rattle.rules.proofs.Decides.{and_both, both_and}
use Rattle.rules.proofs.Prefixes.{map_at, range_length, range_at}

module _ (p : ℕ → Bool) where
  counted_each : (a n : ℕ) → all p (count_from a n) ≡ true → (k : ℕ) → a ≤ k → k < a + n → p k ≡ true
  unfolding all count_from
  counted_each a zero e k low high = absurd (omega arith)
  counted_each a (suc n) e k low high =
      elim (ℕ_discrete k a) [
        | yes same ↦ rw same (and_both (p a) (all p (count_from (suc a) n)) e).0
        | no other ↦
            counted_each (suc a) n (and_both (p a) (all p (count_from (suc a) n)) e).1 k
            (omega arith) (omega arith)
      ]

  each_counted : (a n : ℕ) → ((k : ℕ) → a ≤ k → k < a + n → p k ≡ true) → all p (count_from a n) ≡ true
  unfolding all count_from
  each_counted a zero f = refl
  each_counted a (suc n) f =
      both_and (p a) (all p (count_from (suc a) n)) (f a (omega arith) (omega arith))
      (each_counted (suc a) n (λ k low high. f k (omega arith) (omega arith)))

  range_decides : (a b : ℕ) → Decides (all p (range a b)) ((k : ℕ) → a ≤ k → k < b → p k ≡ true)
  unfolding range
  range_decides a b = (
    λ e k low high. counted_each a (b - a) e k low (omega arith),
    λ f. each_counted a (b - a) (λ k low high. f k low (omega arith)),
  )

-- the same, where the test of each number decides a fact of it
pub all_decides : (p : ℕ → Bool) (P : ℕ → Type 0) (a b : ℕ) → ((k : ℕ) → Decides (p k) (P k)) → Decides (all p (range a b)) ((k : ℕ) → a ≤ k → k < b → P k)
all_decides p P a b d = (
  λ e k low high. (d k).0 ((range_decides p a b).0 e k low high),
  λ f. (range_decides p a b).1 (λ k low high. (d k).1 (f k low high)),
)

-- No element of a distinct list stands at two places.
any_at : (x : ℕ) (xs : List ℕ) (k d : ℕ) → k < length xs → get_or xs k d ≡ x → any (eqb x) xs ≡ true
any_at x xs k d h e = in_any (eqb x) xs (get_or xs k d) (get_d_in xs k d h) (eq-eqb x (get_or xs k d) (sym e))

any_where : (x : ℕ) (xs : List ℕ) (d : ℕ) → any (eqb x) xs ≡ true → (k : ℕ) × (k < length xs) × (get_or xs k d ≡ x)
any_where x xs d e = in_get_d x xs d (any_same x xs e)

not_of : (b : Bool) → (b ≡ true → ⊥) → not b ≡ true
not_of true f = absurd (f refl)
not_of false f = refl

-- no number stands at two places
abbrev pub Differ : List ℕ → ℕ → Type 0
Differ xs d = (i j : ℕ) → i < length xs → j < length xs → get_or xs i d ≡ get_or xs j d → i ≡ j

distinct_differ : (xs : List ℕ) (d : ℕ) → distinct xs ≡ true → Differ xs d
unfolding distinct
distinct_differ [] d e i j hi hj same = absurd (omega arith)
distinct_differ (x ∷ xs) d e zero zero hi hj same = refl
distinct_differ (x ∷ xs) d e zero (suc j) hi hj same =
    absurd (not_both (any (eqb x) xs) (any_at x xs j d (omega arith) (sym same)) (not-true _ (and_both (not (any (eqb x) xs)) (distinct xs) e).0))
distinct_differ (x ∷ xs) d e (suc i) zero hi hj same =
    absurd (not_both (any (eqb x) xs) (any_at x xs i d (omega arith) same) (not-true _ (and_both (not (any (eqb x) xs)) (distinct xs) e).0))
distinct_differ (x ∷ xs) d e (suc i) (suc j) hi hj same =
    ap suc (distinct_differ xs d (and_both (not (any (eqb x) xs)) (distinct xs) e).1 i j (omega arith) (omega arith) same)

differ_distinct : (xs : List ℕ) (d : ℕ) → Differ xs d → distinct xs ≡ true
unfolding distinct
differ_distinct [] d f = refl
differ_distinct (x ∷ xs) d f =
    both_and (not (any (eqb x) xs)) (distinct xs)
    (not_of (any (eqb x) xs) (λ e. let w = any_where x xs d e in absurd (omega (arith, f 0 (suc w.0) (omega arith) (omega (arith, w.1)) (sym w.2)))))
    (differ_distinct xs d (λ i j hi hj same. omega (arith, f (suc i) (suc j) (omega arith) (omega arith) same)))

pub distinct_decides : (xs : List ℕ) (d : ℕ) → Decides (distinct xs) (Differ xs d)
distinct_decides xs d = (distinct_differ xs d, differ_distinct xs d)

-- Numbers told for each place of a range: they are distinct exactly if they tell the places apart.
module _ (f : ℕ → ℕ) (a b : ℕ) where
  pub told_length : length (map f (range a b)) ≡ b - a
  told_length = length-map (range a b) f ∙ range_length a b

  pub told_at : (i : ℕ) → i < b - a → get_or (map f (range a b)) i 0 ≡ f (a + i)
  told_at i h = map_at f (range a b) i 0 0 (omega (arith, range_length a b)) ∙ ap f (range_at a b i 0 h)

  told_from : (d : ℕ) → a ≤ d → d < b → get_or (map f (range a b)) (d - a) 0 ≡ f d
  told_from d low high = told_at (d - a) (omega arith) ∙ ap f (add-sub_of_le low)

  pub places_differ : Decides (distinct (map f (range a b))) (TellsApart f a b)
  places_differ = (
    λ t d e dl dh el eh same.
        omega (
          arith,
          distinct_differ (map f (range a b)) 0 t (d - a) (e - a) (omega (arith, told_length)) (omega (arith, told_length))
              (told_from d dl dh ∙ same ∙ sym (told_from e el eh)),
        ),
    λ h.
        differ_distinct (map f (range a b)) 0
        (λ i j hi hj same.
        omega (
          arith,
          h (a + i) (a + j) (omega arith) (omega (arith, told_length)) (omega arith) (omega (arith, told_length))
              (sym (told_at i (omega (arith, told_length))) ∙ same ∙ told_at j (omega (arith, told_length))),
        )),
  )
