-- Numbers that name each node once, as far as they have been looked at.
use mathlib.Core.Bool.{Bool, true, false, ◌&&◌, ◌||◌, true≢false}
use mathlib.Core.List.Memᴰ
use mathlib.Core.List.{List, [], ◌∷◌, ◌++◌, append-nil}
use mathlib.Core.Path.{◌≡◌, refl, sym, ◌∙◌}
use Prim.Native.Nat.{ℕ, ◌+◌, ◌≤◌, ◌<◌}
use native.Mathlib.Numerals.{add-one}
use native.Mathlib.Omega.{arith}
use native.Mathlib.Decide.{ℕ_discrete}
use lib.Dec.{eqb, ltb}
use lib.ListN.{length, get_or, take, set, length-set}
use lib.Seq.{take_all, take-suc, get_or-take, length-take-le, get_or-set_same, get_or-set_other}
use borrow.Author.Tests.{ltb-true, lt-ltb, eq-eqb, ne_eqb}
use Rattle.rules.specs.Lists.{Decides, In, all, any, distinct}
use Rattle.rules.proofs.Cases.{on_test}
use Rattle.rules.proofs.Decides.{and_both, both_and}
use Rattle.rules.proofs.Members.{all_each, any_same, get_d_in, in_get_d, in_any}
use Rattle.rules.proofs.Lists.{of_distinct, to_distinct, distinct_insert}
use Rattle.rules.proofs.Ranges.{distinct_decides}
use Rattle.permutation.specs.Once.{each_once}

all_snoc : (p : ℕ → Bool) (xs : List ℕ) (v : ℕ) → all p xs ≡ true → p v ≡ true → all p (xs ++ (v ∷ [])) ≡ true
unfolding all
all_snoc p [] v a t = rw t
all_snoc p (x ∷ xs) v a t = let b = and_both (p x) (all p xs) a in rw (b.0, all_snoc p xs v b.1 t)

any_snoc : (p : ℕ → Bool) (xs : List ℕ) (v : ℕ) → any p (xs ++ (v ∷ [])) ≡ (any p xs || p v)
unfolding any
any_snoc p [] v = on_test (p v) (λ t. rw t) (λ t. rw t)
any_snoc p (x ∷ xs) v = on_test (p x) (λ t. rw t) (λ t. rw (t, any_snoc p xs v))

or_false : (b : Bool) → (b || false) ≡ b
or_false true = refl
or_false false = refl

or_true : (b : Bool) → (b || true) ≡ true
or_true true = refl
or_true false = refl

-- what the flags say after the first i numbers
pub record Seen (n : ℕ) (xs : List ℕ) (seen : List Bool) (i : ℕ) : Type 0 where
  pub long : length seen ≡ 1024
  pub passed : i ≤ n
  pub once : each_once n (take i xs) ≡ true
  pub flags : (v : ℕ) → v < n → get_or seen v false ≡ any (eqb v) (take i xs)

module _ (n : ℕ) (xs : List ℕ) (few : n ≤ 1024) (long : length xs ≡ n) where
  pub none_seen : (seen : List Bool) → length seen ≡ 1024 → ((v : ℕ) → v < 1024 → get_or seen v false ≡ false) → Seen n xs seen 0
  unfolding each_once all distinct any
  none_seen seen all clear = record { long = all; passed = omega arith; once = refl; flags = λ v below. clear v (omega arith) }

  pub all_seen : (seen : List Bool) (i : ℕ) → Seen n xs seen i → n ≤ i → true ≡ each_once n xs
  all_seen seen i s done = sym (rw (take_all i xs (omega arith)) at s.once)

  module _ (seen : List Bool) (i : ℕ) (s : Seen n xs seen i) (more : i < n) where
    abbrev here : ℕ
    here = get_or xs i 0

    pub too_high : n ≤ here → false ≡ each_once n xs
    unfolding each_once
    too_high high =
        on_test (each_once n xs)
        (λ t.
        let below = ltb-true here n (all_each (λ v. ltb v n) xs (and_both (all (λ v. ltb v n) xs) (distinct xs) t).0 here (get_d_in xs i 0 (omega arith))) in
        absurd (omega (arith, below)))
        (λ f. sym f)

    pub named_twice : here < n → get_or seen here false ≡ true → false ≡ each_once n xs
    unfolding each_once
    named_twice below flag =
        on_test (each_once n xs)
        (λ t.
        let differ = (distinct_decides xs 0).0 (and_both (all (λ v. ltb v n) xs) (distinct xs) t).1 in
        let w = in_get_d here (take i xs) 0 (any_same here (take i xs) (sym (s.flags here below) ∙ flag)) in
        let short = length-take-le i xs (omega arith) in
        let same = differ w.0 i (omega (arith, w.1)) (omega arith) (sym (get_or-take i xs w.0 0 (omega (arith, w.1))) ∙ w.2) in
        absurd (omega (arith, w.1)))
        (λ f. sym f)

    pub see : here < n → get_or seen here false ≡ false → Seen n xs (set seen here true) (i + 1)
    unfolding each_once
    see below clear =
        record {
          long = length-set seen here true ∙ s.long;
          passed = omega arith;
          once = rw (add-one, take-suc xs i 0 (omega arith)) longer;
          flags = λ v low. rw (add-one, take-suc xs i 0 (omega arith), any_snoc (eqb v) (take i xs) here) (flag v low);
        }
      where
        parts : (all (λ v. ltb v n) (take i xs) ≡ true) × (distinct (take i xs) ≡ true)
        parts = and_both (all (λ v. ltb v n) (take i xs)) (distinct (take i xs)) s.once

        longer : (all (λ v. ltb v n) (take i xs ++ (here ∷ [])) && distinct (take i xs ++ (here ∷ []))) ≡ true
        longer =
            both_and _ _ (all_snoc (λ v. ltb v n) (take i xs) here parts.0 (lt-ltb here n below))
            (to_distinct _
            (distinct_insert (take i xs) [] here
            (λ m. true≢false (sym (in_any (eqb here) (take i xs) here (rw append-nil at m) (eq-eqb here here refl)) ∙ sym (s.flags here below) ∙ clear))
            (rw append-nil (of_distinct (take i xs) parts.1))))

        flag : (v : ℕ) → v < n → get_or (set seen here true) v false ≡ (any (eqb v) (take i xs) || eqb v here)
        flag v low =
            elim (ℕ_discrete v here) [
              | yes e ↦ rw (eq-eqb v here e, or_true, e) (get_or-set_same seen here true false (omega (arith, s.long)))
              | no d ↦ rw (ne_eqb v here d, or_false) (get_or-set_other seen here v true false d ∙ s.flags v low)
            ]

-- What the test decides, number by number.
each_all : (p : ℕ → Bool) (xs : List ℕ) → ((x : ℕ) → In x xs → p x ≡ true) → all p xs ≡ true
unfolding all
each_all p [] h = refl
each_all p (x ∷ xs) h = rw (h x (Memᴰ.head refl), each_all p xs (λ y m. h y (Memᴰ.tail m)))

pub once_decides : (n : ℕ) (xs : List ℕ) (d : ℕ) → n ≤ length xs →
    Decides (each_once n (take n xs))
    (((v : ℕ) → v < n → get_or xs v d < n) × ((u v : ℕ) → u < n → v < n → get_or xs u d ≡ get_or xs v d → u ≡ v))
unfolding each_once
once_decides n xs d enough =
    let long = length-take-le n xs enough in (
      λ t.
          let b = and_both (all (λ v. ltb v n) (take n xs)) (distinct (take n xs)) t in (
            λ v below.
                rw (get_or-take n xs v d below) at
                (ltb-true (get_or (take n xs) v d) n
                (all_each (λ v. ltb v n) (take n xs) b.0 (get_or (take n xs) v d) (get_d_in (take n xs) v d (omega (arith, long))))),
            λ u v hu hv same.
                (distinct_decides (take n xs) d).0 b.1 u v (omega (arith, long)) (omega (arith, long))
                (get_or-take n xs u d hu ∙ same ∙ sym (get_or-take n xs v d hv)),
          ),
      λ f.
          both_and _ _
          (each_all (λ v. ltb v n) (take n xs)
          (λ x m.
          let w = in_get_d x (take n xs) d m in
          lt-ltb x n (rw w.2 at (rw (← get_or-take n xs w.0 d (omega (arith, w.1, long))) at (f.0 w.0 (omega (arith, w.1, long)))))))
          ((distinct_decides (take n xs) d).1
          (λ i j hi hj same.
          f.1 i j (omega (arith, long)) (omega (arith, long))
          (sym (get_or-take n xs i d (omega (arith, long))) ∙ same ∙ get_or-take n xs j d (omega (arith, long))))),
    )
