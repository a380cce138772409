-- Laws of lists: what is kept, what is mapped, and distinct numbers.
use mathlib.Core.Path.{◌≡◌, refl, sym, ap, ◌∙◌}
use mathlib.Core.Logic.{inl, inr}
use mathlib.Core.Bool.{Bool, true, false, not, ◌&&◌, true≢false}
use mathlib.Core.List.Memᴰ
use mathlib.Core.List.{List, [], ◌∷◌, ◌++◌, map, append-nil}
use Prim.Native.Nat.{ℕ, suc, ◌≤◌}
use native.Mathlib.Omega.{arith}
use lib.Dec.{eqb}
use lib.ListN.{length}
use borrow.Author.Tests.{eq-eqb, ne_eqb, not-true}
use Rattle.rules.specs.Lists.{In, any, keep, distinct}
use Rattle.rules.proofs.Cases.{on_test}
use Rattle.rules.proofs.Decides.{and_both}
use Rattle.rules.proofs.Members.{in_keep, in_any, any_same}

pub empty_of_length : {A : Type 0} (l : List A) → length l ≡ 0 → l ≡ []
empty_of_length [] e = refl
empty_of_length (x ∷ l) e = absurd (omega arith)

module _ {A : Type 0} where
  pub keep_same : (p q : A → Bool) (l : List A) → ((x : A) → In x l → p x ≡ q x) → keep p l ≡ keep q l
  unfolding keep
  keep_same p q [] h = refl
  keep_same p q (x ∷ l) h =
      let rest = keep_same p q l (λ y m. h y (Memᴰ.tail m)) in
      let here = h x (Memᴰ.head refl) in
      on_test (q x)
      (λ t. rw (here ∙ t, t, keep) (ap (λ k. x ∷ k) rest))
      (λ t. rw (here ∙ t, t, keep) rest)

  pub keep_all : (p : A → Bool) (l : List A) → ((x : A) → In x l → p x ≡ true) → keep p l ≡ l
  unfolding keep
  keep_all p [] h = refl
  keep_all p (x ∷ l) h = rw (h x (Memᴰ.head refl), keep) (ap (λ k. x ∷ k) (keep_all p l (λ y m. h y (Memᴰ.tail m))))

  pub keep_append : (p : A → Bool) (a b : List A) → keep p (a ++ b) ≡ keep p a ++ keep p b
  unfolding keep
  keep_append p [] b = refl
  keep_append p (x ∷ a) b =
      on_test (p x)
      (λ t. rw (t, keep) (ap (λ k. x ∷ k) (keep_append p a b)))
      (λ t. rw (t, keep) (keep_append p a b))

  pub keep_one : (p : A → Bool) (x : A) → p x ≡ true → keep p (x ∷ []) ≡ x ∷ []
  unfolding keep
  keep_one p x t = rw (t, keep) refl

  pub keep_none : (p : A → Bool) (x : A) → p x ≡ false → keep p (x ∷ []) ≡ []
  unfolding keep
  keep_none p x t = rw (t, keep) refl

  pub keep_length : (p : A → Bool) (l : List A) → length (keep p l) ≤ length l
  unfolding keep
  keep_length p [] = omega arith
  keep_length p (x ∷ l) =
      on_test (p x)
      (λ t. rw (t, keep) (omega (arith, keep_length p l)))
      (λ t. rw (t, keep) (omega (arith, keep_length p l)))

  -- keeping twice is keeping what passes both
  pub keep_both : (p q : A → Bool) (l : List A) → keep p (keep q l) ≡ keep (λ x. q x && p x) l
  unfolding keep
  keep_both p q [] = refl
  keep_both p q (x ∷ l) =
      on_test (q x)
      (λ t.
      on_test (p x)
      (λ u. rw (t, u, keep) (ap (λ k. x ∷ k) (keep_both p q l)))
      (λ u. rw (t, u, keep) (keep_both p q l)))
      (λ t. rw (t, keep) (keep_both p q l))

  pub keep_turned : (p q : A → Bool) (l : List A) → keep p (keep q l) ≡ keep q (keep p l)
  keep_turned p q l = keep_both p q l ∙ keep_same _ _ l (λ x m. turned (q x) (p x)) ∙ sym (keep_both q p l)
    where
      turned : (a b : Bool) → (a && b) ≡ (b && a)
      turned true true = refl
      turned true false = refl
      turned false true = refl
      turned false false = refl

module _ {A B : Type 0} where
  pub map_same : (f g : A → B) (l : List A) → ((x : A) → In x l → f x ≡ g x) → map f l ≡ map g l
  map_same f g [] h = refl
  map_same f g (x ∷ l) h = λ i. h x (Memᴰ.head refl) i ∷ map_same f g l (λ y m. h y (Memᴰ.tail m)) i

  pub keep_map : (f : A → B) (p : B → Bool) (l : List A) → keep p (map f l) ≡ map f (keep (λ x. p (f x)) l)
  unfolding keep
  keep_map f p [] = refl
  keep_map f p (x ∷ l) =
      on_test (p (f x))
      (λ t. rw (t, keep) (ap (λ k. f x ∷ k) (keep_map f p l)))
      (λ t. rw (t, keep) (keep_map f p l))

-- no number twice
abbrev pub Distinct : List ℕ → Type 0
Distinct [] = Unit {0}
Distinct (x ∷ l) = (In x l → ⊥) × Distinct l

pub of_distinct : (l : List ℕ) → distinct l ≡ true → Distinct l
unfolding distinct
of_distinct [] e = tt
of_distinct (x ∷ l) e =
    let b = and_both (not (any (eqb x) l)) (distinct l) e in (
      λ m. true≢false (sym (in_any (eqb x) l x m (eq-eqb x x refl)) ∙ not-true (any (eqb x) l) b.0),
      of_distinct l b.1,
    )

pub to_distinct : (l : List ℕ) → Distinct l → distinct l ≡ true
unfolding distinct
to_distinct [] d = refl
to_distinct (x ∷ l) d =
    on_test (any (eqb x) l)
    (λ t. absurd (d.0 (any_same x l t)))
    (λ t. rw t (to_distinct l d.1))

pub distinct_left : (a b : List ℕ) → Distinct (a ++ b) → Distinct a
distinct_left [] b d = tt
distinct_left (x ∷ a) b d = (λ m. d.0 (Memᴰ.append_left b m), distinct_left a b d.1)

-- what stands in the first part stands not in the second
pub distinct_parts : (a b : List ℕ) → Distinct (a ++ b) → (x : ℕ) → In x a → In x b → ⊥
distinct_parts [] b d x m k = Memᴰ.not-nil m
distinct_parts (y ∷ a) b d x m k =
    elim (Memᴰ.cases_cons m) [
      | inl here ↦ d.0 (Memᴰ.append_right a (rw here at k))
      | inr later ↦ distinct_parts a b d.1 x later k
    ]

pub distinct_insert : (a b : List ℕ) (x : ℕ) → (In x (a ++ b) → ⊥) → Distinct (a ++ b) → Distinct (a ++ x ∷ b)
distinct_insert [] b x f d = (f, d)
distinct_insert (y ∷ a) b x f d = (
  λ m.
      elim (Memᴰ.append_cases a m) [
        | inl left ↦ d.0 (Memᴰ.append_left b left)
        | inr right ↦
            elim (Memᴰ.cases_cons right) [
              | inl here ↦ f (Memᴰ.head (sym here))
              | inr later ↦ d.0 (Memᴰ.append_right a later)
            ]
      ],
  distinct_insert a b x (λ m. f (Memᴰ.tail m)) d.1,
)

pub distinct_keep : (p : ℕ → Bool) (a b : List ℕ) → Distinct (a ++ b) → Distinct (keep p a ++ b)
unfolding keep
distinct_keep p [] b d = d
distinct_keep p (x ∷ a) b d =
    on_test (p x)
    (λ t.
    rw (t, keep) (
      λ m.
          elim (Memᴰ.append_cases (keep p a) m) [
            | inl left ↦ d.0 (Memᴰ.append_left b (in_keep p x a left).0)
            | inr right ↦ d.0 (Memᴰ.append_right a right)
          ],
      distinct_keep p a b d.1,
    ))
    (λ t. rw (t, keep) (distinct_keep p a b d.1))

pub keep_distinct : (p : ℕ → Bool) (l : List ℕ) → Distinct l → Distinct (keep p l)
keep_distinct p l d = rw append-nil at (distinct_keep p l [] (rw (append-nil l) d))

-- Without one number.
abbrev pub other : ℕ → ℕ → Bool
other i x = not (eqb x i)

abbrev pub without : ℕ → List ℕ → List ℕ
without i l = keep (other i) l

pub other_true : (i x : ℕ) → (x ≡ i → ⊥) → other i x ≡ true
other_true i x h = rw (ne_eqb x i h) refl

pub other_same : (i x : ℕ) → x ≡ i → other i x ≡ false
other_same i x h = rw (eq-eqb x i h) refl

pub in_without : (i x : ℕ) (l : List ℕ) → In x (without i l) → In x l × (x ≡ i → ⊥)
in_without i x l m =
    let k = in_keep (other i) x l m in
    (k.0, λ e. true≢false (sym k.1 ∙ other_same i x e))

pub without_absent : (i : ℕ) (l : List ℕ) → (In i l → ⊥) → without i l ≡ l
without_absent i l h = keep_all (other i) l (λ x m. other_true i x (λ e. h (rw e at m)))

pub without_length : (i : ℕ) (l : List ℕ) → Distinct l → In i l → suc (length (without i l)) ≡ length l
unfolding keep
without_length i [] d m = absurd (Memᴰ.not-nil m)
without_length i (x ∷ l) d m =
    elim (Memᴰ.cases_cons m) [
      | inl here ↦
          rw (other_same i x (sym here), keep)
          (ap (λ k. suc (length k)) (without_absent i l (λ k. d.0 (rw here at k))))
      | inr later ↦
          rw (other_true i x (λ e. d.0 (rw (sym e) at later)), keep)
          (ap suc (without_length i l d.1 later))
    ]

-- one number moves to the front of the other part
pub distinct_moved : (i : ℕ) (a b : List ℕ) → In i a → Distinct (a ++ b) → Distinct (without i a ++ i ∷ b)
distinct_moved i a b m d =
    distinct_insert (without i a) b i
    (λ k.
    elim (Memᴰ.append_cases (without i a) k) [
      | inl left ↦ (in_without i i a left).1 refl
      | inr right ↦ distinct_parts a b d i m right
    ])
    (distinct_keep (other i) a b d)

pub in_moved : (i x : ℕ) (a b : List ℕ) → In i a → In x (without i a ++ i ∷ b) → In x (a ++ b)
in_moved i x a b m k =
    elim (Memᴰ.append_cases (without i a) k) [
      | inl left ↦ Memᴰ.append_left b (in_without i x a left).0
      | inr right ↦
          elim (Memᴰ.cases_cons right) [
            | inl here ↦ Memᴰ.append_left {s = a} b (rw here m)
            | inr later ↦ Memᴰ.append_right a later
          ]
    ]
