-- Lists laid end to end: where each begins, and what stands there.
use mathlib.Core.Path.{◌≡◌, refl, sym, ◌∙◌, ap}
use mathlib.Core.Logic.{inl, inr}
use mathlib.Core.List.Memᴰ
use mathlib.Core.List.{List, [], ◌∷◌, ◌++◌, map, map-append, append-nil, append_assoc}
use Prim.Native.Nat.{ℕ, zero, suc, ◌+◌, ◌-◌, ◌*◌, ◌≤◌, ◌<◌, zero-le}
use native.Mathlib.Omega.{arith}
use native.Mathlib.Decide.{ℕ_discrete, dec_lt}
use native.Mathlib.Nat.{add-zero, zero-add, add_assoc, mul-suc}
use lib.ListN.{length, get_or, set, take, drop, length-append, length-drop, length-map, get_or-append}
use lib.Seq.{get_or-append-add, drop-cons, set_at, set_out, take-append_seam, drop-append_seam, drop-drop}
use Rattle.rules.specs.Lists.{In, flat_map, over, written, count_from, range}
use Rattle.rules.specs.Build.{running_sums}

-- the first r numbers together
unfoldable pub prefix : List ℕ → ℕ → ℕ
prefix xs zero = 0
prefix [] (suc r) = 0
prefix (x ∷ xs) (suc r) = x + prefix xs r

pub prefix_next : (xs : List ℕ) (r d : ℕ) → r < length xs → prefix xs (suc r) ≡ prefix xs r + get_or xs r d
unfolding prefix
prefix_next [] r d h = absurd (omega arith)
prefix_next (x ∷ xs) zero d h = omega arith
prefix_next (x ∷ xs) (suc r) d h = omega (arith, prefix_next xs r d (omega arith))

pub prefix_most : (xs : List ℕ) (r : ℕ) → r ≤ length xs → prefix xs r ≤ prefix xs (length xs)
unfolding prefix
prefix_most xs zero h = zero-le
prefix_most [] (suc r) h = absurd (omega arith)
prefix_most (x ∷ xs) (suc r) h = omega (arith, prefix_most xs r (omega arith))

-- the list that a place lies in
pub locate : (xs : List ℕ) (e : ℕ) → e < prefix xs (length xs) → (r : ℕ) × (r < length xs) × (prefix xs r ≤ e) × (e < prefix xs (suc r))
unfolding prefix
locate [] e h = absurd (omega arith)
locate (x ∷ xs) e h =
    elim (dec_lt e x) [
      | yes here ↦ (0, omega arith, zero-le, omega arith)
      | no later ↦
          let r = locate xs (e - x) (omega arith) in
          (suc r.0, omega (arith, r.1), omega (arith, r.2), omega (arith, r.3))
    ]

pub sums_at : (xs : List ℕ) (a r d : ℕ) → r ≤ length xs → get_or (running_sums a xs) r d ≡ a + prefix xs r
unfolding running_sums prefix
sums_at [] a zero d h = omega arith
sums_at [] a (suc r) d h = absurd (omega arith)
sums_at (x ∷ xs) a zero d h = omega arith
sums_at (x ∷ xs) a (suc r) d h = omega (arith, sums_at xs (a + x) r d (omega arith))

pub sums_length : (xs : List ℕ) (a : ℕ) → length (running_sums a xs) ≡ suc (length xs)
unfolding running_sums
sums_length [] a = refl
sums_length (x ∷ xs) a = ap suc (sums_length xs (a + x))

module _ {A B : Type 0} (f : A → List B) where
  abbrev pub sizes : List A → List ℕ
  sizes xs = map (λ x. length (f x)) xs

  pub flat_length : (xs : List A) → length (flat_map f xs) ≡ prefix (sizes xs) (length xs)
  unfolding flat_map prefix
  flat_length [] = refl
  flat_length (x ∷ xs) = length-append (f x) (flat_map f xs) ∙ ap (λ n. length (f x) + n) (flat_length xs)

  -- what stands i places after the start of the list of the r-th
  pub flat_at : (xs : List A) (r i : ℕ) (a : A) (b : B) → r < length xs → i < length (f (get_or xs r a)) →
      get_or (flat_map f xs) (prefix (sizes xs) r + i) b ≡ get_or (f (get_or xs r a)) i b
  unfolding flat_map prefix
  flat_at [] r i a b h k = absurd (omega arith)
  flat_at (x ∷ xs) zero i a b h k = rw (zero-add i) (get_or-append (f x) (flat_map f xs) b i k)
  flat_at (x ∷ xs) (suc r) i a b h k =
      rw (add_assoc (length (f x)) (prefix (sizes xs) r) i)
      (get_or-append-add (f x) (flat_map f xs) (prefix (sizes xs) r + i) b ∙ flat_at xs r i a b (omega arith) k)

  pub in_flat : (y : B) (xs : List A) → In y (flat_map f xs) → (x : A) × In x xs × In y (f x)
  unfolding flat_map
  in_flat y [] m = absurd (Memᴰ.not-nil m)
  in_flat y (x ∷ xs) m =
      elim (Memᴰ.append_cases (f x) m) [
        | inl here ↦ (x, Memᴰ.head refl, here)
        | inr later ↦ let r = in_flat y xs later in (r.0, Memᴰ.tail r.1, r.2)
      ]

  pub flat_in : (y : B) (xs : List A) (x : A) → In x xs → In y (f x) → In y (flat_map f xs)
  unfolding flat_map
  flat_in y [] x m n = absurd (Memᴰ.not-nil m)
  flat_in y (z ∷ xs) x m n =
      elim (Memᴰ.cases_cons m) [
        | inl here ↦ Memᴰ.append_left (flat_map f xs) (rw here at n)
        | inr later ↦ Memᴰ.append_right (f z) (flat_in y xs x later n)
      ]

  -- no list longer than k: all together no longer than k for each
  pub flat_at_most : (k : ℕ) (xs : List A) → ((x : A) → In x xs → length (f x) ≤ k) → length (flat_map f xs) ≤ k * length xs
  unfolding flat_map
  flat_at_most k [] h = zero-le
  flat_at_most k (x ∷ xs) h =
      omega (
        arith,
        length-append (f x) (flat_map f xs),
        mul-suc k (length xs),
        h x (Memᴰ.head refl),
        flat_at_most k xs (λ y m. h y (Memᴰ.tail m)),
      )

module _ {A : Type 0} where
  pub over_at : (lent values : List A) (k : ℕ) (d : A) → k < length values → get_or (over lent values) k d ≡ get_or values k d
  unfolding over
  over_at lent values k d h = get_or-append values (drop (length values) lent) d k h

  pub over_length : (lent values : List A) → length values ≤ length lent → length (over lent values) ≡ length lent
  unfolding over
  over_length lent values h = simp (length-append, length-drop) (omega arith)

-- one value more
pub over_next : (lent values : List ℕ) (k x : ℕ) → length values ≡ k → k < length lent →
    set (over lent values) k x ≡ over lent (values ++ x ∷ [])
unfolding over
over_next lent values k x e h =
    ap (λ l. set (values ++ l) k x) (ap (λ j. drop j lent) e ∙ drop-cons lent k 0 h) ∙ set_at values (get_or lent k 0) (drop (suc k) lent) x k e ∙
    sym (append_assoc values (x ∷ []) (drop (suc k) lent)) ∙
    ap (λ j. (values ++ x ∷ []) ++ drop j lent) longer
  where
    longer : suc k ≡ length (values ++ x ∷ [])
    longer = omega (arith, length-append values (x ∷ []))

-- What is written, part after part.
pub written_parts : (lent : List ℕ) (at : ℕ) (xs ys : List ℕ) → written lent at (xs ++ ys) ≡ written (written lent at xs) (at + length xs) ys
unfolding written
written_parts lent at [] ys = rw (add-zero at)
written_parts lent at (x ∷ xs) ys =
    let same : suc at + length xs ≡ at + suc (length xs) = omega arith in
    rw (← same) (written_parts (set lent at x) (suc at) xs ys)

pub written_nowhere : (at : ℕ) (xs : List ℕ) → written [] at xs ≡ []
unfolding written
written_nowhere at [] = refl
written_nowhere at (x ∷ xs) = rw (set_out [] at x zero-le) (written_nowhere (suc at) xs)

written_onward : (lent done xs : List ℕ) (at : ℕ) → length done ≡ at → at + length xs ≤ length lent → written (over lent done) at xs ≡ over lent (done ++ xs)
unfolding written
written_onward lent done [] at e h = rw (append-nil done)
written_onward lent done (x ∷ xs) at e h =
    rw (over_next lent done at x e (omega arith))
    (written_onward lent (done ++ x ∷ []) xs (suc at) (omega (arith, length-append done (x ∷ []))) (omega arith) ∙
    ap (over lent) (append_assoc done (x ∷ []) xs))

pub written_over : (lent xs : List ℕ) → length xs ≤ length lent → written lent 0 xs ≡ over lent xs
unfolding over
written_over lent xs h = written_onward lent [] xs 0 refl (omega arith)

-- of a column of things
pub column_next : {A : Type 0} (lent now : List ℕ) (part : A → ℕ) (found : List A) (f : A) (k x : ℕ) → now ≡ over lent (map part found) → x ≡ part f →
    length found ≡ k → k < length lent → set now k x ≡ over lent (map part (found ++ f ∷ []))
column_next lent now part found f k x now_is x_is e h =
    rw (now_is, x_is, map-append part found (f ∷ [])) (over_next lent (map part found) k (part f) (length-map found part ∙ e) h)

-- values written onward from where others end
pub over_onward : {A : Type 0} (lent old more : List A) (at : ℕ) → at ≡ length old →
    take at (over lent old) ++ over (drop at (over lent old)) more ≡ over lent (old ++ more)
unfolding over
over_onward lent old more at e = rw (e, take-append_seam, drop-append_seam old (drop (length old) lent), drop-drop, length-append, append_assoc)

pub map_at : {A B : Type 0} (f : A → B) (xs : List A) (k : ℕ) (a : A) (b : B) → k < length xs → get_or (map f xs) k b ≡ f (get_or xs k a)
map_at f [] k a b h = absurd (omega arith)
map_at f (x ∷ xs) zero a b h = refl
map_at f (x ∷ xs) (suc k) a b h = map_at f xs k a b (omega arith)

-- numbers counted on
pub in_counted : (a n k : ℕ) → In k (count_from a n) → (a ≤ k) × (k < a + n)
unfolding count_from
in_counted a zero k m = absurd (Memᴰ.not-nil m)
in_counted a (suc n) k m =
    elim (Memᴰ.cases_cons m) [
      | inl here ↦ (omega arith, omega arith)
      | inr later ↦ let r = in_counted (suc a) n k later in (omega (arith, r.0), omega (arith, r.1))
    ]

pub counted_in : (a n k : ℕ) → a ≤ k → k < a + n → In k (count_from a n)
unfolding count_from
counted_in a zero k low high = absurd (omega arith)
counted_in a (suc n) k low high =
    elim (ℕ_discrete k a) [
      | yes same ↦ Memᴰ.head same
      | no more ↦ Memᴰ.tail (counted_in (suc a) n k (omega arith) (omega arith))
    ]

pub counted_at : (a n k d : ℕ) → k < n → get_or (count_from a n) k d ≡ a + k
unfolding count_from
counted_at a zero k d h = absurd (omega arith)
counted_at a (suc n) zero d h = omega arith
counted_at a (suc n) (suc k) d h = omega (arith, counted_at (suc a) n k d (omega arith))

pub counted_length : (a n : ℕ) → length (count_from a n) ≡ n
unfolding count_from
counted_length a zero = refl
counted_length a (suc n) = ap suc (counted_length (suc a) n)

pub in_range : (a b k : ℕ) → In k (range a b) → (a ≤ k) × (k < b)
unfolding range
in_range a b k m = let r = in_counted a (b - a) k m in (r.0, omega (arith, r.0, r.1))

pub range_in : (a b k : ℕ) → a ≤ k → k < b → In k (range a b)
unfolding range
range_in a b k low high = counted_in a (b - a) k low (omega arith)

pub range_length : (a b : ℕ) → length (range a b) ≡ b - a
unfolding range
range_length a b = counted_length a (b - a)

pub range_at : (a b k d : ℕ) → k < b - a → get_or (range a b) k d ≡ a + k
unfolding range
range_at a b k d h = counted_at a (b - a) k d h

pub flat_map_append : {A B : Type 0} (f : A → List B) (xs ys : List A) → flat_map f (xs ++ ys) ≡ flat_map f xs ++ flat_map f ys
unfolding flat_map
flat_map_append f [] ys = refl
flat_map_append f (x ∷ xs) ys = ap (λ zs. f x ++ zs) (flat_map_append f xs ys) ∙ sym (append_assoc (f x) (flat_map f xs) (flat_map f ys))
