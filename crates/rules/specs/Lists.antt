-- What the definitions say of lists and tests, beyond the library's.
use Rattle.std.specs.Prelude.{◌≡◌, ◌↔◌, Bool, true, false, not, ◌&&◌, ◌||◌, ℕ, zero, suc, ◌-◌, ◌≤◌, ◌<◌, eqb, length, drop, set, replicate}
use mathlib.Core.List.{List, [], ◌∷◌, ◌++◌, Memᴰ}

-- a test decides a fact: it is true exactly if the fact holds
abbrev pub Decides : Bool → Type 0 → Type 0
Decides b P = (b ≡ true) ↔ P

-- stands in a list
abbrev pub In {ℓ} : {A : Type ℓ} → A → List A → Type ℓ
In a l = Memᴰ a l

module _ {ℓ} {A : Type ℓ} where
  unfoldable pub all : (A → Bool) → List A → Bool
  all p [] = true
  all p (x ∷ xs) = p x && all p xs

  unfoldable pub any : (A → Bool) → List A → Bool
  any p [] = false
  any p (x ∷ xs) = p x || any p xs

  -- those that pass, in their order
  unfoldable pub keep : (A → Bool) → List A → List A
  keep p [] = []
  keep p (x ∷ xs) = elim (p x) [ true ↦ x ∷ keep p xs | false ↦ keep p xs ]

  -- the place of the first that passes; the length where none does
  unfoldable pub position : (A → Bool) → List A → ℕ
  position p [] = 0
  position p (x ∷ xs) = elim (p x) [ true ↦ 0 | false ↦ suc (position p xs) ]

  -- values written over the front of what was lent: the places beyond are left alone
  unfoldable pub over : List A → List A → List A
  over lent values = values ++ drop (length values) lent

  -- every place set to a mark
  unfoldable pub filled : A → List A → List A
  filled mark lent = replicate (length lent) mark

  -- a function that differs at one number
  unfoldable pub update : ℕ → A → (ℕ → A) → ℕ → A
  update at value f k = elim (eqb k at) [ true ↦ value | false ↦ f k ]

module _ {ℓ κ} {A : Type ℓ} {B : Type κ} where
  -- what each element gives, one after the other
  unfoldable pub flat_map : (A → List B) → List A → List B
  flat_map f [] = []
  flat_map f (x ∷ xs) = f x ++ flat_map f xs

-- written from a place on, as far as there are places: beyond the end a store changes nothing
unfoldable pub written : List ℕ → ℕ → List ℕ → List ℕ
written lent at [] = lent
written lent at (x ∷ xs) = written (set lent at x) (suc at) xs

-- n numbers from a on
unfoldable pub count_from : ℕ → ℕ → List ℕ
count_from a zero = []
count_from a (suc n) = a ∷ count_from (suc a) n

-- a, a + 1, .. below b
unfoldable pub range : ℕ → ℕ → List ℕ
range a b = count_from a (b - a)

-- tells the numbers from a to b apart
abbrev pub TellsApart : (ℕ → ℕ) → ℕ → ℕ → Type 0
TellsApart f a b = (d e : ℕ) → a ≤ d → d < b → a ≤ e → e < b → f d ≡ f e → d ≡ e

unfoldable pub distinct : List ℕ → Bool
distinct [] = true
distinct (x ∷ xs) = not (any (eqb x) xs) && distinct xs
