-- Tests over columns, and the first step, end by end.
use mathlib.Core.Bool.{Bool, true, false}
use mathlib.Core.List.{List}
use mathlib.Core.Path.{◌≡◌, sym, ap, ◌∙◌}
use Prim.Native.Nat.{ℕ, ◌+◌, ◌<◌, ◌≤◌}
use native.Mathlib.Numerals.{add-one}
use native.Mathlib.Omega.{arith}
use lib.Dec.{eqb}
use lib.ListN.{length, get_or, drop, drop_of_length-le}
use lib.Seq.{drop-cons}
use borrow.Author.Tests.{lt-ltb, le-ltb, le-leb, lt-leb, eq-eqb, ne_eqb}
use Rattle.rules.specs.Numbers.{max_ends, max_weight, no_weight}
use Rattle.rules.specs.Lists.{all}
use Rattle.rules.specs.Refusals.{ends_fit, offset_fits}
use Rattle.rules.specs.Query.{End, Best, zip_ends, counts, improve, coincide, coincide_all, first_step}
use Rattle.halves.proofs.Entering.{ends_from, ends_length}
use Rattle.ends.specs.Given.{end, given, AllSmall}

-- 21
module _ (nodes offsets : List ℕ) where
  pub no_ends : length nodes ≡ 0 → false ≡ ends_fit (given nodes offsets)
  unfolding ends_fit
  no_ends e = rw (lt-leb 1 (length nodes) (omega arith))

  pub too_many : max_ends < length nodes → (length nodes ≡ 0 → ⊥) → false ≡ ends_fit (given nodes offsets)
  unfolding ends_fit
  too_many more some = rw (le-leb 1 (length nodes) (omega arith), lt-leb (length nodes) max_ends more)

  pub some_ends : length nodes ≤ max_ends → (length nodes ≡ 0 → ⊥) → eqb (length offsets) (length nodes) ≡ ends_fit (given nodes offsets)
  unfolding ends_fit
  some_ends few some = rw (le-leb 1 (length nodes) (omega arith), le-leb (length nodes) max_ends few)

-- 22 and 23: what is left of a column decides as all of it
module _ (p : ℕ → Bool) (xs : List ℕ) (k : ℕ) (so_far : all p (drop k xs) ≡ all p xs) where
  pub fails_here : k < length xs → p (get_or xs k 0) ≡ false → false ≡ all p xs
  unfolding all
  fails_here h f = sym (sym so_far ∙ rw (drop-cons xs k 0 h, f))

  pub holds_here : k < length xs → p (get_or xs k 0) ≡ true → all p (drop (k + 1) xs) ≡ all p xs
  unfolding all
  holds_here h t = rw (add-one k) (sym (rw (drop-cons xs k 0 h, t) at (sym so_far)))

  pub all_hold : length xs ≤ k → true ≡ all p xs
  unfolding all
  all_hold h = sym (sym so_far ∙ rw (drop_of_length-le xs {i = k} h))

pub fitting : (w : ℕ) → w ≤ max_weight → true ≡ offset_fits w
unfolding offset_fits
fitting w low = rw (le-leb w max_weight low)

pub marked : (w : ℕ) → max_weight < w → eqb w no_weight ≡ offset_fits w
unfolding offset_fits
marked w high = rw (lt-leb w max_weight high)

-- the first step
module _ (s o t q : ℕ) (b : Best) where
  pub apart : (s ≡ t → ⊥) → b ≡ coincide (end s o) (end t q) b
  unfolding coincide
  apart d = rw (ne_eqb s t d, coincide)

  pub source_out : s ≡ t → o ≡ no_weight → b ≡ coincide (end s o) (end t q) b
  unfolding coincide counts
  source_out e m = rw (eq-eqb s t e, le-ltb o no_weight (omega arith), coincide)

  pub target_out : s ≡ t → o < no_weight → q ≡ no_weight → b ≡ coincide (end s o) (end t q) b
  unfolding coincide counts
  target_out e c m = rw (eq-eqb s t e, lt-ltb o no_weight c, le-ltb q no_weight (omega arith), coincide)

  pub both_count : s ≡ t → o < no_weight → q < no_weight → improve (o + q) t b ≡ coincide (end s o) (end t q) b
  unfolding coincide counts
  both_count e c d = rw (eq-eqb s t e, lt-ltb o no_weight c, lt-ltb q no_weight d, coincide)

module _ (nodes offsets : List ℕ) (g : AllSmall (given nodes offsets)) (k : ℕ) where
  module _ (s : End) (b₀ b : Best) (so_far : coincide_all s (drop k (zip_ends nodes offsets)) b ≡ coincide_all s (zip_ends nodes offsets) b₀) where
    pub next_target : k < length nodes → (b' : Best) → b' ≡ coincide s (end (get_or nodes k 0) (get_or offsets k 0)) b →
        coincide_all s (drop (k + 1) (zip_ends nodes offsets)) b' ≡ coincide_all s (zip_ends nodes offsets) b₀
    unfolding coincide_all
    next_target h b' e =
        ap (coincide_all s (drop (k + 1) (zip_ends nodes offsets))) e
        ∙ ap (λ ts. coincide_all s ts b) (sym (ends_from nodes offsets k g.even h))
        ∙ so_far

    pub last_target : length nodes ≤ k → b ≡ coincide_all s (zip_ends nodes offsets) b₀
    unfolding coincide_all
    last_target h =
        ap (λ ts. coincide_all s ts b)
        (sym (drop_of_length-le (zip_ends nodes offsets) {i = k} (omega (arith, ends_length nodes offsets g.even))))
        ∙ so_far

  module _ (ts : List End) (b₀ b : Best) (so_far : first_step (drop k (zip_ends nodes offsets)) ts b ≡ first_step (zip_ends nodes offsets) ts b₀) where
    pub next_source : k < length nodes → (b' : Best) → b' ≡ coincide_all (end (get_or nodes k 0) (get_or offsets k 0)) ts b →
        first_step (drop (k + 1) (zip_ends nodes offsets)) ts b' ≡ first_step (zip_ends nodes offsets) ts b₀
    unfolding first_step
    next_source h b' e =
        ap (first_step (drop (k + 1) (zip_ends nodes offsets)) ts) e
        ∙ ap (λ ss. first_step ss ts b) (sym (ends_from nodes offsets k g.even h))
        ∙ so_far

    pub last_source : length nodes ≤ k → b ≡ first_step (zip_ends nodes offsets) ts b₀
    unfolding first_step
    last_source h =
        ap (λ ss. first_step ss ts b)
        (sym (drop_of_length-le (zip_ends nodes offsets) {i = k} (omega (arith, ends_length nodes offsets g.even))))
        ∙ so_far
