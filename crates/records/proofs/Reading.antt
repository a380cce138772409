-- What the bytes at an offset say of the record there.
use mathlib.Core.Bool.{true}
use mathlib.Core.List.{List, [], ◌∷◌}
use mathlib.Core.Path.{◌≡◌, refl, sym, ap, ◌∙◌}
use Prim.Native.Nat.{ℕ, suc, ◌+◌, ◌-◌, ◌≤◌, ◌<◌}
use native.Mathlib.Omega.{arith}
use native.Mathlib.Nat.{add-zero}
use native.Mathlib.Numerals.{add-one}
use Rattle.std.specs.Int.{w16, w32, from_le_bytes}
use lib.ListN.{length, get_or, drop, length-drop, get_or-eq_default}
use lib.Seq.{get_or-drop}
use Rattle.rules.specs.Program.{record_length, kind_of, whole, u16_at, u32_at}
use Rattle.rules.proofs.Cases.{on_test}
use Rattle.rules.proofs.ProgramFuel.{whole_tag, whole_is, whole_takes, whole_fits}
use Rattle.records.specs.Kinds.{whole_kind, Below}

-- Numbers, by the bytes that were read.
pub u16_of : (xs : List ℕ) (at : ℕ) {a b n : ℕ} → a ≡ get_or xs at 0 → b ≡ get_or xs (at + 1) 0 → ((i : ℕ) → get_or xs i 0 < 256) →
    n ≡ from_le_bytes w16 (a ∷ (b ∷ [])) → Below 65536 (u16_at xs at) n
unfolding u16_at
u16_of xs at p q small e =
    let next : get_or xs (at + 1) 0 ≡ get_or xs (suc at) 0 = ap (λ (k : ℕ). get_or xs k 0) (add-one at) in
    record { is = omega (arith, p, q, e, next); low = omega (arith, p, q, e, small at, small (at + 1)) }

pub u32_of : (xs : List ℕ) (at : ℕ) {a b c d n : ℕ} → a ≡ get_or xs at 0 → b ≡ get_or xs (at + 1) 0 → c ≡ get_or xs (at + 2) 0 → d ≡ get_or xs (at + 3) 0 →
    n ≡ from_le_bytes w32 (a ∷ (b ∷ (c ∷ (d ∷ [])))) → n ≡ u32_at xs at
unfolding u32_at u16_at
u32_of xs at p q r s e =
    let one : get_or xs (at + 1) 0 ≡ get_or xs (suc at) 0 = ap (λ (k : ℕ). get_or xs k 0) (omega arith) in
    let two : get_or xs (at + 2) 0 ≡ get_or xs (suc (suc at)) 0 = ap (λ (k : ℕ). get_or xs k 0) (omega arith) in
    let three : get_or xs (at + 3) 0 ≡ get_or xs (suc (suc (suc at))) 0 = ap (λ (k : ℕ). get_or xs k 0) (omega arith) in
    omega (arith, p, q, r, s, e, one, two, three)

module _ (input : List ℕ) (at : ℕ) where
  abbrev bs : List ℕ
  bs = drop at input

  first : get_or bs 0 0 ≡ get_or input at 0
  first = get_or-drop at input 0 0 ∙ ap (λ (k : ℕ). get_or input k 0) (add-zero at)

  kind_here : kind_of bs ≡ get_or input (at + 2) 0
  unfolding kind_of
  kind_here = get_or-drop at input 2 0

  none : (whole bs ≡ true → ⊥) → 0 ≡ whole_kind bs
  unfolding whole_kind
  none never = on_test (whole bs) (λ t. absurd (never t)) (λ f. rw (f, whole_kind))

  pub wrong_tag : (get_or input at 0 ≡ 0x6E → ⊥) → 0 ≡ whole_kind bs
  wrong_tag other = none (λ t. other (sym first ∙ (whole_tag bs t).0))

  pub wrong_second : (get_or input (at + 1) 0 ≡ 0x74 → ⊥) → 0 ≡ whole_kind bs
  wrong_second other = none (λ t. other (sym (get_or-drop at input 1 0) ∙ (whole_tag bs t).1))

  module _ (kind n : ℕ) (here : kind ≡ get_or input (at + 2) 0) (length_is : n ≡ record_length kind) where
    takes : n ≡ record_length (kind_of bs)
    takes = length_is ∙ ap record_length (here ∙ sym kind_here)

    pub wrong_kind : n ≡ 0 → 0 ≡ whole_kind bs
    wrong_kind e = none (λ t. omega (arith, whole_takes bs t, takes))

    pub cut_short : length input - at < n → 0 ≡ whole_kind bs
    cut_short short = none (λ t. omega (arith, whole_fits bs t, takes, length-drop at input))

    pub stands_whole : get_or input at 0 ≡ 0x6E → get_or input (at + 1) 0 ≡ 0x74 → (n ≡ 0 → ⊥) → n ≤ length input - at → kind ≡ whole_kind bs
    unfolding whole_kind
    stands_whole a b some fits =
        rw (
          whole_is bs (first ∙ a) (get_or-drop at input 1 0 ∙ b) (rw (← takes) (positive n some)) (omega (arith, takes, length-drop at input)),
          whole_kind,
        )
        (here ∙ sym kind_here)
      where
        positive : (k : ℕ) → (k ≡ 0 → ⊥) → 1 ≤ k
        positive k more = omega (arith, more)

  -- too few bytes for a kind
  cut_early : length input < at + 3 → 0 ≡ whole_kind bs
  unfolding record_length
  cut_early short =
      wrong_kind 0 0 (sym (get_or-eq_default input 0 {n = at + 2} (omega arith))) refl refl

  pub at_the_end : length input ≤ at → 0 ≡ whole_kind bs
  at_the_end h = cut_early (omega arith)

  pub near_the_end : length input - at < 3 → 0 ≡ whole_kind bs
  near_the_end h = cut_early (omega arith)
