-- Decimal numbers: what the digits say, and how many there are.
use mathlib.Core.Path.{◌≡◌, refl, ◌∙◌}
use mathlib.Core.Logic.{inl, inr}
use mathlib.Core.List.Memᴰ
use mathlib.Core.List.{List, [], ◌∷◌, ◌++◌}
use Prim.Native.Nat.{ℕ, zero, suc, ◌+◌, ◌-◌, ◌*◌, ◌/◌, ◌%◌, ◌^◌, ◌≤◌, ◌<◌}
use native.Mathlib.Omega.{arith}
use native.Mathlib.Nat.{pow-suc}
use lib.Dec.{ltb}
use lib.ListN.{length, get_or, length-append, get_or-append}
use borrow.Author.Tests.{ltb-true, ltb-false}
use Rattle.rules.specs.Program.{digits, decimal}
use Rattle.rules.proofs.Cases.{on_test}
use Rattle.routes.specs.Records.{read, Decimal}

read_append : (a : ℕ) (ds es : List ℕ) → read a (ds ++ es) ≡ read (read a ds) es
unfolding read
read_append a [] es = refl
read_append a (d ∷ ds) es = read_append (10 * a + (d - 0x30)) ds es

one_digit : (n : ℕ) → n < 10 → Decimal n ((0x30 + n) ∷ [])
unfolding read
one_digit n low =
    record {
      says = omega arith;
      digits = λ d m. let same = Memᴰ.eq_of_singleton m in (omega arith, omega arith);
      some = omega arith;
      no_needless_zero = λ long. absurd (omega arith);
    }

-- a number that begins with 0 is 0
zero_first : (n : ℕ) (ds : List ℕ) → Decimal n ds → get_or ds 0 0 ≡ 0x30 → n ≡ 0
unfolding read
zero_first n [] r e = absurd (omega (arith, r.some))
zero_first n (d ∷ []) r e = omega (arith, r.says)
zero_first n (d ∷ (c ∷ ds)) r e = absurd (r.no_needless_zero (omega arith) e)

one_more : (n : ℕ) (ds : List ℕ) → 10 ≤ n → Decimal (n / 10) ds → Decimal n (ds ++ ((0x30 + (n % 10)) ∷ []))
unfolding read
one_more n ds high r =
    let last : List ℕ = (0x30 + (n % 10)) ∷ [] in
    let long = length-append ds last in
    record {
      says = read_append 0 ds last ∙ omega (arith, r.says);
      digits =
          λ d m.
          elim (Memᴰ.append_cases ds m) [
            | inl before ↦ r.digits d before
            | inr here ↦ let same = Memᴰ.eq_of_singleton here in (omega arith, omega arith)
          ];
      some = omega (arith, long);
      no_needless_zero =
          λ _ e. omega (arith, zero_first (n / 10) ds r (rw (get_or-append ds last 0 0 (omega (arith, r.some))) at e));
    }

digits_say : (fuel n : ℕ) → n < fuel → Decimal n (digits fuel n)
unfolding digits
digits_say zero n h = absurd (omega arith)
digits_say (suc fuel) n h =
    on_test (ltb n 10)
    (λ t. rw (t, digits) (one_digit n (ltb-true n 10 t)))
    (λ t.
    let high = ltb-false n 10 t in
    rw (t, digits) (one_more n (digits fuel (n / 10)) high (digits_say fuel (n / 10) (omega arith))))

pub decimal_says : (n : ℕ) → Decimal n (decimal n)
unfolding decimal
decimal_says n = digits_say (suc n) n (omega arith)

digits_few : (k fuel n : ℕ) → n < 10 ^ suc k → length (digits fuel n) ≤ suc k
unfolding digits
digits_few k zero n h = omega arith
digits_few zero (suc fuel) n h =
    on_test (ltb n 10)
    (λ t. rw (t, digits) (omega arith))
    (λ t. absurd (omega (arith, ltb-false n 10 t)))
digits_few (suc k) (suc fuel) n h =
    on_test (ltb n 10)
    (λ t. rw (t, digits) (omega arith))
    (λ t.
    rw (t, digits)
    (omega (
      arith,
      length-append (digits fuel (n / 10)) ((0x30 + (n % 10)) ∷ []),
      digits_few k fuel (n / 10) (omega (arith, pow-suc 10 (suc k))),
    )))

-- so many digits hold a number below so large a power of ten
pub decimal_few : (k n : ℕ) → n < 10 ^ suc k → length (decimal n) ≤ suc k
unfolding decimal
decimal_few k n h = digits_few k (suc n) n h
