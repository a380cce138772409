-- The record program's fuel never runs out: a number has fewer digits than itself and one, and a record has a byte.
use mathlib.Core.Path.{◌≡◌, refl, sym, ap, ◌∙◌, fun_ext}
use mathlib.Core.Bool.{true, ◌&&◌}
use mathlib.Core.List.{List, [], ◌∷◌, ◌++◌}
use Prim.Native.Nat.{ℕ, zero, suc, ◌+◌, ◌-◌, ◌/◌, ◌%◌, ◌≤◌, ◌<◌}
use native.Mathlib.Omega.{arith}
use native.Mathlib.Nat.{add-zero, add-suc}
use lib.Dec.{eqb, ltb, leb}
use lib.ListN.{length, get_or, drop, length-drop}
use borrow.Author.Tests.{eqb-true, eq-eqb, ltb-false, leb-true, lt-ltb, le-ltb, le-leb}
use Rattle.rules.specs.Program.{digits, decimal, Phase, act, follow, whole, record_length, kind_of, lines}
use Rattle.rules.proofs.Cases.{on_test}
use Rattle.rules.proofs.Decides.{and_both}

pub digits_enough : (k n : ℕ) → n < k → digits k n ≡ digits (suc k) n
unfolding digits
digits_enough zero n h = absurd (omega arith)
digits_enough (suc k) n h =
    on_test (ltb n 10)
    (λ t. rw (t, digits))
    (λ t.
    rw (t, digits)
    (ap (λ ds. ds ++ ((0x30 + (n % 10)) ∷ [])) (digits_enough k (n / 10) (omega (arith, ltb-false n 10 t)))))

-- The last digit, after those of the rest.
digits_more : (k n : ℕ) → digits (suc n) n ≡ digits (suc (n + k)) n
digits_more zero n = ap (λ (j : ℕ). digits (suc j) n) (sym (add-zero n))
digits_more (suc k) n =
    digits_more k n ∙ digits_enough (suc (n + k)) n (omega arith) ∙ ap (λ (j : ℕ). digits (suc j) n) (sym (add-suc n k))

pub decimal_one : (n : ℕ) → n < 10 → decimal n ≡ (0x30 + n) ∷ []
unfolding decimal digits
decimal_one n low = rw (lt-ltb n 10 low, digits)

pub decimal_last : (n : ℕ) → 10 ≤ n → decimal n ≡ decimal (n / 10) ++ ((0x30 + (n % 10)) ∷ [])
unfolding decimal digits
decimal_last n high =
    let rest : n ≡ suc (n / 10 + (n - suc (n / 10))) = omega arith in
    rw (le-ltb n 10 high, digits)
    (ap (λ ds. ds ++ ((0x30 + (n % 10)) ∷ []))
    (ap (λ (j : ℕ). digits j (n / 10)) rest ∙ sym (digits_more (n - suc (n / 10)) (n / 10))))

-- a whole record takes at least a byte, and no more than there are
whole_both : (bs : List ℕ) → whole bs ≡ true → (1 ≤ record_length (kind_of bs)) × (record_length (kind_of bs) ≤ length bs)
unfolding whole
whole_both bs e =
    let first = eqb (get_or bs 0 0) 0x6E && eqb (get_or bs 1 0) 0x74 in
    let takes = leb 1 (record_length (kind_of bs)) in
    let both = and_both (first && takes) (leb (record_length (kind_of bs)) (length bs)) e in
    (leb-true 1 (record_length (kind_of bs)) (and_both first takes both.0).1, leb-true (record_length (kind_of bs)) (length bs) both.1)

-- it begins with the tag
pub whole_tag : (bs : List ℕ) → whole bs ≡ true → (get_or bs 0 0 ≡ 0x6E) × (get_or bs 1 0 ≡ 0x74)
unfolding whole
whole_tag bs e =
    let first = eqb (get_or bs 0 0) 0x6E in
    let second = eqb (get_or bs 1 0) 0x74 in
    let takes = leb 1 (record_length (kind_of bs)) in
    let both = and_both ((first && second) && takes) (leb (record_length (kind_of bs)) (length bs)) e in
    let tags = and_both first second (and_both (first && second) takes both.0).0 in
    (eqb-true (get_or bs 0 0) 0x6E tags.0, eqb-true (get_or bs 1 0) 0x74 tags.1)

pub whole_is : (bs : List ℕ) → get_or bs 0 0 ≡ 0x6E → get_or bs 1 0 ≡ 0x74 → 1 ≤ record_length (kind_of bs) → record_length (kind_of bs) ≤ length bs → whole bs ≡ true
unfolding whole
whole_is bs a b c d =
    rw (eq-eqb (get_or bs 0 0) 0x6E a, eq-eqb (get_or bs 1 0) 0x74 b, le-leb 1 (record_length (kind_of bs)) c, le-leb (record_length (kind_of bs)) (length bs) d)

pub whole_takes : (bs : List ℕ) → whole bs ≡ true → 1 ≤ record_length (kind_of bs)
whole_takes bs e = (whole_both bs e).0

pub whole_fits : (bs : List ℕ) → whole bs ≡ true → record_length (kind_of bs) ≤ length bs
whole_fits bs e = (whole_both bs e).1

pub lines_enough : (k at : ℕ) (p : Phase) (bs : List ℕ) → length bs ≤ k → lines k at p bs ≡ lines (suc k) at p bs
unfolding lines
lines_enough zero at p [] h = refl
lines_enough zero at p (b ∷ bs) h = absurd (omega arith)
lines_enough (suc k) at p [] h = refl
lines_enough (suc k) at p (b ∷ bs) h =
    let n = record_length (kind_of (b ∷ bs)) in
    on_test (whole (b ∷ bs))
    (λ t.
    rw (t, lines)
    (ap (follow (act p (b ∷ bs)) at)
    (fun_ext
    (λ q.
    lines_enough k (at + n) q (drop n (b ∷ bs)) (omega (arith, length-drop n (b ∷ bs), whole_takes (b ∷ bs) t))))))
    (λ t. rw (t, lines))
