-- How many arcs can be live, and how many entries a table can take.
use mathlib.Core.Path.{◌≡◌, refl, sym, ◌∙◌, ap}
use mathlib.Core.Bool.{true, false≢true}
use mathlib.Core.List.Memᴰ
use mathlib.Core.List.{List, [], ◌∷◌, map}
use Prim.Native.Nat.{ℕ, ◌+◌, ◌-◌, ◌*◌, ◌≤◌, ◌<◌}
use native.Mathlib.Omega.{arith}
use native.Mathlib.Decide.{dec_lt}
use native.Mathlib.Nat.{suc-mul, mul-le-mul_right}
use lib.Dec.{eqb}
use lib.ListN.{length, length-map}
use borrow.Author.Tests.{eq-eqb}
use Rattle.rules.specs.Lists.{In, any, distinct}
use Rattle.rules.specs.Columns.{Link}
use Rattle.rules.specs.Graph.{Arc, joins, Apart}
use Rattle.rules.specs.Build.{Level}
use Rattle.rules.proofs.Decides.{both_and}
use Rattle.rules.proofs.Cases.{on_test}
use Rattle.rules.proofs.Members.{in_map, any_same}
use Rattle.rules.proofs.Positions.{same_position}
use Rattle.rules.proofs.Pigeonhole.{at_most, distinct_more}
use Rattle.build_laws.specs.Runs.{rank_of, GraphOk}

same_ends_join : (x y : Arc) → x.tail ≡ y.tail → x.head ≡ y.head → joins x y ≡ true
unfolding joins
same_ends_join x y p q = both_and _ _ (eq-eqb y.tail x.tail (sym p)) (eq-eqb y.head x.head (sym q))

-- A number by which an arc's ends can be told is never the same for two arcs.
pub codes_distinct : (code : Arc → ℕ) (xs : List Arc) → Apart xs →
    ((x y : Arc) → In x xs → In y xs → code x ≡ code y → (x.tail ≡ y.tail) × (x.head ≡ y.head)) → distinct (map code xs) ≡ true
unfolding distinct
codes_distinct code [] a told = refl
codes_distinct code (x ∷ xs) a told =
    distinct_more (code x) (map code xs)
    (on_test (any (eqb (code x)) (map code xs))
    (λ t.
    let m = in_map code _ xs (any_same (code x) (map code xs) t) in
    let d = told x m.0 (Memᴰ.head refl) (Memᴰ.tail m.1) m.2 in
    absurd (false≢true (sym (a.0 m.0 m.1) ∙ same_ends_join x m.0 d.0 d.1)))
    (λ t. t))
    (codes_distinct code xs a.1 (λ y z my mz. told y z (Memᴰ.tail my) (Memᴰ.tail mz)))

-- two numbers told from one: b and d below m
pair_code : (m a b c d : ℕ) → b < m → d < m → a * m + b ≡ c * m + d → (a ≡ c) × (b ≡ d)
pair_code m a b c d hb hd e =
    elim (dec_lt a c) [
      | yes less ↦ absurd (omega (arith, mul-le-mul_right m less, suc-mul a m))
      | no more ↦
          elim (dec_lt c a) [
            | yes less ↦ absurd (omega (arith, mul-le-mul_right m less, suc-mul c m))
            | no most ↦
                let same : a ≡ c = omega arith in
                (same, omega (arith, ap (λ k. k * m) same))
          ]
    ]

-- of n numbers other than k, the place of i
skip : ℕ → ℕ → ℕ
skip k i = elim (dec_lt i k) [ yes _ ↦ i | no _ ↦ i - 1 ]

skip_below : (n k i : ℕ) → k < n → i < n → (i ≡ k → ⊥) → skip k i < n - 1
unfolding skip
skip_below n k i hk hi off =
    elim (dec_lt i k) as (λ d. elim d as (λ _. ℕ) [ yes _ ↦ i | no _ ↦ i - 1 ] < n - 1) [
      | yes less ↦ omega arith
      | no more ↦ omega arith
    ]

skip_told : (k i j : ℕ) → (i ≡ k → ⊥) → (j ≡ k → ⊥) → skip k i ≡ skip k j → i ≡ j
unfolding skip
skip_told k i j offi offj =
    elim (dec_lt i k) as (λ d. (elim d as (λ _. ℕ) [ yes _ ↦ i | no _ ↦ i - 1 ]) ≡ skip k j → i ≡ j) [
      | yes less ↦
          elim (dec_lt j k) as (λ d. i ≡ (elim d as (λ _. ℕ) [ yes _ ↦ j | no _ ↦ j - 1 ]) → i ≡ j) [
            | yes _ ↦ λ e. e
            | no more ↦ λ e. absurd (omega arith)
          ]
      | no more ↦
          elim (dec_lt j k) as (λ d. i - 1 ≡ (elim d as (λ _. ℕ) [ yes _ ↦ j | no _ ↦ j - 1 ]) → i ≡ j) [
            | yes less ↦ λ e. absurd (omega arith)
            | no more' ↦ λ e. omega arith
          ]
    ]

module _ (order : List ℕ) (ls : List Link) (levels : List Level) (r t : ℕ) (g : List Arc) (ok : GraphOk order ls levels r t g) where
  abbrev rk : ℕ → ℕ
  rk u = rank_of order u

  code : Arc → ℕ
  code x = rk x.tail * (length order - 1) + skip (rk x.tail) (rk x.head)

  apart_ranks : (x : Arc) → In x g → rk x.head ≡ rk x.tail → ⊥
  apart_ranks x m same = ok.loopless x m (sym (same_position order x.head x.tail same (ok.heads x m).1))

  code_below : (x : Arc) → In x g → code x < length order * (length order - 1)
  unfolding code
  code_below x m =
      let s = skip_below (length order) (rk x.tail) (rk x.head) (ok.tails x m).1 (ok.heads x m).1 (apart_ranks x m) in
      omega (arith, s, mul-le-mul_right (length order - 1) (ok.tails x m).1, suc-mul (rk x.tail) (length order - 1))

  code_told : (x y : Arc) → In x g → In y g → code x ≡ code y → (x.tail ≡ y.tail) × (x.head ≡ y.head)
  unfolding code
  code_told x y mx my e =
      let sx = skip_below (length order) (rk x.tail) (rk x.head) (ok.tails x mx).1 (ok.heads x mx).1 (apart_ranks x mx) in
      let sy = skip_below (length order) (rk y.tail) (rk y.head) (ok.tails y my).1 (ok.heads y my).1 (apart_ranks y my) in
      let p = pair_code (length order - 1) (rk x.tail) _ (rk y.tail) _ sx sy e in
      let heads =
      skip_told (rk x.tail) (rk x.head) (rk y.head) (apart_ranks x mx) (λ z. apart_ranks y my (z ∙ p.0))
      (p.1 ∙ ap (λ k. skip k (rk y.head)) (sym p.0))
      in (
        same_position order x.tail y.tail p.0 (ok.tails x mx).1,
        same_position order x.head y.head heads (ok.heads x mx).1,
      )

  -- no more live arcs than ordered pairs of nodes
  pub live_most : length g ≤ length order * (length order - 1)
  live_most =
      omega (
        arith,
        length-map g code,
        at_most (length order * (length order - 1)) (map code g) (codes_distinct code g ok.apart code_told)
            (λ k m. let x = in_map code k g m in rw x.2 (code_below x.0 x.1)),
      )
