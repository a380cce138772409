-- The test for ascending links decides that each goes before every later one.
use mathlib.Core.Path.{◌≡◌, refl, ◌∙◌}
use mathlib.Core.Logic.{◌⊎◌, inl, inr}
use mathlib.Core.Bool.{true}
use mathlib.Core.List.Memᴰ
use mathlib.Core.List.{List, [], ◌∷◌}
use Prim.Native.Nat.{ℕ, zero, suc, ◌<◌}
use native.Mathlib.Omega.{arith}
use lib.ListN.{length, get_or}
use Rattle.rules.specs.Lists.{Decides, In}
use Rattle.rules.specs.Columns.{Link}
use Rattle.rules.specs.Refusals.{goes_before, ascending}
use Rattle.rules.proofs.Decides.{ltb_decides, eqb_decides, and_decides, or_decides, and_both, both_and}
use Rattle.rules.proofs.Members.{get_d_in}

-- Links go before one another by (tail, head).
abbrev pub Before : Link → Link → Type 0
Before k l = (k.tail < l.tail) ⊎ ((k.tail ≡ l.tail) × (k.head < l.head))

before_decides : (k l : Link) → Decides (goes_before k l) (Before k l)
unfolding goes_before
before_decides k l =
    or_decides (ltb_decides k.tail l.tail) (and_decides (eqb_decides k.tail l.tail) (ltb_decides k.head l.head))

before_trans : (j k l : Link) → Before j k → Before k l → Before j l
before_trans j k l (inl p) (inl q) = inl (omega arith)
before_trans j k l (inl p) (inr q) = inl (omega (arith, q.0))
before_trans j k l (inr p) (inl q) = inl (omega (arith, p.0))
before_trans j k l (inr p) (inr q) = inr (p.0 ∙ q.0, omega (arith, p.1, q.1))

pub ascending_before : (k : Link) (ls : List Link) → ascending (k ∷ ls) ≡ true → ((l : Link) → In l ls → Before k l) × (ascending ls ≡ true)
unfolding ascending
ascending_before k [] e = (λ l m. absurd (Memᴰ.not-nil m), refl)
ascending_before k (j ∷ ls) e =
    let b = and_both (goes_before k j) (ascending (j ∷ ls)) e in
    let first = (before_decides k j).0 b.0 in
    let rest = ascending_before j ls b.1 in (
      λ l m.
          elim (Memᴰ.cases_cons m) [
            | inl here ↦ rw here first
            | inr later ↦ before_trans k j l first (rest.0 l later)
          ],
      b.1,
    )

module _ (d : Link) where
  abbrev pub EachBefore : List Link → Type 0
  EachBefore ls = (i j : ℕ) → i < j → j < length ls → Before (get_or ls i d) (get_or ls j d)

  each_before : (ls : List Link) → ascending ls ≡ true → EachBefore ls
  each_before [] e i j less h = absurd (omega arith)
  each_before (k ∷ ls) e i zero less h = absurd (omega arith)
  each_before (k ∷ ls) e zero (suc j) less h = (ascending_before k ls e).0 (get_or ls j d) (get_d_in ls j d (omega arith))
  each_before (k ∷ ls) e (suc i) (suc j) less h = each_before ls (ascending_before k ls e).1 i j (omega arith) (omega arith)

  before_each : (ls : List Link) → EachBefore ls → ascending ls ≡ true
  unfolding ascending
  before_each [] f = refl
  before_each (k ∷ []) f = refl
  before_each (k ∷ (l ∷ ls)) f =
      both_and (goes_before k l) (ascending (l ∷ ls)) ((before_decides k l).1 (f 0 1 (omega arith) (omega arith)))
      (before_each (l ∷ ls) (λ i j less h. f (suc i) (suc j) (omega arith) (omega arith)))

  pub ascending_decides : (ls : List Link) → Decides (ascending ls) (EachBefore ls)
  ascending_decides ls = (each_before ls, before_each ls)
