-- Tests joined by && and || decide facts joined likewise.
use mathlib.Core.Path.{◌≡◌, refl, sym, ◌∙◌}
use mathlib.Core.Logic.{◌↔◌, ◌⊎◌, inl, inr}
use mathlib.Core.Bool.{Bool, true, false, ◌&&◌, ◌||◌, false≢true}
use Prim.Native.Nat.{ℕ, ◌≤◌, ◌<◌}
use lib.Dec.{eqb, ltb, leb}
use borrow.Author.Tests.{ltb-true, leb-true, eqb-true, lt-ltb, le-leb, eq-eqb}
use Rattle.rules.specs.Lists.{Decides}

pub ltb_decides : (a b : ℕ) → Decides (ltb a b) (a < b)
ltb_decides a b = (ltb-true a b, lt-ltb a b)

pub leb_decides : (a b : ℕ) → Decides (leb a b) (a ≤ b)
leb_decides a b = (leb-true a b, le-leb a b)

pub eqb_decides : (a b : ℕ) → Decides (eqb a b) (a ≡ b)
eqb_decides a b = (eqb-true a b, eq-eqb a b)

pub and_both : (a b : Bool) → (a && b) ≡ true → (a ≡ true) × (b ≡ true)
and_both true b e = (refl, e)
and_both false b e = absurd (false≢true e)

pub both_and : (a b : Bool) → a ≡ true → b ≡ true → (a && b) ≡ true
both_and true b p q = q
both_and false b p q = p

pub or_either : (a b : Bool) → (a || b) ≡ true → (a ≡ true) ⊎ (b ≡ true)
or_either true b e = inl refl
or_either false b e = inr e

pub left_or : (a b : Bool) → a ≡ true → (a || b) ≡ true
left_or true b p = refl
left_or false b p = absurd (false≢true p)

pub right_or : (a b : Bool) → b ≡ true → (a || b) ≡ true
right_or true b p = refl
right_or false b p = p

if_and : (a b : Bool) → (elim a as (λ _. Bool) [ true ↦ b | false ↦ false ]) ≡ (a && b)
if_and true b = refl
if_and false b = refl

module _ {a b : Bool} {P Q : Type 0} where
  pub and_decides : Decides a P → Decides b Q → Decides (a && b) (P × Q)
  and_decides p q = (
    λ e. (p.0 (and_both a b e).0, q.0 (and_both a b e).1),
    λ t. both_and a b (p.1 t.0) (q.1 t.1),
  )

  pub or_decides : Decides a P → Decides b Q → Decides (a || b) (P ⊎ Q)
  or_decides p q = (
    λ e. elim (or_either a b e) [ inl x ↦ inl (p.0 x) | inr y ↦ inr (q.0 y) ],
    λ t. elim t [ inl x ↦ left_or a b (p.1 x) | inr y ↦ right_or a b (q.1 y) ],
  )

  -- a test that is made only where another passes
  pub if_decides : Decides a P → Decides b Q → Decides (elim a as (λ _. Bool) [ true ↦ b | false ↦ false ]) (P × Q)
  if_decides p q = (
    λ e. (and_decides p q).0 (sym (if_and a b) ∙ e),
    λ t. if_and a b ∙ (and_decides p q).1 t,
  )

module _ {a : Bool} {P Q : Type 0} where
  pub decides_as : Decides a P → P ↔ Q → Decides a Q
  decides_as p e = (λ t. e.0 (p.0 t), λ t. p.1 (e.1 t))

-- A test that was made.
module _ {P : Type 0} where
  pub yes : P → Decides true P
  yes p = (λ _. p, λ _. refl)

  pub refuses : {b : Bool} → b ≡ false → (P → ⊥) → Decides b P
  refuses e f = (λ t. absurd (false≢true (sym e ∙ t)), λ p. absurd (f p))

  pub no : (P → ⊥) → Decides false P
  no = refuses refl

  -- what it refused
  pub denied : {b : Bool} → Decides b P → b ≡ false → P → ⊥
  denied d e p = false≢true (sym e ∙ d.1 p)
