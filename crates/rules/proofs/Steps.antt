-- Steps that went.
use mathlib.Core.Path.{◌≡◌, refl}
use mathlib.Core.Bool.{Bool, true, false, true≢false}
use Prim.Native.Nat.{ℕ}
use Rattle.rules.specs.Build.{Step, went, refused, and_then}

module _ {A : Type 0} where
  pub went_same : {a b : A} → ◌≡◌ {A = Step A} (went a) (went b) → a ≡ b
  went_same e = cc

  pub refused_not_went : {r : ℕ} {b : A} → ◌≡◌ {A = Step A} (refused r) (went b) → ⊥
  refused_not_went e = let z : ◌≡◌ {A = Bool} true false = cc in true≢false z

-- a chain of steps went because each step went
pub both_went : {A B : Type 0} (m : Step A) (f : A → Step B) (b : B) → and_then m f ≡ went b → (a : A) × (m ≡ went a) × (f a ≡ went b)
unfolding and_then
both_went (went a) f b e = (a, refl, e)
both_went (refused r) f b e = absurd (refused_not_went e)
