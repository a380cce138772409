-- An accepted call met no row: not the first, nor any other.
use mathlib.Core.Path.{◌≡◌, refl}
use mathlib.Core.Bool.{Bool, true, false}
use mathlib.Core.List.{List, ◌∷◌}
use Prim.Native.Nat.{ℕ, suc}
use native.Mathlib.Omega.{arith}
use Rattle.rules.specs.Refusals.{Row, row, first_met}

pub not_met : (n : ℕ) (b : Bool) (rs : List Row) → first_met (row (suc n) b ∷ rs) ≡ 0 → (b ≡ false) × (first_met rs ≡ 0)
unfolding first_met
not_met n true rs e = absurd (omega (arith, e))
not_met n false rs e = (refl, e)
