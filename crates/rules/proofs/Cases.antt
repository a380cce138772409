-- Cases on a test.
use mathlib.Core.Path.{◌≡◌, refl}
use mathlib.Core.Bool.{Bool, true, false, ◌||◌, true≢false, false≢true}

pub on_test {ℓ} : {P : Type ℓ} (b : Bool) → (b ≡ true → P) → (b ≡ false → P) → P
on_test true t f = t refl
on_test false t f = f refl

pub not_both : (b : Bool) → b ≡ true → b ≡ false → ⊥
not_both true p q = true≢false q
not_both false p q = false≢true p

pub neither : (a b : Bool) → (a || b) ≡ false → (a ≡ false) × (b ≡ false)
neither true b e = absurd (true≢false e)
neither false b e = (refl, e)
