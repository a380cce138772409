-- Laws of paths: joining them, and taking them along where edges get lighter.
use mathlib.Core.Path.{◌≡◌, refl, ◌∙◌}
use Prim.Native.Nat.{ℕ, ◌+◌, ◌≤◌}
use native.Mathlib.Omega.{arith}
use native.Mathlib.Decide.{ℕ_discrete}
use Rattle.walks.specs.Paths.{Edges, Path, stay, step, Within}

-- each edge has one of the same ends that weighs no more
abbrev pub Lighter : Edges → Edges → Type 0
Lighter E F = (u v w : ℕ) → E u v w → (x : ℕ) × F u v x × (x ≤ w)

pub lighter_refl : (E : Edges) → Lighter E E
lighter_refl E u v w e = (w, e, omega arith)

pub lighter_trans : {E F G : Edges} → Lighter E F → Lighter F G → Lighter E G
lighter_trans p q u v w e =
    let f = p u v w e in
    let g = q u v f.0 f.1 in
    (g.0, g.1, omega (arith, f.2, g.2))

module _ {E : Edges} where
  -- the same path, its start and weight said otherwise
  pub said : {b a c v w : ℕ} → Path E b a w → c ≡ a → v ≡ w → Path E b c v
  said (stay same none) p q = stay (p ∙ same) (q ∙ none)
  said {c = c} (step d x y e sum r) p q = step {a = c} d x y (rw p e) (q ∙ sum) r

  pub edge_path : {a b w : ℕ} → E a b w → Path E b a w
  edge_path {b = b} {w = w} e = step {w = w} b w 0 e (omega arith) (stay refl refl)

  pub edge_within : {a b w : ℕ} → E a b w → Within E a b w
  edge_within {w = w} e = (w, edge_path e, omega arith)

  pub join : {b a c v w : ℕ} → Path E b a v → Path E c b w → Path E c a (v + w)
  join (stay same none) q = said q same (omega arith)
  join {v = v} {w = w} (step d x y e sum p) q = step {w = v + w} d x (y + w) e (omega arith) (join p q)

  pub within_stay : {a b : ℕ} → a ≡ b → Within E a b 0
  within_stay same = (0, stay same refl, omega arith)

  pub within_more : {a b v w : ℕ} → Within E a b v → v ≤ w → Within E a b w
  within_more p h = (p.0, p.1, omega (arith, p.2))

  pub within_join : {a b c v w : ℕ} → Within E a b v → Within E b c w → Within E a c (v + w)
  within_join p q = (p.0 + q.0, join p.1 q.1, omega (arith, p.2, q.2))

  -- a path that leads on has a last edge, with a path before it, for no more
  pub last_edge : {b a w : ℕ} → Path E b a w → (a ≡ b → ⊥) → (u : ℕ) × (x : ℕ) × (y : ℕ) × Path E u a y × E u b x × (y + x ≤ w)
  last_edge (stay same none) apart = absurd (apart same)
  last_edge {b} {a} {w} (step c x y e sum p) apart =
      elim (ℕ_discrete c b) [
        | yes here ↦ (a, x, 0, stay refl refl, rw here at e, omega arith)
        | no on ↦
            let l = last_edge p on in
            (l.0, l.1, x + l.2, step {w = x + l.2} c x l.2 e refl l.3, l.4, omega (arith, l.5))
      ]

  -- where no edge leads to a node, no path leaves others for it
  pub never_at : {v b a w : ℕ} → ((u c x : ℕ) → E u c x → c ≡ v → ⊥) → Path E b a w → (a ≡ v → ⊥) → b ≡ v → ⊥
  never_at none_to (stay same none) away at = away (same ∙ at)
  never_at none_to (step d x y e sum p) away at = never_at none_to p (none_to _ d x e) at

pub lighter_path : {E F : Edges} {b a w : ℕ} → Lighter E F → Path E b a w → Within F a b w
lighter_path l (stay same none) = (0, stay same refl, omega arith)
lighter_path {a = a} l (step d x y e sum p) =
    let f = l a d x e in
    let q = lighter_path l p in
    (f.0 + q.0, step d f.0 q.0 f.1 refl q.1, omega (arith, f.2, q.2))

pub lighter_within : {E F : Edges} {a b w : ℕ} → Lighter E F → Within E a b w → Within F a b w
lighter_within l p = within_more (lighter_path l p.1) p.2
