-- Paths over any weighted edges: `E u v w` says that an edge leads from u to v and weighs w. Links, arcs of the
-- preparation graph, and the entries of a table are such edges.
use Rattle.std.specs.Prelude.{◌≡◌, ℕ, ◌+◌, ◌≤◌}

abbrev pub Edges : Type 1
Edges = ℕ → ℕ → ℕ → Type 0

-- a path to `b`, from a node, of a weight
pub data Path (E : Edges) (b : ℕ) : ℕ → ℕ → Type 0 where
  stay : {a w : ℕ} → a ≡ b → w ≡ 0 → Path E b a w
  step : {a w : ℕ} (c x y : ℕ) → E a c x → w ≡ x + y → Path E b c y → Path E b a w

-- one of at most that weight
abbrev pub Within : Edges → ℕ → ℕ → ℕ → Type 0
Within E a b w = (x : ℕ) × Path E b a x × (x ≤ w)
