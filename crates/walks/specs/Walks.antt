-- Links as edges, and a walk over them: with the nodes that it visits.
use Rattle.std.specs.Prelude.{List, [], ◌∷◌, ℕ, ◌+◌}
use Rattle.rules.specs.Lists.{In}
use Rattle.rules.specs.Columns.{Link}

-- a link from u to v of weight w
abbrev pub Linked : List Link → ℕ → ℕ → ℕ → Type 0
Linked ls u v w = In (record { tail = u; head = v; weight = w }) ls

-- a walk over none or more links, to t: where it starts, what its links weigh together, its nodes in order
pub data Walk (ls : List Link) (t : ℕ) : ℕ → ℕ → List ℕ → Type 0 where
  stay : Walk ls t t 0 (t ∷ [])
  step : {u v w x : ℕ} {vs : List ℕ} → Linked ls u v w → Walk ls t v x vs → Walk ls t u (w + x) (u ∷ vs)
