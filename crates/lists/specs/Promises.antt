-- What the functions ask.
use Rattle.std.specs.Prelude.{List, ◌≡◌, ℕ, ◌+◌, ◌*◌, ◌<◌, ◌≤◌, length}
use Rattle.rules.specs.Numbers.{invalid}
use Rattle.rules.specs.Graph.{Arc}
use Rattle.lists.specs.Memory.{Memory, last}

-- a place's six numbers are within the slice
abbrev pub Room : Memory → ℕ → Type 0
Room m i = 6 * i + 6 ≤ length m.arcs

-- the list of v on side s can be changed after b
pub record Open (m : Memory) (s v b : ℕ) : Type 0 where
  pub side : s < 2
  pub node : 4 * v + 4 ≤ length m.nodes
  pub place : (b ≡ invalid → ⊥) → Room m b

-- place i can take an arc
pub record CanTake (m : Memory) (w : List ℕ) (i : ℕ) (a : Arc) : Type 0 where
  pub place : Room m i
  pub weighed : i < length w
  pub out : Open m 0 a.tail (last m 0 a.tail)
  pub enter : Open m 1 a.head (last m 1 a.head)
