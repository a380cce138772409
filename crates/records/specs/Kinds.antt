-- The record at the front of some bytes.
use Rattle.std.specs.Prelude.{true, false, List, ◌≡◌, ℕ, ◌<◌}
use Rattle.rules.specs.Program.{whole, kind_of}

-- its kind, or 0 where it is wrong or cut
unfoldable pub whole_kind : List ℕ → ℕ
whole_kind bs = elim (whole bs) [ true ↦ kind_of bs | false ↦ 0 ]

-- a number read, and its range
pub record Below (bound n r : ℕ) : Type 0 where
  pub is : r ≡ n
  pub low : r < bound
