-- The number at the front of some bytes, the low byte first; 0 where they are too few.
use Rattle.std.specs.Prelude.{true, false, List, ℕ, ◌+◌, ◌*◌, ◌^◌, leb, length, take, drop}
use Rattle.std.specs.Int.{w32, from_le_bytes}

abbrev pub front_32 : List ℕ → ℕ
front_32 bs = elim (leb 4 (length bs)) [ true ↦ from_le_bytes w32 (take 4 bs) | false ↦ 0 ]

-- the low half first
abbrev pub front_64 : List ℕ → ℕ
front_64 bs = front_32 bs + 2 ^ 32 * front_32 (drop 4 bs)
