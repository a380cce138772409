-- What the record program writes from an offset of its input on, in a phase.
use Rattle.std.specs.Prelude.{List, ℕ, ◌+◌, length, drop}
use Rattle.rules.specs.Columns.{Link}
use Rattle.rules.specs.Program.{u16_at, u32_at, Phase, lines}

unfoldable pub onward : List ℕ → ℕ → Phase → List ℕ
onward input at p = lines (length (drop at input)) at p (drop at input)

-- the link of a record at an offset
abbrev pub link_from : List ℕ → ℕ → Link
link_from input at = record { tail = u16_at input (at + 3); head = u16_at input (at + 5); weight = u32_at input (at + 7) }
