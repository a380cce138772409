-- The low byte first.
use mathlib.Core.Path.{◌∙◌}
use native.Mathlib.Omega.{arith}
use Rattle.records.proofs.Reading.{u16_of}
use Rattle.records.proofs.u16_at.Goals as goal

pub returns : goal.returns
returns c = u16_of c.args.input.now _ c.byte_at.ensures c.byte_at-2.ensures (λ i. omega (arith, c.type_inv.input i)) (c.from.ensures ∙ c.from_le_bytes.ensures)
