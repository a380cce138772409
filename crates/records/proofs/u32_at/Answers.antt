-- The low byte first.
use Rattle.records.proofs.Reading.{u32_of}
use Rattle.records.proofs.u32_at.Goals as goal

pub returns : goal.returns
returns c = u32_of c.args.input.now _ c.byte_at.ensures c.byte_at-2.ensures c.byte_at-3.ensures c.byte_at-4.ensures c.from_le_bytes.ensures
