-- The program's own limits come before the build.
use Rattle.gateway.proofs.Limiting.{one_fits, one_wrote, two_fits, two_wrote, limited, limits}
use Rattle.gateway.proofs.at_limit.Goals as goal

pub refused_line-requires : goal.refused_line-requires
refused_line-requires c = rw c.into.ensures (one_fits c.if-n-gt32.true c.requires)

pub returns-then-n-gt32 : goal.returns-then-n-gt32
returns-then-n-gt32 c = one_wrote c.if-n-gt32.true (rw c.into.ensures at c.refused_line.ensures)

pub refused_line-requires-then-tails-gt256 : goal.refused_line-requires-then-tails-gt256
refused_line-requires-then-tails-gt256 c = rw c.into-then-tails-gt256.ensures (two_fits c.if-n-gt32.false c.if-tails-gt256.true c.requires)

pub returns-then-tails-gt256 : goal.returns-then-tails-gt256
returns-then-tails-gt256 c = two_wrote c.if-n-gt32.false c.if-tails-gt256.true (rw c.into-then-tails-gt256.ensures at c.refused_line-then-tails-gt256.ensures)

pub build_records-requires : goal.build_records-requires
build_records-requires c = limited c.if-n-gt32.false c.if-tails-gt256.false _ c.u32_at.ensures c.requires

pub returns : goal.returns
returns c = limits c.if-n-gt32.false c.if-tails-gt256.false _ c.u32_at.ensures c.build_records.ensures
