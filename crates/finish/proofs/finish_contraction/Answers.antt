-- The order's inverse and the last starts are written, and then either table is finished.
use native.Mathlib.Omega.{arith}
use Rattle.rules.specs.Columns.{forward, backward}
use Rattle.finish.proofs.Ending.{ending_inverse, small_fwd, small_bwd, fwd_start_there, bwd_start_there, finishing_forward, finishing_backward, ended}
use Rattle.finish.proofs.finish_contraction.Goals as goal

pub write_ranks-requires : goal.write_ranks-requires
write_ranks-requires c = let q = c.requires in (_, ending_inverse q.2)

pub overflow_cast-fwd_starts : goal.overflow_cast-fwd_starts
overflow_cast-fwd_starts c = omega (arith, small_fwd c.requires.2)

pub bounds-fwd_starts-n : goal.bounds-fwd_starts-n
bounds-fwd_starts-n c = omega (arith, fwd_start_there c.requires.2)

pub overflow_cast-bwd_starts : goal.overflow_cast-bwd_starts
overflow_cast-bwd_starts c = omega (arith, small_bwd c.requires.2)

pub bounds-bwd_starts-n : goal.bounds-bwd_starts-n
bounds-bwd_starts-n c = omega (arith, bwd_start_there c.requires.2)

pub finish_table-requires : goal.finish_table-requires
finish_table-requires c = let q = c.requires in (q.0, q.1, forward, finishing_forward q.2 c.write_ranks.ensures)

pub finish_table-requires-2 : goal.finish_table-requires-2
finish_table-requires-2 c = let q = c.requires in (q.0, q.1, backward, finishing_backward q.2 c.write_ranks.ensures)

pub returns : goal.returns
returns c = λ k b p. ended p c.write_ranks.ensures c.finish_table.ensures c.finish_table-2.ensures
