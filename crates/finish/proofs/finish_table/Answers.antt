-- The invariant: the first e entries are finished.
use native.Mathlib.Omega.{arith}
use Rattle.finish.proofs.Finishing.{none_finished, entry_at_hand, one_finished, all_finished}
use Rattle.finish.proofs.finish_table.Goals as goal

pub loop-e-init : goal.loop-e-init
loop-e-init c = λ k b s p. none_finished b s _ _

pub open_entry-numbers-requires : goal.open_entry-numbers-requires
open_entry-numbers-requires c =
    let q = c.requires in
    let p = q.3 in
    (q.0, q.1, q.2, _, entry_at_hand p (c.loop-e.invariant q.0 q.1 q.2 p) (omega arith))

pub loop-e-preserved : goal.loop-e-preserved
loop-e-preserved c =
    λ k b s p.
    let x = c.loop-e.invariant k b s p in
    one_finished p x (omega arith) c.open_entry-numbers.result (c.open_entry-numbers.ensures k b s _ (entry_at_hand p x (omega arith)))

pub returns : goal.returns
returns c = λ k b s p. all_finished p (c.loop-e.invariant k b s p) (omega arith)
