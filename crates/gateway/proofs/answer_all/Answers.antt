-- Each turn writes a line and goes a record on.
use native.Mathlib.Omega.{arith}
use Rattle.gateway.proofs.Saying.{says_nothing, ends, bad_fits, ends_badly, line_fits, says_more}
use Rattle.gateway.proofs.answer_all.Goals as goal

pub loop-at-init : goal.loop-at-init
loop-at-init c = says_nothing _ _ _ _ _ _

pub bad_record-requires : goal.bad_record-requires
bad_record-requires c = bad_fits c.loop-at.invariant _ c.kind_at.ensures c.if-kind_at-ne5.true c.loop-at-test.true c.requires.2

pub returns-then-kind_at-ne5 : goal.returns-then-kind_at-ne5
returns-then-kind_at-ne5 c = ends_badly c.loop-at.invariant _ c.kind_at.ensures c.if-kind_at-ne5.true c.loop-at-test.true c.bad_record.ensures

pub answer_record-end-requires : goal.answer_record-end-requires
answer_record-end-requires c = (c.requires.0, omega (arith, c.loop-at-test.true, c.requires.1), line_fits c.loop-at.invariant _ c.kind_at.ensures c.if-kind_at-ne5.false c.requires.2)

pub overflow_add-at : goal.overflow_add-at
overflow_add-at c = omega (arith, c.loop-at-test.true, c.requires.1)

pub loop-at-smaller : goal.loop-at-smaller
loop-at-smaller c = omega (arith, c.loop-at-test.true)

pub loop-at-preserved : goal.loop-at-preserved
loop-at-preserved c = says_more c.loop-at.invariant _ c.kind_at.ensures c.if-kind_at-ne5.false c.answer_record-end.ensures c.answer_record-end.auto.out

pub returns : goal.returns
returns c = ends c.loop-at.invariant c.loop-at-test.false
