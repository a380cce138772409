-- The invariant: what is left of the column decides as all of it.
use mathlib.Core.Path.{sym, ◌∙◌}
use native.Mathlib.Omega.{arith}
use Rattle.ends.proofs.Steps.{fails_here, holds_here, all_hold}
use Rattle.ends.proofs.offsets_fit.Goals as goal

pub returns-then-not-offset_fits : goal.returns-then-not-offset_fits
returns-then-not-offset_fits c = fails_here _ _ _ c.loop-offset.invariant (omega arith) (sym c.offset_fits.ensures ∙ c.if-not-offset_fits.true)

pub loop-offset-preserved : goal.loop-offset-preserved
loop-offset-preserved c = holds_here _ _ _ c.loop-offset.invariant (omega arith) (sym c.offset_fits.ensures ∙ c.if-not-offset_fits.false)

pub returns : goal.returns
returns c = all_hold _ _ c.loop-offset.offset-index c.loop-offset.invariant (omega arith)
