-- Each return is a case of `offset_fits`.
use Rattle.ends.proofs.Steps.{fitting, marked}
use Rattle.ends.proofs.offset_fits.Goals as goal

pub returns-then-light : goal.returns-then-light
returns-then-light c = fitting _ c.if-light.true

pub returns : goal.returns
returns c = marked _ c.if-light.false
