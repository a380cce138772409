-- Each return is a test of `ends_fit`.
use Rattle.ends.proofs.Steps.{no_ends, too_many, some_ends}
use Rattle.ends.proofs.ends_fit.Goals as goal

pub returns-then-count-eq0 : goal.returns-then-count-eq0
returns-then-count-eq0 c = no_ends _ _ c.if-count-eq0.true

pub returns-then-count-gt-MAX_ENDS : goal.returns-then-count-gt-MAX_ENDS
returns-then-count-gt-MAX_ENDS c = too_many _ _ c.if-count-gt-MAX_ENDS.true c.if-count-eq0.false

pub returns : goal.returns
returns c = some_ends _ _ c.if-count-gt-MAX_ENDS.false c.if-count-eq0.false
