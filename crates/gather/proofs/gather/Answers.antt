-- Each turn takes a record more; where none is taken, the loop ends.
use Rattle.gather.proofs.Columns.{begins}
use Rattle.gather.proofs.gather.Goals as goal

pub loop-more-init : goal.loop-more-init
loop-more-init c = begins _ _ _ _ _ c.requires.0 c.requires.1
