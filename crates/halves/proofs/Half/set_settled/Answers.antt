-- One store.
use mathlib.Core.Path.{refl}
use Rattle.halves.specs.Labels.{put_settled}
use Rattle.halves.proofs.Half.set_settled.Goals as goal

pub returns-clause-mark : goal.returns-clause-mark
unfolding put_settled
returns-clause-mark c = refl
