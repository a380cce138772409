-- `append` meets its contract: its stores are those of the definition, with `follow` between them.
use mathlib.Core.Path.{ap}
use lib.ListN.{length-set}
use Rattle.lists.specs.Memory.{Memory}
use Rattle.lists.specs.Steps.{append, set_last}
use Rattle.lists.proofs.append.Goals as goal

pub follow-requires : goal.follow-requires
follow-requires c = record { side = c.requires.0.side; node = c.requires.0.node; place = λ h. simp length-set (c.requires.0.place h) }

pub returns : goal.returns
unfolding append
returns c =
    let a = c.args in
    ap (λ (m : Memory). set_last m a.side a.node a.place) c.follow.ensures
