-- The sources that are left, from here, are all of them from the start.
use Rattle.std.proofs.Common.{◌≡◌, drop}
use Rattle.rules.specs.Query.{first_step}
use Rattle.turns.specs.Turning.{of}
use Rattle.ends.specs.Given.{list_of}
use Rattle.ends.proofs.first_step.Given as goal

abbrev pub invariant-loop-k : goal.invariant-loop-k
invariant-loop-k l = first_step (drop l.k (list_of l.sources)) (list_of l.targets) (of l.best) ≡ first_step (list_of l.sources) (list_of l.targets) (of l.initial.best)
