-- The targets that are left, from here, are all of them from the start.
use Rattle.std.proofs.Common.{◌≡◌, drop}
use Rattle.rules.specs.Query.{coincide_all}
use Rattle.turns.specs.Turning.{of}
use Rattle.ends.specs.Given.{end_of, list_of}
use Rattle.ends.proofs.coincide_all.Given as goal

abbrev pub invariant-loop-k : goal.invariant-loop-k
invariant-loop-k l = coincide_all (end_of l.source) (drop l.k (list_of l.targets)) (of l.best) ≡ coincide_all (end_of l.source) (list_of l.targets) (of l.initial.best)
