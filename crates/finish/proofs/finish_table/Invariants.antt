-- The invariant: the first e entries are finished.
use Rattle.rules.specs.Columns.{Side}
use Rattle.rules.specs.Refusals.{BuildCall}
use Rattle.rules.specs.Build.{Building}
use Rattle.finish.specs.Lent.{FinishingAt}
use Rattle.finish.proofs.Finishing.{SoFar}
use Rattle.finish.proofs.finish_table.Given as goal

abbrev pub invariant-loop-e : goal.invariant-loop-e
invariant-loop-e l =
    (k : BuildCall) (b : Building) (s : Side) → FinishingAt k b s l.count l.laid l.tails l.heads l.initial.ins l.initial.outs → SoFar b s l.initial.ins l.initial.outs l.ins l.outs l.e
