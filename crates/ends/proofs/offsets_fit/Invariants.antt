-- What is left of the column decides as all of it.
use Rattle.std.proofs.Common.{◌≡◌, drop}
use Rattle.rules.specs.Lists.{all}
use Rattle.rules.specs.Refusals.{offset_fits}
use Rattle.ends.proofs.offsets_fit.Given as goal

abbrev pub invariant-loop-offset : goal.invariant-loop-offset
invariant-loop-offset l = all offset_fits (drop l.offset-index l.offsets) ≡ all offset_fits l.offsets
