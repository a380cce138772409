-- The stamps passed are cleared.
use Rattle.std.proofs.Common.{◌≡◌, ◌<◌, ℕ}
use Rattle.halves.specs.Labels.{stamp}
use Rattle.halves.proofs.clear.Given as goal

abbrev pub invariant-loop-v : goal.invariant-loop-v
invariant-loop-v l = (k : ℕ) → k < l.v → stamp l.labels k ≡ 0
