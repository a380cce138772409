-- The stamps of the nodes passed are 0.
use mathlib.Core.Path.{◌≡◌}
use Prim.Native.Nat.{ℕ, ◌<◌}
use Rattle.search.specs.Labels.{stamp}
use Rattle.search.proofs.witness_search.clear_labels.Given as goal

abbrev pub invariant-loop-v : goal.invariant-loop-v
invariant-loop-v l = (k : ℕ) → k < l.v → stamp l.labels k ≡ 0
