-- The invariant: none before e is the one.
use mathlib.Core.Path.{◌≡◌}
use Prim.Native.Nat.{ℕ, ◌≤◌, ◌<◌}
use lib.ListN.{get_or}
use Rattle.finish.proofs.get_edge_id.Given as goal

abbrev pub invariant-loop-e : goal.invariant-loop-e
invariant-loop-e l = (k : ℕ) → get_or l.starts l.r 0 ≤ k → k < l.e → get_or l.neighbours k 0 ≡ l.u → ⊥
