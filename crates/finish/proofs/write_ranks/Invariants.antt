-- The invariant: the first r nodes of the order have their ranks.
use Prim.Native.Nat.{ℕ}
use Rattle.finish.specs.Promises.{Inverse}
use Rattle.finish.proofs.Seeking.{Inverted}
use Rattle.finish.proofs.write_ranks.Given as goal

abbrev pub invariant-loop-r : goal.invariant-loop-r
invariant-loop-r l = (n : ℕ) → Inverse n l.order l.initial.ranks → Inverted n l.order l.initial.ranks l.ranks l.r
