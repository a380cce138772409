-- The invariant: what was counted and what is left come to the whole.
use mathlib.Core.List.{List}
use Prim.Native.Nat.{ℕ, ◌+◌}
use lib.ListN.{length}
use Rattle.lists.specs.Walks.{column, Walk, steps}
use Rattle.entries.proofs.Writing.{Counted}
use Rattle.entries.proofs.list_length.Given as goal

abbrev pub invariant-loop-place : goal.invariant-loop-place
invariant-loop-place l =
    (places : List ℕ) → Walk l.arcs (3 + l.side) l.first places → Counted l.arcs (3 + l.side) l.place l.count places

abbrev pub decreases-loop-place : goal.decreases-loop-place
decreases-loop-place l =
    steps (column l.arcs (3 + l.side)) (length l.arcs) l.place
