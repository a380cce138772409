-- `predecessor` meets its contract. The loop's invariant: from `at` on the walk goes through the place, and what stands before it,
-- `before` where it is at `at`, is what stands before it from the start. The measure is what is left of the walk.
use mathlib.Core.List.{List}
use Prim.Native.Nat.{ℕ, ◌+◌, ◌≤◌}
use lib.ListN.{length}
use Rattle.rules.specs.Numbers.{invalid}
use Rattle.rules.specs.Lists.{In}
use Rattle.lists.specs.Walks.{column, Walk, steps, before as before_in}
use Rattle.lists.proofs.Walking.{Ahead}
use Rattle.lists.proofs.predecessor.Given as goal

abbrev pub invariant-loop-at : goal.invariant-loop-at
invariant-loop-at here =
    (here.at ≤ invalid) × (here.before ≤ invalid) ×
    ((l : List ℕ) → Walk here.arcs (3 + here.side) here.start l → In here.place l → Ahead here.arcs here.side here.place here.before here.at (before_in invalid here.place l))

abbrev pub decreases-loop-at : goal.decreases-loop-at
decreases-loop-at here = steps (column here.arcs (3 + here.side)) (length here.arcs) here.at
