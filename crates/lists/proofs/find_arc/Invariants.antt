-- `find_arc` meets its contract. The loop's invariant: what the walk from `at` on comes upon first is what it would come upon from the
-- start. The measure is what is left of the walk.
use mathlib.Core.Bool.{Bool}
use mathlib.Core.List.{List}
use Prim.Native.Nat.{ℕ, ◌≤◌}
use lib.Dec.{eqb}
use lib.ListN.{length}
use Rattle.rules.specs.Numbers.{invalid}
use Rattle.lists.specs.Walks.{column, Walk, found, steps}
use Rattle.lists.proofs.Walking.{Seeking}
use Rattle.lists.proofs.find_arc.Given as goal

-- the arc at i leads to `head`
abbrev pub heads : List ℕ → ℕ → ℕ → Bool
heads arcs head i = eqb (column arcs 1 i) head

abbrev pub invariant-loop-at : goal.invariant-loop-at
invariant-loop-at here =
    (here.at ≤ invalid) × ((l : List ℕ) → Walk here.arcs 3 here.start l → Seeking here.arcs (heads here.arcs here.head) here.at (found (heads here.arcs here.head) l))

abbrev pub decreases-loop-at : goal.decreases-loop-at
decreases-loop-at here = steps (column here.arcs 3) (length here.arcs) here.at
