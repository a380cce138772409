-- The invariant: what was written and what is left come to the whole.
use mathlib.Core.List.{List}
use Prim.Native.Nat.{ℕ, ◌+◌}
use lib.ListN.{length}
use Rattle.rules.specs.Graph.{Arc}
use Rattle.lists.specs.Memory.{memory}
use Rattle.lists.specs.Walks.{column, steps}
use Rattle.entries.specs.Laid.{four}
use Rattle.entries.specs.Promises.{Writable}
use Rattle.entries.proofs.Writing.{Written}
use Rattle.entries.proofs.write_entries.Given as goal

abbrev pub invariant-loop-place : goal.invariant-loop-place
invariant-loop-place l =
    (nodes : List ℕ) (list : List Arc) → Writable (memory l.arcs nodes) l.weights l.side l.first list (four l.initial.bases l.initial.neighbours l.initial.entry_weights l.initial.centres) → Written (memory l.arcs nodes) l.weights l.side l.place l.v l.e (four l.initial.bases l.initial.neighbours l.initial.entry_weights l.initial.centres) (four l.bases l.neighbours l.entry_weights l.centres) list

abbrev pub decreases-loop-place : goal.decreases-loop-place
decreases-loop-place l =
    steps (column l.arcs (3 + l.side)) (length l.arcs) l.place
