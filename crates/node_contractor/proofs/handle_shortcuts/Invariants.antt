-- The invariant: of every graph that stood, what is left of the in list and what was done come to the whole, and the next search may begin.
use mathlib.Core.List.{List}
use Prim.Native.Nat.{ℕ}
use lib.ListN.{length}
use Rattle.rules.specs.Graph.{Arc}
use Rattle.lists.specs.Walks.{column, steps}
use Rattle.graph.specs.Promises.{Kept}
use Rattle.search.specs.Promises.{Kept as SearchKept}
use Rattle.node_contractor.specs.Work.{work, slices}
use Rattle.node_contractor.specs.Promises.{Contractible}
use Rattle.node_contractor.proofs.InArcs.{InsLeft}
use Rattle.node_contractor.proofs.handle_shortcuts.Given as goal

abbrev pub invariant-loop-place : goal.invariant-loop-place
invariant-loop-place l =
    ((n : ℕ) (g : List Arc) (p : Contractible (slices l.initial.graph l.initial.search) l.initial.graph.pool (work l.initial.graph l.initial.search) l.v n g) →
    InsLeft p.entering.resting.standing.stands (work l.initial.graph l.initial.search) (work l.graph l.search) (slices l.graph l.search) l.v l.limit l.place) ×
    Kept l.initial.graph l.graph × SearchKept l.initial.search l.search

abbrev pub decreases-loop-place : goal.decreases-loop-place
decreases-loop-place l =
    steps (column l.graph.arcs.now 4) (length l.graph.arcs.now) l.place
