-- The invariant: of every graph and search that stood, what is left of the out list and what was done come to the whole.
use mathlib.Core.List.{List}
use Prim.Native.Nat.{ℕ}
use lib.ListN.{length}
use Rattle.rules.specs.Graph.{Arc}
use Rattle.rules.specs.Search.{Search}
use Rattle.lists.specs.Walks.{column, steps}
use Rattle.graph.specs.Promises.{Kept}
use Rattle.search.specs.Promises.{Kept as SearchKept}
use Rattle.node_contractor.specs.Work.{work, slices}
use Rattle.node_contractor.specs.Promises.{Leaving}
use Rattle.node_contractor.proofs.OutArcs.{OutsLeft}
use Rattle.node_contractor.proofs.handle_out_arcs.Given as goal

abbrev pub invariant-loop-place : goal.invariant-loop-place
invariant-loop-place l =
    ((n : ℕ) (g : List Arc) (a : Arc) (s : Search) (p : Leaving (slices l.initial.graph l.initial.search) l.initial.graph.pool (work l.initial.graph l.initial.search) l.v l.tail l.weight n g a s) →
    OutsLeft p.midst.standing.stands (work l.initial.graph l.initial.search) (work l.graph l.search) (slices l.graph l.search) l.v l.limit l.place a s) ×
    Kept l.initial.graph l.graph × SearchKept l.initial.search l.search

abbrev pub decreases-loop-place : goal.decreases-loop-place
decreases-loop-place l =
    steps (column l.graph.arcs.now 3) (length l.graph.arcs.now) l.place
