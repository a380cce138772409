-- The invariant: what was done and what is left of the order come to the whole.
use mathlib.Core.List.{List}
use Prim.Native.Nat.{ℕ}
use Rattle.rules.specs.Columns.{Links, Hierarchy}
use Rattle.graph.specs.Promises.{Kept}
use Rattle.search.specs.Promises.{Kept as SearchKept}
use Rattle.node_contractor.specs.Work.{work, slices}
use Rattle.entries.specs.Lent.{KeptOuts}
use Rattle.contraction.specs.Ranks.{given}
use Rattle.contraction.specs.Lent.{parts_at}
use Rattle.contraction.specs.Promises.{Starting}
use Rattle.contraction.proofs.Running.{Running}
use Rattle.contraction.proofs.run_contraction_with_order.Given as goal

abbrev pub invariant-loop-r : goal.invariant-loop-r
invariant-loop-r at =
    ((n : ℕ) (l : Links) (h : Hierarchy) (s : List ℕ) → Starting (given n l at.order h s) at.limit at.initial.graph.pool (parts_at at.initial.fwd at.initial.bwd) (slices at.initial.graph at.initial.search) (work at.initial.graph at.initial.search) →
    Running (given n l at.order h s) at.limit at.initial.graph.pool at.r (parts_at at.fwd at.bwd) (slices at.graph at.search) (work at.graph at.search) at.ranked.fwd at.ranked.bwd) ×
    Kept at.initial.graph at.graph × SearchKept at.initial.search at.search × KeptOuts at.initial.fwd at.fwd × KeptOuts at.initial.bwd at.bwd
