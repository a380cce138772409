-- `reduce_edge` meets its contract: what `find_arc` finds in the tail's list is the first arc of the same ends.
use mathlib.Core.List.{List}
use mathlib.Core.Path.{◌≡◌, sym, ◌∙◌}
use Prim.Native.Nat.{ℕ, ◌+◌, ◌*◌, ◌<◌, ◌≤◌}
use native.Mathlib.Omega.{arith}
use lib.ListN.{length}
use Rattle.rules.specs.Graph.{Arc}
use Rattle.graph.specs.declared.preparation_graph.Pool.{Pool}
use Rattle.lists.specs.Memory.{memory, arc}
use Rattle.graph.specs.Promises.{Addable}
use Rattle.graph.proofs.Reading.{outs_walk}
use Rattle.graph.proofs.Reducing.{place, place_room, reduces_none, reduces_not, reduces_it}
use Rattle.graph.proofs.preparation_graph.reduce_edge.Goals as goal
use Rattle.graph.proofs.preparation_graph.reduce_edge.Goals.{After-find_arc-place, Else-place}

pub find_arc-place-requires : goal.find_arc-place-requires
find_arc-place-requires c =
    let r = c.requires.4 in
    (_, outs_walk r.stands _ r.tail_in)

-- of any graph that stands, what was found
found_place : (c : After-find_arc-place) {n pool : ℕ} {state : Pool} {g : List Arc} →
    let a = c.args in
    (r : Addable n pool (memory a.arcs.now a.nodes.now) a.weights.now state (arc a.tail a.head a.weight a.centre) g) →
    c.find_arc-place.result ≡ place r.stands (arc a.tail a.head a.weight a.centre)
found_place c r = c.find_arc-place.ensures _ (outs_walk r.stands _ r.tail_in)

room : (c : Else-place) →
    let a = c.args in
    (6 * c.find_arc-place.result + 6 ≤ length a.arcs.now) × (c.find_arc-place.result < length a.weights.now)
room c =
    let r = c.requires.4 in
    let a = c.args in
    let e = c.find_arc-place.ensures _ (outs_walk r.stands _ r.tail_in) in
    rw e (place_room r.stands (arc a.tail a.head a.weight a.centre) (λ h. c.if-place.false (e ∙ h)))

pub returns-then-place : goal.returns-then-place
returns-then-place c n pool state g r = reduces_none r.stands _ (sym (found_place (goal.at.returns-then-place c).After-find_arc-place r) ∙ c.if-place.true)

pub bounds-weights-at : goal.bounds-weights-at
bounds-weights-at c = (room (goal.at.bounds-weights-at c).Else-place).1

pub bounds-arcs-at : goal.bounds-arcs-at
bounds-arcs-at c = omega (arith, (room (goal.at.bounds-arcs-at c).Else-place).0)

pub returns-then-weight-weights : goal.returns-then-weight-weights
returns-then-weight-weights c n pool state g r =
    let e = found_place (goal.at.returns-then-weight-weights c).After-find_arc-place r in
    rw e (reduces_it r.stands _ (λ h. c.if-place.false (e ∙ h)) (rw e at c.if-weight-weights.true))

pub returns-else-weight-weights : goal.returns-else-weight-weights
returns-else-weight-weights c n pool state g r =
    let e = found_place (goal.at.returns-else-weight-weights c).After-find_arc-place r in
    reduces_not r.stands _ (λ h. c.if-place.false (e ∙ h)) (rw e at c.if-weight-weights.false)
