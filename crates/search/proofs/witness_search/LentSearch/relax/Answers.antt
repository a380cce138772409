-- `relax` meets its contract: what is left of a chain, and what was done, comes to the whole.
use mathlib.Core.Path.{◌∙◌}
use native.Mathlib.Omega.{arith}
use Rattle.search.specs.Promises.{Usable}
use Rattle.search.proofs.Laws.{search_kept_on}
use Rattle.search.proofs.Rows.{Rest, first_usable, first_offering, walk_falls, rest_on, rest_done}
use Rattle.search.proofs.witness_search.LentSearch.relax.Goals as goal
use Rattle.search.proofs.witness_search.LentSearch.relax.Goals.{At-loop-place, In-loop-place}

-- of the row that is there
rest : (c : At-loop-place) →
    let x = c.args.self.now in
    let y = c.loop-place.self in
    let r = c.requires in
    Rest c.args.graph.now.arcs.now c.args.graph.now.weights.now y.labels.now y.heap.now x.round.base x.round.avoid y.round.len c.loop-place.place c.args.weight r.0 r.1
rest c =
    let r = c.requires in
    c.loop-place.invariant.2 r.0 r.1 r.2

usable : (c : In-loop-place) →
    let g = c.args.graph.now in
    let r = c.requires in
    Usable r.0.n g.arcs.now g.weights.now c.loop-place.place
usable c = first_usable (let r = c.requires in
    c.loop-place.invariant.2 r.0 r.1 r.2).relaxing c.loop-place-test.true

pub bounds-graph-i : goal.bounds-graph-i
bounds-graph-i c = omega (arith, (usable (goal.at.bounds-graph-i c).In-loop-place).arc_room)

pub bounds-graph-i-in-loop-place : goal.bounds-graph-i-in-loop-place
bounds-graph-i-in-loop-place c = omega (arith, (usable (goal.at.bounds-graph-i-in-loop-place c).In-loop-place).arc_room)

pub bounds-graph-i-in-loop-place-2 : goal.bounds-graph-i-in-loop-place-2
bounds-graph-i-in-loop-place-2 c = omega (arith, (usable (goal.at.bounds-graph-i-in-loop-place-2 c).In-loop-place).weight_room)

pub overflow_add-weight : goal.overflow_add-weight
overflow_add-weight c = omega (arith, (usable (goal.at.overflow_add-weight c).In-loop-place).light, (rest (goal.at.overflow_add-weight c).At-loop-place).relaxing.light)

pub relax_arc-requires : goal.relax_arc-requires
relax_arc-requires c = first_offering (rest (goal.at.relax_arc-requires c).At-loop-place).relaxing c.loop-place-test.true

pub loop-place-smaller : goal.loop-place-smaller
loop-place-smaller c = walk_falls (rest (goal.at.loop-place-smaller c).At-loop-place).relaxing c.loop-place-test.true

pub loop-place-preserved : goal.loop-place-preserved
loop-place-preserved c =
    let i = c.loop-place.invariant in
    let a = c.relax_arc.ensures in (
      record { base = a.round.base ∙ i.0.base; avoid = a.round.avoid ∙ i.0.avoid; settled = a.round.settled ∙ i.0.settled },
      search_kept_on i.1 a.kept,
      λ r s x. rest_on (i.2 r s x) c.loop-place-test.true (rw (i.0.base, i.0.avoid) at a.crossed) a.kept.heap,
    )

pub returns-clause-relaxes : goal.returns-clause-relaxes
returns-clause-relaxes c = λ r s x. rest_done (c.loop-place.invariant.2 r s x) c.loop-place-test.false
