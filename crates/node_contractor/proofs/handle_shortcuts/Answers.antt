-- The invariant: of every graph that stood, what is left of the in list and what was done come to the whole, and the next search may begin.
use Prim.Native.Nat.{◌+◌, ◌*◌, ◌≤◌, ◌<◌}
use mathlib.Core.Path.{ap}
use native.Mathlib.Omega.{arith}
use lib.ListN.{length}
use Rattle.std.proofs.lemmas.Result.{err_from_is_err_and}
use Rattle.graph.specs.Promises.{told}
use Rattle.graph.proofs.Answering.{kept_all, kept_on}
use Rattle.search.proofs.Laws.{search_kept_all, search_kept_on}
use Rattle.node_contractor.specs.Work.{work, slices}
use Rattle.search.proofs.Walks.{left_room}
use Rattle.node_contractor.proofs.InArcs.{InsLeft, ins_all, ins_left, ins_coming, ins_on, ins_nearer, ins_stop, ins_done, coming_as, does_came, does_refused}
use Rattle.node_contractor.proofs.handle_shortcuts.Goals as goal
use Rattle.node_contractor.proofs.handle_shortcuts.Goals.{At-loop-place, In-loop-place}

-- of the graph that is there
left : (c : At-loop-place) →
    let a = c.args in
    InsLeft c.requires.2.entering.resting.standing.stands (work a.graph.now a.search.now) (work c.loop-place.graph c.loop-place.search) (slices c.loop-place.graph c.loop-place.search) a.v a.limit c.loop-place.place
left c = let p = c.requires in c.loop-place.invariant.0 p.0 p.1 p.2

-- the place that is read
room : (c : In-loop-place) → (6 * c.loop-place.place + 6 ≤ length c.loop-place.graph.arcs.now) × (c.loop-place.place < length c.loop-place.graph.weights.now)
room c = left_room (ins_left c.requires.2 (let p = c.requires in c.loop-place.invariant.0 p.0 p.1 p.2)) c.loop-place-test.true

pub loop-place-init : goal.loop-place-init
loop-place-init c = (λ n g p. ins_all p, kept_all _, search_kept_all _)

pub bounds-graph-i : goal.bounds-graph-i
bounds-graph-i c = omega (arith, room (goal.at.bounds-graph-i c).In-loop-place)

pub bounds-graph-i-in-loop-place : goal.bounds-graph-i-in-loop-place
bounds-graph-i-in-loop-place c = omega (arith, room (goal.at.bounds-graph-i-in-loop-place c).In-loop-place)

pub bounds-graph-i-in-loop-place-2 : goal.bounds-graph-i-in-loop-place-2
bounds-graph-i-in-loop-place-2 c = omega (arith, room (goal.at.bounds-graph-i-in-loop-place-2 c).In-loop-place)

pub handle_in_arc-requires : goal.handle_in_arc-requires
handle_in_arc-requires c =
    let p = c.requires.2 in
    let y = left (goal.at.handle_in_arc-requires c).At-loop-place in
    let coming = coming_as c.loop-place.invariant.1.pool (ins_coming p y c.loop-place-test.true) in
    (_, y.graph, _, coming)

pub loop-place-smaller : goal.loop-place-smaller
loop-place-smaller c =
    let comes = rw c.loop-place.invariant.1.pool at c.handle_in_arc.ensures.comes in
    ins_nearer c.requires.2 (left (goal.at.loop-place-smaller c).At-loop-place) c.loop-place-test.true comes _ (ap (told _) c.in_ok-handle_in_arc.was)

pub loop-place-preserved : goal.loop-place-preserved
loop-place-preserved c =
    let k = c.loop-place.invariant in
    let comes = rw k.1.pool at c.handle_in_arc.ensures.comes in (
      λ n g p. ins_on p (k.0 n g p) c.loop-place-test.true comes _ (ap (told _) c.in_ok-handle_in_arc.was),
      kept_on k.1 c.handle_in_arc.ensures.kept,
      search_kept_on k.2 c.handle_in_arc.ensures.search_kept,
    )

pub returns-in_err-handle_in_arc : goal.returns-in_err-handle_in_arc
returns-in_err-handle_in_arc c =
    let k = c.loop-place.invariant in
    let comes = rw k.1.pool at c.handle_in_arc.ensures.comes in
    let is = err_from_is_err_and c.from_residual.result c.from_residual.ensures.1 in
    record {
      handles =
          λ n g p.
          rw (is.1, is.2, told) (does_refused (ins_stop p (k.0 n g p) c.loop-place-test.true comes _ (ap (told _) c.in_err-handle_in_arc.was)));
      kept = kept_on k.1 c.handle_in_arc.ensures.kept;
      search_kept = search_kept_on k.2 c.handle_in_arc.ensures.search_kept;
    }

pub returns-clause-handles : goal.returns-clause-handles
returns-clause-handles c = λ n g p. does_came (ins_done p (c.loop-place.invariant.0 n g p) c.loop-place-test.false)
