-- The invariant: of every graph and search that stood, what is left of the out list and what was done come to the whole.
use Prim.Native.Nat.{◌+◌, ◌*◌, ◌≤◌, ◌<◌}
use mathlib.Core.Path.{ap}
use native.Mathlib.Omega.{arith}
use lib.ListN.{length, get_or}
use Rattle.rules.specs.Numbers.{max_weight}
use Rattle.std.proofs.lemmas.Result.{err_from_is_err_and}
use Rattle.graph.specs.Promises.{told}
use Rattle.graph.proofs.Answering.{kept_all, kept_on}
use Rattle.search.proofs.Laws.{search_kept_all, search_kept_on}
use Rattle.node_contractor.specs.Work.{work, slices}
use Rattle.search.proofs.Walks.{left_fit, left_room}
use Rattle.node_contractor.proofs.Pairs.{steps_came, steps_refused}
use Rattle.node_contractor.proofs.OutArcs.{OutsLeft, outs_all, outs_left, outs_pairing, outs_sum, outs_on, outs_nearer, outs_stop, outs_done, pairing_as}
use Rattle.node_contractor.proofs.handle_out_arcs.Goals as goal
use Rattle.node_contractor.proofs.handle_out_arcs.Goals.{At-loop-place, In-loop-place}

-- of the graph and the search that are there
left : (c : At-loop-place) →
    let a = c.args in
    let p = c.requires in
    OutsLeft p.4.midst.standing.stands (work a.graph.now a.search.now) (work c.loop-place.graph c.loop-place.search) (slices c.loop-place.graph c.loop-place.search) a.v a.limit c.loop-place.place p.2 p.3
left c = let p = c.requires in c.loop-place.invariant.0 p.0 p.1 p.2 p.3 p.4

-- the place that is read
room : (c : In-loop-place) → (6 * c.loop-place.place + 6 ≤ length c.loop-place.graph.arcs.now) × (c.loop-place.place < length c.loop-place.graph.weights.now)
room c = left_room (outs_left c.requires.4 (let p = c.requires in c.loop-place.invariant.0 p.0 p.1 p.2 p.3 p.4)) c.loop-place-test.true

light : (c : In-loop-place) → get_or c.loop-place.graph.weights.now c.loop-place.place 0 ≤ max_weight
light c = (left_fit (outs_left c.requires.4 (let p = c.requires in c.loop-place.invariant.0 p.0 p.1 p.2 p.3 p.4)) c.loop-place-test.true).light

pub loop-place-init : goal.loop-place-init
loop-place-init c = (λ n g a s p. outs_all p, kept_all _, search_kept_all _)

pub bounds-graph-i : goal.bounds-graph-i
bounds-graph-i c = omega (arith, room (goal.at.bounds-graph-i c).In-loop-place)

pub bounds-graph-i-in-loop-place : goal.bounds-graph-i-in-loop-place
bounds-graph-i-in-loop-place c = omega (arith, room (goal.at.bounds-graph-i-in-loop-place c).In-loop-place)

pub bounds-graph-i-in-loop-place-2 : goal.bounds-graph-i-in-loop-place-2
bounds-graph-i-in-loop-place-2 c = omega (arith, room (goal.at.bounds-graph-i-in-loop-place-2 c).In-loop-place)

pub overflow_add-sum : goal.overflow_add-sum
overflow_add-sum c = omega (arith, light (goal.at.overflow_add-sum c).In-loop-place, c.requires.4.at.light)

pub handle_pair-requires : goal.handle_pair-requires
handle_pair-requires c =
    let p = c.requires.4 in
    let y = left (goal.at.handle_pair-requires c).At-loop-place in
    let pairing = pairing_as c.loop-place.invariant.1.pool (outs_pairing p y c.loop-place-test.true) in
    (_, y.graph, y.search, pairing, outs_sum p y c.loop-place-test.true)

pub loop-place-smaller : goal.loop-place-smaller
loop-place-smaller c =
    let pairs = rw c.loop-place.invariant.1.pool at c.handle_pair.ensures.pairs in
    outs_nearer c.requires.4 (left (goal.at.loop-place-smaller c).At-loop-place) c.loop-place-test.true pairs _ (ap (told _) c.in_ok-handle_pair.was)

pub loop-place-preserved : goal.loop-place-preserved
loop-place-preserved c =
    let k = c.loop-place.invariant in
    let pairs = rw k.1.pool at c.handle_pair.ensures.pairs in (
      λ n g a s p. outs_on p (k.0 n g a s p) c.loop-place-test.true pairs _ (ap (told _) c.in_ok-handle_pair.was),
      kept_on k.1 c.handle_pair.ensures.kept,
      search_kept_on k.2 c.handle_pair.ensures.search_kept,
    )

pub returns-in_err-handle_pair : goal.returns-in_err-handle_pair
returns-in_err-handle_pair c =
    let k = c.loop-place.invariant in
    let pairs = rw k.1.pool at c.handle_pair.ensures.pairs in
    let is = err_from_is_err_and c.from_residual.result c.from_residual.ensures.1 in
    record {
      leaves =
          λ n g a s p.
          rw (is.1, is.2, told) (steps_refused (outs_stop p (k.0 n g a s p) c.loop-place-test.true pairs _ (ap (told _) c.in_err-handle_pair.was)));
      kept = kept_on k.1 c.handle_pair.ensures.kept;
      search_kept = search_kept_on k.2 c.handle_pair.ensures.search_kept;
    }

pub returns-clause-leaves : goal.returns-clause-leaves
returns-clause-leaves c = λ n g a s p. steps_came (outs_done p (c.loop-place.invariant.0 n g a s p) c.loop-place-test.false)
