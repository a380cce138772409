-- `remove_first` meets its contract: its steps are those of `remove`.
use mathlib.Core.List.{List}
use mathlib.Core.Path.{◌≡◌, refl, ap, ◌∙◌}
use Prim.Native.Nat.{ℕ, ◌+◌, ◌*◌, ◌-◌, ◌<◌, ◌≤◌}
use native.Mathlib.Omega.{arith}
use lib.ListN.{length}
use Rattle.rules.specs.Numbers.{invalid}
use Rattle.rules.specs.Lists.{keep}
use Rattle.rules.specs.Graph.{Arc}
use Rattle.lists.specs.Memory.{Memory, memory, at, first, ends_at}
use Rattle.graph.specs.Stands.{Stands}
use Rattle.lists.specs.Steps.{set_at, unlink, remove}
use Rattle.lists.specs.Walks.{before}
use Rattle.lists.specs.Promises.{Room}
use Rattle.graph.specs.Promises.{state_of}
use Rattle.graph.proofs.Removing.{place_room, far_inside, far_open, beyond_walk, in_beyond, stands_removed}
use Rattle.graph.proofs.preparation_graph.remove_first.Goals as goal
use Rattle.graph.proofs.preparation_graph.remove_first.Goals.{After-predecessor-before, Start}

-- of the graph that the caller knows of: the place is in the slice, and the other end of its arc is a node
room : (s : Start) → Room (memory s.args.arcs.now s.args.nodes.now) (first (memory s.args.arcs.now s.args.nodes.now) s.args.side s.args.node)
room s = place_room s.requires.2.stands s.args.side s.args.node s.requires.0 s.requires.2.inside s.requires.1

abbrev far : (c : Start) → ℕ
far s =
    let m = memory s.args.arcs.now s.args.nodes.now in
    at m (1 - s.args.side) (first m s.args.side s.args.node)

far_room : (s : Start) → 4 * (let m = memory s.args.arcs.now s.args.nodes.now in
    at m (1 - s.args.side) (first m s.args.side s.args.node)) + 4 ≤ length s.args.nodes.now
far_room s =
    let k = s.requires.2 in
    omega (arith, far_inside k.stands s.args.side s.args.node s.requires.0 k.inside s.requires.1, k.stands.placed.nodes_room)

near_room : (s : Start) → 4 * s.args.node + 4 ≤ length s.args.nodes.now
near_room s = omega (arith, s.requires.2.inside, s.requires.2.stands.placed.nodes_room)

pub bounds-arcs-place : goal.bounds-arcs-place
bounds-arcs-place c = omega (arith, room (goal.at.bounds-arcs-place c).Start)

pub bounds-nodes-far : goal.bounds-nodes-far
bounds-nodes-far c = omega (arith, far_room (goal.at.bounds-nodes-far c).Start)

pub predecessor-before-requires : goal.predecessor-before-requires
predecessor-before-requires c =
    let k = c.requires.2 in (
      omega arith,
      (
        _,
        beyond_walk k.stands c.args.side c.args.node c.requires.0 k.inside c.requires.1,
        in_beyond k.stands c.args.side c.args.node c.requires.0 k.inside c.requires.1,
      ),
    )

-- what `predecessor` found is what stands before the place, of any graph that stands
before_is : (c : After-predecessor-before) {n pool fresh : ℕ} {w : List ℕ} {g : List Arc} →
    let m = memory c.args.arcs.now c.args.nodes.now in
    (here : Stands n pool m w (state_of c.args.free fresh) g) → c.args.node < n →
    c.predecessor-before.result ≡ before invalid (first m c.args.side c.args.node) (keep (ends_at m (1 - c.args.side) (let m = memory c.args.arcs.now c.args.nodes.now in
    at m (1 - c.args.side) (first m c.args.side c.args.node))) here.ids)
before_is c here inside =
    c.predecessor-before.ensures _
    (beyond_walk here c.args.side c.args.node c.requires.0 inside c.requires.1)
    (in_beyond here c.args.side c.args.node c.requires.0 inside c.requires.1)

pub unlink-requires : goal.unlink-requires
unlink-requires c =
    let k = c.requires.2 in (
      far_open k.stands c.args.side c.args.node c.requires.0 k.inside c.requires.1 _ (before_is (goal.at.unlink-requires c).After-predecessor-before k.stands k.inside),
      room (goal.at.unlink-requires c).Start,
    )

pub unlink-requires-2 : goal.unlink-requires-2
unlink-requires-2 c = (
  record { side = c.requires.0; node = omega (arith, near_room (goal.at.unlink-requires-2 c).Start, c.unlink.auto.nodes); place = λ h. absurd (h refl) },
  omega (arith, room (goal.at.unlink-requires-2 c).Start, c.unlink.auto.arcs),
)

pub bounds-arcs-place-2 : goal.bounds-arcs-place-2
bounds-arcs-place-2 c = omega (arith, room (goal.at.bounds-arcs-place-2 c).Start, c.unlink-2.auto.arcs, c.unlink.auto.arcs)

pub returns : goal.returns
unfolding remove
returns c n pool fresh w g here inside =
    let a = c.args in
    let m = memory a.arcs.now a.nodes.now in
    let p = first m a.side a.node in
    let done = c.unlink-2.ensures ∙ ap (λ (m : Memory). unlink m a.side a.node p invalid) c.unlink.ensures in
    rw (ap (λ (m : Memory). set_at m 5 p a.free) done)
    (stands_removed here a.side a.node c.requires.0 inside c.requires.1 c.predecessor-before.result (before_is (goal.at.returns c).After-predecessor-before here inside))
