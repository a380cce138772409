-- `add_edge_or_shortcut` meets its contract: a freed place is used again, else a fresh one, and there is none only where the graph
-- fills the pool.
use mathlib.Core.List.{List}
use Prim.Native.Nat.{ℕ, ◌<◌}
use native.Mathlib.Omega.{arith}
use Rattle.rules.specs.Graph.{Arc}
use Rattle.graph.specs.declared.preparation_graph.Pool.{Pool}
use Rattle.lists.specs.Memory.{Memory}
use Rattle.lists.specs.Promises.{CanTake}
use Rattle.graph.specs.Promises.{Addable}
use Rattle.graph.proofs.Answering.{answers_came, answers_full}
use Rattle.graph.proofs.Standing.{takes, freed_below, stands_reused, stands_fresh, pool_full}
use Rattle.graph.proofs.preparation_graph.PreparationGraph.add_edge_or_shortcut.Goals as goal

addable_takes : {n pool p : ℕ} {m : Memory} {w : List ℕ} {state : Pool} {a : Arc} {g : List Arc} → Addable n pool m w state a g → p < pool → CanTake m w p a
addable_takes r below = takes r.stands.placed _ r.stands.weights_room _ below _ r.tail_in r.head_in

pub bounds-arcs-free : goal.bounds-arcs-free
bounds-arcs-free c =
    let r = c.requires.2 in
    omega (arith, freed_below r.stands.placed c.if-free.true, r.stands.placed.arcs_room)

pub put_arc-requires : goal.put_arc-requires
put_arc-requires c =
    let r = c.requires.2 in
    addable_takes r (freed_below r.stands.placed c.if-free.true)

pub returns-then-free-clause-answers : goal.returns-then-free-clause-answers
returns-then-free-clause-answers c n g r = answers_came (rw (c.put_arc.ensures.0, c.put_arc.ensures.1) (stands_reused r.stands _ r.tail_in r.head_in c.if-free.true))

pub put_arc-requires-then-fresh-self : goal.put_arc-requires-then-fresh-self
put_arc-requires-then-fresh-self c = addable_takes c.requires.2 c.if-fresh-self.true

pub returns-then-fresh-self-clause-answers : goal.returns-then-fresh-self-clause-answers
returns-then-fresh-self-clause-answers c n g r = answers_came (rw (c.put_arc-then-fresh-self.ensures.0, c.put_arc-then-fresh-self.ensures.1) (stands_fresh r.stands _ r.tail_in r.head_in c.if-free.false c.if-fresh-self.true))

pub returns-clause-answers : goal.returns-clause-answers
returns-clause-answers c n g r = answers_full (pool_full r.stands _ r.tail_in r.head_in c.if-free.false c.if-fresh-self.false)
