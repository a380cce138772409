-- `turn` meets its contract: each test on the slices is one on the search.
use mathlib.Core.Path.{◌≡◌, ap}
use Prim.Native.Nat.{◌<◌, ◌≤◌}
use native.Mathlib.Omega.{arith}
use Rattle.rules.specs.Heap.{Item}
use Rattle.rules.specs.Search.{Search}
use Rattle.heap.specs.Items.{item}
use Rattle.search.specs.Searching.{World, lent}
use Rattle.search.specs.Promises.{Asked, Taking}
use Rattle.search.proofs.Takes.{turned_empty, turned_limited, turned_heavy, turned_take}
use Rattle.search.proofs.witness_search.LentSearch.turn.Goals as goal
use Rattle.search.proofs.witness_search.LentSearch.turn.Goals.{After-peek, Else-self-eq0, Else-weight_limit-peek}

some : (c : Else-self-eq0) → 0 < c.args.self.now.round.len
some c = omega (arith, c.if-self-eq0.false)

-- the first entry's weight, as `peek` found it
weighed : (c : After-peek) → c.peek.result.weight ≡ (item c.args.self.now.heap.now 0).weight
weighed c = ap (λ (i : Item). i.weight) c.peek.ensures

light : (c : Else-weight_limit-peek) →
    let a = c.args in
    (item a.self.now.heap.now 0).weight ≤ a.weight_limit
light c = omega (arith, c.if-weight_limit-peek.false, (ap (λ (i : Item). i.weight) c.peek.ensures))

taking : (c : Else-weight_limit-peek) →
    let a = c.args in
    let m = lent a.graph.now.arcs.now a.graph.now.weights.now a.graph.now.nodes.now a.self.now.labels.now a.self.now.heap.now in
    (w : World) (s : Search) → Asked m a.self.now.round.base a.self.now.round.len a.self.now.round.settled a.target a.weight_limit w s →
    Taking m a.self.now.round.base a.self.now.round.len a.self.now.round.settled a.target a.weight_limit w s
taking c w s x =
    record { asked = x; some = (omega (arith, c.if-self-eq0.false)); light = (omega (arith, c.if-weight_limit-peek.false, (ap (λ (i : Item). i.weight) c.peek.ensures))); fits = omega (arith, c.if-settled_nodes_limit-self.false) }

pub returns-then-self-eq0-clause-turns : goal.returns-then-self-eq0-clause-turns
returns-then-self-eq0-clause-turns c = λ w s x. turned_empty x _ _ c.if-self-eq0.true

pub returns-then-settled_nodes_limit-self-clause-turns : goal.returns-then-settled_nodes_limit-self-clause-turns
returns-then-settled_nodes_limit-self-clause-turns c = λ w s x. turned_limited x _ _ (some (goal.at.returns-then-settled_nodes_limit-self-clause-turns c).Else-self-eq0) c.if-settled_nodes_limit-self.true

pub returns-then-weight_limit-peek-clause-turns : goal.returns-then-weight_limit-peek-clause-turns
returns-then-weight_limit-peek-clause-turns c =
    λ w s x.
    turned_heavy x _ _ (some (goal.at.returns-then-weight_limit-peek-clause-turns c).Else-self-eq0) c.if-settled_nodes_limit-self.false (omega (arith, c.if-weight_limit-peek.true, weighed (goal.at.returns-then-weight_limit-peek-clause-turns c).After-peek))

pub returns-clause-turns : goal.returns-clause-turns
returns-clause-turns c =
    λ w s x.
    turned_take x _ _ (some (goal.at.returns-clause-turns c).Else-self-eq0) c.if-settled_nodes_limit-self.false (light (goal.at.returns-clause-turns c).Else-weight_limit-peek)
    (c.take.ensures.takes w s (taking (goal.at.returns-clause-turns c).Else-weight_limit-peek w s x))
