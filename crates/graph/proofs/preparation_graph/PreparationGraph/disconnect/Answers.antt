-- `disconnect` meets its contract: the arcs that leave go first, then those that enter.
use native.Mathlib.Omega.{arith}
use Rattle.graph.specs.Promises.{untouched}
use Rattle.graph.proofs.Removing.{disconnected}
use Rattle.graph.proofs.preparation_graph.PreparationGraph.disconnect.Goals as goal

pub remove_side-free-requires : goal.remove_side-free-requires
remove_side-free-requires c =
    let k = c.requires in
    (omega arith, record { nodes = k.0; pool = k.1; fresh = c.args.self.now.state.fresh; weights = k.2; graph = k.3; stands = k.4; inside = k.5 })

pub remove_side-free-requires-2 : goal.remove_side-free-requires-2
remove_side-free-requires-2 c =
    let k = c.requires in (
      omega arith,
      record {
        nodes = k.0;
        pool = k.1;
        fresh = c.args.self.now.state.fresh;
        weights = k.2;
        graph = untouched 0 c.args.v k.3;
        stands = c.remove_side-free.ensures k.0 k.1 c.args.self.now.state.fresh k.2 k.3 k.4 k.5;
        inside = k.5;
      },
    )

pub returns-clause-without : goal.returns-clause-without
returns-clause-without c n pool w g here inside =
    let a = c.args in
    let out = c.remove_side-free.ensures in
    let enter = c.remove_side-free-2.ensures in
    let fresh = a.self.now.state.fresh in
    rw (disconnected g a.v) at (enter n pool fresh w (untouched 0 a.v g) (out n pool fresh w g here inside) inside)
