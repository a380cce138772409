-- What a graph and a search are at a step.
use Rattle.graph.specs.declared.preparation_graph.Pool.{Pool}
use Rattle.graph.specs.declared.preparation_graph.PreparationGraph.{PreparationGraph}
use Rattle.search.specs.declared.witness_search.WitnessSearch.{WitnessSearch}
use Rattle.search.specs.declared.witness_search.LentSearch.{LentSearch}
use Rattle.search.specs.Searching.{Lent, lent}

-- the numbers that go with the slices
pub record Work : Type 0 where
  pub state : Pool
  pub search : WitnessSearch

abbrev pub with_round : PreparationGraph → WitnessSearch → Work
with_round g r = record { state = g.state; search = r }

abbrev pub work : PreparationGraph → LentSearch → Work
work g s = with_round g s.round

-- the slices
abbrev pub slices : PreparationGraph → LentSearch → Lent
slices g s = lent g.arcs.now g.weights.now g.nodes.now s.labels.now s.heap.now
