-- The front of the walk is written, and one node more.
use mathlib.Core.List.{◌∷◌}
use lib.ListN.{take}
use Rattle.rules.specs.Lists.{flat_map}
use Rattle.rules.specs.Program.{space, decimal}
use Rattle.text.specs.Wrote.{Wrote}
use Rattle.text.proofs.put_nodes.Given as goal

abbrev pub invariant-loop-node : goal.invariant-loop-node
invariant-loop-node l = Wrote l.initial.out l.at (flat_map (λ u. space ∷ decimal u) (take l.node-index l.walk)) l.end l.out
