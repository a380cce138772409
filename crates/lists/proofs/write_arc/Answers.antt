-- `write_arc` meets its contract: its stores are the definition's.
use mathlib.Core.Path.{refl}
use native.Mathlib.Nat.{add-zero}
use native.Mathlib.Omega.{arith}
use lib.ListN.{length-set}
use Rattle.lists.specs.Steps.{write}
use Rattle.lists.proofs.write_arc.Goals as goal

pub bounds-arcs-at-2 : goal.bounds-arcs-at-2
bounds-arcs-at-2 c = simp length-set (omega arith)

pub bounds-arcs-at-3 : goal.bounds-arcs-at-3
bounds-arcs-at-3 c = simp length-set (omega arith)

pub returns : goal.returns
unfolding write
returns c = (rw add-zero refl, refl)
