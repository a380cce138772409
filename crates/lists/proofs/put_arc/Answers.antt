-- `put_arc` meets its contract: the definition's steps are its calls. The second list is still as it was when the first has grown.
use mathlib.Core.List.{List}
use mathlib.Core.Path.{refl, ap, ◌∙◌}
use Prim.Native.Nat.{ℕ}
use native.Mathlib.Omega.{arith}
use Rattle.lists.specs.Memory.{Memory, memory}
use Rattle.lists.specs.Steps.{append, put}
use Rattle.lists.proofs.Stores.{Beside, beside_append, open_long, open_beside}
use Rattle.lists.proofs.put_arc.Goals as goal

pub append-requires : goal.append-requires
append-requires c = (
  open_long (memory c.args.arcs.now c.args.nodes.now) (memory c.write_arc.new.arcs c.args.nodes.now) c.write_arc.auto.arcs refl c.requires.out,
  rw c.write_arc.auto.arcs c.requires.place,
)

pub append-requires-2 : goal.append-requires-2
append-requires-2 c =
    let a = c.args in
    let m : Memory = memory c.write_arc.new.arcs a.nodes.now in
    let b : Beside 0 m (memory c.append.new.arcs c.append.new.nodes) = rw c.append.ensures (beside_append m 0 (omega arith) a.tail a.place) in (
      open_beside b (λ e. omega arith)
          (open_long (memory a.arcs.now a.nodes.now) m c.write_arc.auto.arcs refl c.requires.enter),
      rw (b.arcs_long, c.write_arc.auto.arcs) c.requires.place,
    )

pub returns : goal.returns
unfolding put
returns c =
    let a = c.args in (
      c.append-2.ensures ∙
          ap (λ (m : Memory). append m 1 a.head a.place)
          (c.append.ensures ∙ ap (λ (l : List ℕ). append (memory l a.nodes.now) 0 a.tail a.place) c.write_arc.ensures.0),
      c.write_arc.ensures.1,
    )
