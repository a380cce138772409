-- The stores of the smallest steps.
use Rattle.std.specs.Prelude.{true, false, List, ℕ, ◌+◌, ◌*◌, ◌-◌, eqb, set}
use Rattle.rules.specs.Numbers.{invalid}
use Rattle.rules.specs.Graph.{Arc}
use Rattle.lists.specs.Memory.{Memory, memory, at, last}

abbrev pub set_at : Memory → ℕ → ℕ → ℕ → Memory
set_at m k i x = memory (set m.arcs (6 * i + k) x) m.nodes

abbrev pub set_first : Memory → ℕ → ℕ → ℕ → Memory
set_first m s v x = memory m.arcs (set m.nodes (4 * v + 2 * s) x)

abbrev pub set_last : Memory → ℕ → ℕ → ℕ → Memory
set_last m s v x = memory m.arcs (set m.nodes (4 * v + (2 * s + 1)) x)

-- in the list of v, `next` follows `before`; where that is no place, it is the first
unfoldable pub follow : Memory → ℕ → ℕ → ℕ → ℕ → Memory
follow m s v before next =
    elim (eqb before invalid) [
      | true ↦ set_first m s v next
      | false ↦ set_at m (3 + s) before next
    ]

-- place i goes to the end of the list of v
unfoldable pub append : Memory → ℕ → ℕ → ℕ → Memory
append m s v i = set_last (follow (set_at m (3 + s) i invalid) s v (last m s v) i) s v i

-- place i, which follows `before`, leaves the list of v
unfoldable pub unlink : Memory → ℕ → ℕ → ℕ → ℕ → Memory
unlink m s v i before =
    elim (eqb (at m (3 + s) i) invalid) [
      | true ↦ set_last (follow m s v before (at m (3 + s) i)) s v before
      | false ↦ follow m s v before (at m (3 + s) i)
    ]

-- an arc is written at place i
unfoldable pub write : List ℕ → ℕ → Arc → List ℕ
write arcs i a = set (set (set arcs (6 * i + 0) a.tail) (6 * i + 1) a.head) (6 * i + 2) a.centre

-- an arc is written at place i, where none was, and goes to the end of both lists
unfoldable pub put : Memory → ℕ → Arc → Memory
put m i a = append (append (memory (write m.arcs i a) m.nodes) 0 a.tail i) 1 a.head i

-- place i, the first in the list of v and which follows `before` in the list of its other end, is freed
unfoldable pub remove : Memory → ℕ → ℕ → ℕ → ℕ → ℕ → Memory
remove m s v i before free =
    set_at (unlink (unlink m (1 - s) (at m (1 - s) i) i before) s v i invalid) 5 i free
