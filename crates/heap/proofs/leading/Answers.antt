-- `heap::leading` meets its contract: of the two children the one returned may leave before the other.
use mathlib.Core.Bool.{Bool, true, false}
use mathlib.Core.List.{List}
use mathlib.Core.Path.{◌≡◌, sym, ap, ◌∙◌}
use Prim.Native.Nat.{ℕ, ◌+◌, ◌*◌, ◌<◌, ◌≤◌}
use native.Mathlib.Nat.{add-zero}
use native.Mathlib.Omega.{arith}
use mir.Val.{bool_byte}
use lib.ListN.{length}
use Rattle.rules.specs.Heap.{leaves_first}
use Rattle.heap.specs.Items.{item, items}
use Rattle.heap.specs.Gaps.{Leads}
use Rattle.heap.proofs.Order.{first_total}
use Rattle.heap.proofs.Slice.{leads_by}
use Rattle.heap.proofs.leading.Goals as goal

bit : (t : Bool) → bool_byte t ≤ 1
bit true = omega arith
bit false = omega arith

-- the left child, or the right one where the test says that it may leave before
by_test : (xs : List ℕ) (len i : ℕ) → 2 * len ≤ length xs → 2 * i + 1 + 1 < len → (t : Bool)
    → t ≡ leaves_first (item xs (2 * i + 1 + 1)) (item xs (2 * i + 1)) → Leads (items xs len) i (2 * i + 1 + bool_byte t)
by_test xs len i room h true e =
    leads_by xs len room i (2 * i + 1 + 1) (2 * i + 1) (omega arith) (omega arith) h (omega arith) (λ _. sym e)
by_test xs len i room h false e =
    rw add-zero
    (leads_by xs len room i (2 * i + 1) (2 * i + 1 + 1) (omega arith) (omega arith) (omega arith) (omega arith)
    (λ _. first_total (item xs (2 * i + 1 + 1)) (item xs (2 * i + 1)) (sym e)))

pub overflow_add-result : goal.overflow_add-result
overflow_add-result c = omega (arith, bit c.first.result)

pub returns : goal.returns
returns c =
    let xs = c.args.heap.now in
    let i = c.args.i in
    by_test xs c.args.len i c.requires.1 (omega arith) c.first.result
    (c.first.ensures ∙ ap (leaves_first (item xs (2 * i + 1 + 1))) c.load.ensures)
