-- The shape of a heap: no item leaves before its parent.
use Rattle.std.specs.Prelude.{true, List, ◌≡◌, ℕ, ◌-◌, ◌/◌, ◌<◌, length, get_or}
use Rattle.rules.specs.Heap.{Item, leaves_first}
use Rattle.heap.specs.Items.{pair}

-- where the parent of the item at i stands
abbrev pub parent : ℕ → ℕ
parent i = (i - 1) / 2

abbrev pub at : List Item → ℕ → Item
at l i = get_or l i (pair 0 0)

-- x may leave before y
abbrev pub First : Item → Item → Type 0
First x y = leaves_first x y ≡ true

-- each item but the first: its parent may leave before it
pub record Ordered (l : List Item) : Type 0 where
  pub parent_first : (i : ℕ) → 0 < i → i < length l → First (at l (parent i)) (at l i)
