-- An item on its way: its place is a gap until it is put down. What the steps of `push` and `pop` promise.
use Rattle.std.specs.Prelude.{List, ◌≡◌, ℕ, ◌+◌, ◌*◌, ◌/◌, ◌<◌, ◌≤◌, length, drop, set}
use Rattle.rules.specs.Heap.{Item}
use Rattle.heap.specs.Items.{items, sorted}
use Rattle.heap.specs.Shape.{parent, at, First, Ordered}

-- a store of the item at i
unfoldable pub put : List ℕ → ℕ → Item → List ℕ
put xs i x = set (set xs (2 * i) x.weight) (2 * i + 1) x.node

-- a heap but for a gap at i: what is beside it is in order, and so is what is above and below, across it
pub record Gap (l : List Item) (i : ℕ) : Type 0 where
  pub inside : i < length l
  pub beside : (j : ℕ) → 0 < j → j < length l → (j ≡ i → ⊥) → (parent j ≡ i → ⊥) → First (at l (parent j)) (at l j)
  pub across : (j : ℕ) → 0 < i → j < length l → parent j ≡ i → First (at l (parent i)) (at l j)

-- x may stand in the gap at i, as far as what is below it goes
pub record Above (x : Item) (l : List Item) (i : ℕ) : Type 0 where
  pub first : (j : ℕ) → 0 < j → j < length l → parent j ≡ i → First x (at l j)

-- the item at j is a child of the one at i, and may leave before any other
pub record Leads (l : List Item) (i j : ℕ) : Type 0 where
  pub inside : j < length l
  pub below : i < j
  pub child : parent j ≡ i
  pub first : Above (at l j) l i

-- the gap at i has moved to j: whatever is put there, what is in the heap is the same
pub record Moved (entry exit : List ℕ) (len i j : ℕ) : Type 0 where
  pub gap : Gap (items exit len) j
  pub same : (x : Item) → sorted (set (items exit len) j x) ≡ sorted (set (items entry len) i x)
  pub rest : drop (2 * len) exit ≡ drop (2 * len) entry
  pub long : length exit ≡ length entry

-- the gap at the root has moved to j, where nothing is below
pub record Sunk (entry exit : List ℕ) (len j : ℕ) : Type 0 where
  pub moved : Moved entry exit len 0 j
  pub leaf : len / 2 ≤ j

-- the gap at i is filled by x, perhaps further up
pub record Filled (entry exit : List ℕ) (len i : ℕ) (x : Item) : Type 0 where
  pub ordered : Ordered (items exit len)
  pub same : sorted (items exit len) ≡ sorted (set (items entry len) i x)
  pub rest : drop (2 * len) exit ≡ drop (2 * len) entry
  pub long : length exit ≡ length entry
