-- What `push` and `pop` promise: `entry` and `exit` are the slice before and after.
use Rattle.std.specs.Prelude.{List, ◌∷◌, ◌≡◌, ℕ, ◌+◌, ◌*◌, ◌-◌, ◌≤◌, length, drop}
use Rattle.rules.specs.Heap.{Item, push}
use Rattle.heap.specs.Items.{items, sorted}
use Rattle.heap.specs.Shape.{Ordered}

-- the first items of the slice are a heap, and q is what is in it, in the order in which it leaves
pub record Holds (xs : List ℕ) (len : ℕ) (q : List Item) : Type 0 where
  pub room : 2 * len ≤ length xs
  pub ordered : Ordered (items xs len)
  pub same : sorted (items xs len) ≡ q

-- x is in the heap, one item longer
pub record Pushed (entry exit : List ℕ) (len : ℕ) (x : Item) : Type 0 where
  pub ordered : Ordered (items exit (len + 1))
  pub same : sorted (items exit (len + 1)) ≡ push x (sorted (items entry len))
  pub rest : drop (2 * (len + 1)) exit ≡ drop (2 * (len + 1)) entry
  pub long : length exit ≡ length entry

-- x was the first to leave, and the others stand in front
pub record Popped (entry exit : List ℕ) (len : ℕ) (x : Item) : Type 0 where
  pub ordered : Ordered (items exit (len - 1))
  pub same : sorted (items entry len) ≡ x ∷ sorted (items exit (len - 1))
  pub rest : drop (2 * len) exit ≡ drop (2 * len) entry
  pub long : length exit ≡ length entry
