-- How a slice stands for items: item i is the weight at 2 * i and the node at 2 * i + 1.
use Rattle.std.specs.Prelude.{List, [], ◌∷◌, ℕ, zero, suc, ◌+◌, ◌*◌, get_or}
use Rattle.rules.specs.Heap.{Item, push}
use Rattle.heap.specs.declared.Item.{Item as Held}

abbrev pub pair : ℕ → ℕ → Item
pair w n = record { weight = w; node = n }

-- the code's item
abbrev pub of : Held → Item
of x = pair x.weight x.node

-- the item at i
unfoldable pub item : List ℕ → ℕ → Item
item xs i = pair (get_or xs (2 * i) 0) (get_or xs (2 * i + 1) 0)

-- the first items of a slice
unfoldable pub items : List ℕ → ℕ → List Item
items xs zero = []
items [] (suc len) = []
items (w ∷ []) (suc len) = []
items (w ∷ n ∷ xs) (suc len) = pair w n ∷ items xs len

-- items in the order in which they leave
unfoldable pub sorted : List Item → List Item
sorted [] = []
sorted (x ∷ l) = push x (sorted l)
