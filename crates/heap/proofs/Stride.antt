-- What a load and a store of the strided slice are to its list of items.
use mathlib.Core.List.{List, [], ◌∷◌, ◌++◌}
use mathlib.Core.Path.{◌≡◌, refl, sym, ap, ◌∙◌}
use Prim.Native.Nat.{ℕ, zero, suc, ◌+◌, ◌*◌, ◌<◌, ◌≤◌}
use native.Mathlib.Nat.{le_of_suc-le-suc, not-suc-le-zero}
use native.Mathlib.Omega.{arith}
use lib.ListN.{length, set, drop, length-set}
use lib.Seq.{drop-set-lt}
use Rattle.rules.specs.Heap.{Item}
use Rattle.heap.specs.Items.{pair, item, items}
use Rattle.heap.specs.Shape.{at}
use Rattle.heap.specs.Gaps.{put}

-- the places of the next item
next : (i : ℕ) → 2 * suc i ≡ suc (suc (2 * i))
next i = omega arith

next_node : (i : ℕ) → 2 * suc i + 1 ≡ suc (suc (2 * i + 1))
next_node i = omega arith

pub length_items : (xs : List ℕ) (len : ℕ) → 2 * len ≤ length xs → length (items xs len) ≡ len
unfolding items
length_items xs zero h = refl
length_items [] (suc len) h = omega arith
length_items (w ∷ []) (suc len) h = omega arith
length_items (w ∷ n ∷ xs) (suc len) h = ap suc (length_items xs len (omega arith))

pub at_items : (xs : List ℕ) (len i : ℕ) → 2 * len ≤ length xs → i < len → at (items xs len) i ≡ item xs i
unfolding items item
at_items xs zero i h k = absurd (not-suc-le-zero k)
at_items [] (suc len) i h k = absurd (omega arith)
at_items (w ∷ []) (suc len) i h k = absurd (omega arith)
at_items (w ∷ n ∷ xs) (suc len) zero h k = refl
at_items (w ∷ n ∷ xs) (suc len) (suc i) h k = rw (next_node i, next i) (at_items xs len i (omega arith) (le_of_suc-le-suc k))

pub items_put : (xs : List ℕ) (len i : ℕ) (x : Item) → items (put xs i x) len ≡ set (items xs len) i x
unfolding items put
items_put xs zero i x = refl
items_put [] (suc len) i x = refl
items_put (w ∷ []) (suc len) zero x = refl
items_put (w ∷ []) (suc len) (suc i) x = rw (next_node i, next i)
items_put (w ∷ n ∷ xs) (suc len) zero x = refl
items_put (w ∷ n ∷ xs) (suc len) (suc i) x = rw (next_node i, next i) (ap (λ (l : List Item). pair w n ∷ l) (items_put xs len i x))

-- one more item
pub items_more : (xs : List ℕ) (len : ℕ) → 2 * suc len ≤ length xs → items xs (suc len) ≡ items xs len ++ item xs len ∷ []
unfolding items item
items_more [] len h = absurd (omega arith)
items_more (w ∷ []) len h = absurd (omega arith)
items_more (w ∷ n ∷ xs) zero h = refl
items_more (w ∷ n ∷ xs) (suc len) h =
    rw (next_node len, next len) (ap (λ (l : List Item). pair w n ∷ l) (items_more xs len (omega arith)))

pub length_put : (xs : List ℕ) (i : ℕ) (x : Item) → length (put xs i x) ≡ length xs
unfolding put
length_put xs i x = simp length-set

-- a store leaves the places beyond alone
pub drop_put : (xs : List ℕ) (len i : ℕ) (x : Item) → i < len → drop (2 * len) (put xs i x) ≡ drop (2 * len) xs
unfolding put
drop_put xs len i x h =
    drop-set-lt (2 * len) _ (2 * i + 1) x.node (omega arith) ∙ drop-set-lt (2 * len) xs (2 * i) x.weight (omega arith)

-- fewer items are the same items
pub at_fewer : (xs : List ℕ) (n len i : ℕ) → 2 * len ≤ length xs → n ≤ len → i < n → at (items xs n) i ≡ at (items xs len) i
at_fewer xs n len i room h k = at_items xs n i (omega arith) k ∙ sym (at_items xs len i room (omega arith))
