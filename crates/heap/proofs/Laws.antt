-- What a caller may want to know of a heap, besides what its functions promise.
use mathlib.Core.List.{List, [], ◌∷◌}
use mathlib.Core.Path.{◌≡◌, refl, sym, ap, ◌∙◌}
use Prim.Native.Nat.{ℕ, suc, ◌+◌, ◌*◌, ◌-◌, ◌<◌, ◌≤◌}
use native.Mathlib.Omega.{arith}
use lib.ListN.{length, drop}
use Rattle.rules.specs.Heap.{Item, push}
use Rattle.rules.proofs.Heaps.{push_length}
use Rattle.heap.specs.Items.{item, items, sorted}
use Rattle.heap.specs.Shape.{at, Ordered}
use Rattle.heap.specs.Promises.{Holds, Pushed, Popped}
use Rattle.heap.proofs.Stride.{length_items, at_items}
use Rattle.heap.proofs.Ends.{root_out}

pub length_sorted : (l : List Item) → length (sorted l) ≡ length l
unfolding sorted
length_sorted [] = refl
length_sorted (x ∷ l) = push_length x (sorted l) ∙ ap suc (length_sorted l)

-- a list that begins with x is x and the rest
front : {q r : List Item} {x : Item} → q ≡ x ∷ r → q ≡ x ∷ drop 1 q
front {q} {r} {x} e = e ∙ ap (λ (t : List Item). x ∷ t) (sym (ap (drop 1) e))

-- no items are a heap, and nothing is in it
pub empty_ordered : (xs : List ℕ) → Ordered (items xs 0)
unfolding items
empty_ordered xs = record { parent_first = λ i a b. absurd (omega arith) }

pub empty_sorted : (xs : List ℕ) → sorted (items xs 0) ≡ []
unfolding items sorted
empty_sorted xs = refl

pub holds_none : (xs : List ℕ) → Holds xs 0 []
holds_none xs = record { room = omega arith; ordered = empty_ordered xs; same = empty_sorted xs }

module _ (xs : List ℕ) (len : ℕ) (q : List Item) (h : Holds xs len q) where
  -- as many are in it as it has items
  pub holds_size : length q ≡ len
  holds_size = ap length (sym h.same) ∙ length_sorted (items xs len) ∙ length_items xs len h.room

  -- item 0 leaves first
  pub holds_first : 0 < len → q ≡ item xs 0 ∷ drop 1 q
  holds_first some = front (sym h.same ∙ root (items xs len) h.ordered (rw (length_items xs len h.room) some)
      ∙ ap (λ (x : Item). x ∷ sorted (drop 1 (items xs len))) (at_items xs len 0 h.room some))
    where
      root : (l : List Item) → Ordered l → 0 < length l → sorted l ≡ at l 0 ∷ sorted (drop 1 l)
      root [] o s = absurd (omega arith)
      root (x ∷ l) o s = root_out x l o

  pub holds_push : (ys : List ℕ) (x : Item) → 2 * (len + 1) ≤ length xs → Pushed xs ys len x → Holds ys (len + 1) (push x q)
  holds_push ys x room p = record { room = omega arith; ordered = p.ordered; same = p.same ∙ ap (push x) h.same }

  pub holds_pop : (ys : List ℕ) (x : Item) → Popped xs ys len x → (q ≡ x ∷ drop 1 q) × Holds ys (len - 1) (drop 1 q)
  holds_pop ys x p =
      let e : q ≡ x ∷ sorted (items ys (len - 1)) = sym h.same ∙ p.same in
      (front e, record { room = omega arith; ordered = p.ordered; same = sym (ap (drop 1) e) })
