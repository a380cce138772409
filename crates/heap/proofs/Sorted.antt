-- `sorted` does not depend on the order of its list, and whoever may leave before all heads it.
use mathlib.Core.Bool.{Bool, true, false}
use mathlib.Core.List.{List, [], ◌∷◌, ◌++◌}
use mathlib.Core.Path.{◌≡◌, refl, ap, ◌∙◌}
use Prim.Native.Nat.{ℕ, zero, suc, ◌<◌}
use native.Mathlib.Nat.{le_of_suc-le-suc, not-suc-le-zero}
use native.Mathlib.Omega.{arith}
use lib.ListN.{length, set}
use lib.Seq.{set-get_or}
use Rattle.rules.specs.Heap.{Item, leaves_first, push}
use Rattle.heap.specs.Items.{sorted}
use Rattle.heap.specs.Shape.{First, at}
use Rattle.heap.proofs.Order.{first_antisym, first_refl, push_comm, push_nil, push_first, push_later}

pub sorted_nil : sorted [] ≡ []
unfolding sorted
sorted_nil = refl

pub sorted_cons : (x : Item) (l : List Item) → sorted (x ∷ l) ≡ push x (sorted l)
unfolding sorted
sorted_cons x l = refl

-- one more at the end is a push
pub sorted_snoc : (l : List Item) (x : Item) → sorted (l ++ x ∷ []) ≡ push x (sorted l)
unfolding sorted
sorted_snoc [] x = refl
sorted_snoc (y ∷ l) x = ap (push y) (sorted_snoc l x) ∙ push_comm y x (sorted l)

-- two items, one in hand and one at i, change places
trade : (l : List Item) (i : ℕ) (x y : Item) → i < length l → push x (sorted (set l i y)) ≡ push y (sorted (set l i x))
unfolding sorted
trade [] i x y h = absurd (not-suc-le-zero h)
trade (z ∷ l) zero x y h = push_comm x y (sorted l)
trade (z ∷ l) (suc i) x y h =
    push_comm x z (sorted (set l i y)) ∙ ap (push z) (trade l i x y (le_of_suc-le-suc h)) ∙ push_comm z y (sorted (set l i x))

trade_at : (l : List Item) (i : ℕ) (x : Item) → i < length l → push (at l i) (sorted (set l i x)) ≡ push x (sorted l)
trade_at l i x h = trade l i (at l i) x h ∙ ap (λ (m : List Item). push x (sorted m)) (set-get_or l i _)

-- a gap moves: what stood at j goes to i, and what is in hand to j
pub sorted_move : (l : List Item) (i j : ℕ) (x : Item) → i < length l → j < length l
    → sorted (set (set l i (at l j)) j x) ≡ sorted (set l i x)
unfolding sorted
sorted_move [] i j x h k = refl
sorted_move (z ∷ l) zero zero x h k = refl
sorted_move (z ∷ l) zero (suc j) x h k = trade_at l j x (le_of_suc-le-suc k)
sorted_move (z ∷ l) (suc i) zero x h k = trade l i x z (le_of_suc-le-suc h)
sorted_move (z ∷ l) (suc i) (suc j) x h k = ap (push z) (sorted_move l i j x (le_of_suc-le-suc h) (le_of_suc-le-suc k))

-- whoever may leave before all of a list heads it
pub heads : (x : Item) (l : List Item) → ((i : ℕ) → i < length l → First x (at l i)) → push x (sorted l) ≡ x ∷ sorted l
unfolding sorted
heads x [] h = push_nil x
heads x (y ∷ l) h = go (leaves_first y x) refl (heads x l (λ i k. h (suc i) (omega arith)))
  where
    go : (t : Bool) → leaves_first y x ≡ t → push x (sorted l) ≡ x ∷ sorted l → push x (push y (sorted l)) ≡ x ∷ push y (sorted l)
    go true p ih = rw (first_antisym y x p (h 0 (omega arith)), ih) (push_first x x (sorted l) (first_refl x))
    go false p ih = push_comm x y (sorted l) ∙ ap (push y) ih ∙ push_later y x (sorted l) p
