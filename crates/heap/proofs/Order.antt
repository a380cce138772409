-- `leaves_first` is a total order, and so the order in which items are pushed leaves no trace.
use mathlib.Core.Bool.{Bool, true, false, true≢false}
use mathlib.Core.List.{List, [], ◌∷◌}
use mathlib.Core.Logic.{◌⊎◌, inl, inr}
use mathlib.Core.Path.{◌≡◌, refl, sym, ◌∙◌}
use Prim.Native.Nat.{◌<◌, ◌≤◌}
use native.Mathlib.Nat.{le_refl}
use native.Mathlib.Omega.{arith}
use lib.Dec.{ltb, leb}
use borrow.Author.Tests.{ltb-true, ltb-false, leb-true, leb-false}
use Rattle.rules.specs.Heap.{Item, leaves_first, push}
use Rattle.rules.specs.Lists.{Decides}
use Rattle.rules.proofs.Decides.{ltb_decides, leb_decides, eqb_decides, and_decides, or_decides}
use Rattle.heap.specs.Shape.{First}

-- what the test says of the numbers
Before : Item → Item → Type 0
Before x y = (x.weight < y.weight) ⊎ ((x.weight ≡ y.weight) × (x.node ≤ y.node))

first_decides : (x y : Item) → Decides (leaves_first x y) (Before x y)
unfolding leaves_first Before
first_decides x y =
    or_decides (ltb_decides x.weight y.weight)
    (and_decides (eqb_decides x.weight y.weight) (leb_decides x.node y.node))

first_says : (x y : Item) → First x y → Before x y
first_says x y = (first_decides x y).0

says_first : (x y : Item) → Before x y → First x y
says_first x y = (first_decides x y).1

pub first_refl : (x : Item) → First x x
unfolding Before
first_refl x = says_first x x (inr (refl, le_refl x.node))

pub first_trans : (x y z : Item) → First x y → First y z → First x z
unfolding Before
first_trans x y z p q = says_first x z (go (first_says x y p) (first_says y z q))
  where
    go : Before x y → Before y z → Before x z
    go (inl a) (inl b) = inl (omega arith)
    go (inl a) (inr b) = inl (omega arith)
    go (inr a) (inl b) = inl (omega arith)
    go (inr a) (inr b) = inr (omega arith)

pub first_antisym : (x y : Item) → First x y → First y x → x ≡ y
unfolding Before
first_antisym x y p q =
    let e : (x.weight ≡ y.weight) × (x.node ≡ y.node) = go (first_says x y p) (first_says y x q) in
    λ i. record { weight = e.0 i; node = e.1 i }
  where
    go : Before x y → Before y x → (x.weight ≡ y.weight) × (x.node ≡ y.node)
    go (inl a) (inl b) = omega arith
    go (inl a) (inr b) = omega arith
    go (inr a) (inl b) = omega arith
    go (inr a) (inr b) = omega arith

pub first_total : (x y : Item) → leaves_first x y ≡ false → First y x
unfolding Before
first_total x y h = says_first y x (go (ltb y.weight x.weight) refl (leb y.node x.node) refl)
  where
    not_before : Before x y → ⊥
    not_before b = true≢false (sym (says_first x y b) ∙ h)

    not_lighter : x.weight < y.weight → ⊥
    not_lighter a = not_before (inl a)

    go : (a : Bool) → ltb y.weight x.weight ≡ a → (b : Bool) → leb y.node x.node ≡ b → Before y x
    go true p b q = inl (ltb-true _ _ p)
    go false p true q = inr (omega (arith, ltb-false y.weight x.weight p, not_lighter, leb-true y.node x.node q))
    go false p false q =
        absurd (not_before (inr (omega (arith, ltb-false y.weight x.weight p, not_lighter, leb-false y.node x.node q))))

pub push_nil : (x : Item) → push x [] ≡ x ∷ []
unfolding push
push_nil x = refl

pub push_first : (x y : Item) (q : List Item) → First x y → push x (y ∷ q) ≡ x ∷ y ∷ q
unfolding push
push_first x y q h = rw (h, push)

pub push_later : (x y : Item) (q : List Item) → leaves_first x y ≡ false → push x (y ∷ q) ≡ y ∷ push x q
unfolding push
push_later x y q h = rw (h, push)

-- y goes behind an x that may leave before it, and stays there if it would head what comes after
behind : (x y : Item) (q : List Item) → First x y → push y q ≡ y ∷ q → push y (x ∷ q) ≡ x ∷ y ∷ q
behind x y q h heads = go (leaves_first y x) refl
  where
    go : (t : Bool) → leaves_first y x ≡ t → push y (x ∷ q) ≡ x ∷ y ∷ q
    go true p = cc (push_first y x q p, first_antisym x y h p)
    go false p = cc (push_later y x q p)

-- who may not leave before z may not leave before an x that may
after : (x y z : Item) → First x z → leaves_first y z ≡ false → leaves_first y x ≡ false
after x y z h p = go (leaves_first y x) refl
  where
    go : (t : Bool) → leaves_first y x ≡ t → leaves_first y x ≡ false
    go true q = absurd (true≢false (sym (first_trans y x z q h) ∙ p))
    go false q = q

comm_first : (x y : Item) (q : List Item) → First x y → push x (push y q) ≡ push y (push x q)
comm_first x y [] h = rw (push_nil x, push_nil y) (push_first x y [] h ∙ sym (behind x y [] h (push_nil y)))
comm_first x y (z ∷ q) h = go (leaves_first y z) refl (leaves_first x z) refl (comm_first x y q h)
  where
    go : (b : Bool) → leaves_first y z ≡ b → (a : Bool) → leaves_first x z ≡ a → push x (push y q) ≡ push y (push x q)
        → push x (push y (z ∷ q)) ≡ push y (push x (z ∷ q))
    go true p true r ih =
        rw (push_first y z q p, push_first x z q r) (push_first x y (z ∷ q) h ∙ sym (behind x y (z ∷ q) h (push_first y z q p)))
    go true p false r ih = absurd (true≢false (sym (first_trans x y z h p) ∙ r))
    go false p true r ih =
        cc (push_later y z q p, push_first x z q r, push_first x z (push y q) r, push_later y x (z ∷ q) (after x y z r p))
    go false p false r ih =
        rw (push_later y z q p, push_later x z q r, push_later x z (push y q) r, push_later y z (push x q) p, ih)

pub push_comm : (x y : Item) (q : List Item) → push x (push y q) ≡ push y (push x q)
push_comm x y q = go (leaves_first x y) refl
  where
    go : (t : Bool) → leaves_first x y ≡ t → push x (push y q) ≡ push y (push x q)
    go true p = comm_first x y q p
    go false p = sym (comm_first y x q (first_total x y p))
