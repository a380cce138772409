-- The heap of document 01: what is in it, sorted. "The smallest weight leaves first, ties by smaller node."
use Rattle.std.specs.Prelude.{Bool, true, false, ◌&&◌, ◌||◌, List, [], ◌∷◌, ℕ, ◌≤◌, eqb, ltb, leb}
use Rattle.rules.specs.Lists.{In}

pub record Item : Type 0 where
  pub weight : ℕ
  pub node : ℕ

-- i may leave before j
unfoldable pub leaves_first : Item → Item → Bool
leaves_first i j = ltb i.weight j.weight || eqb i.weight j.weight && leb i.node j.node

unfoldable pub push : Item → List Item → List Item
push i [] = i ∷ []
push i (j ∷ h) = elim (leaves_first i j) [ true ↦ i ∷ j ∷ h | false ↦ j ∷ push i h ]

-- no item stands before a lighter one
unfoldable pub Sorted : List Item → Type 0
Sorted [] = Unit {0}
Sorted (i ∷ q) = ((j : Item) → In j q → i.weight ≤ j.weight) × Sorted q
