-- The preparation graph. Rules 1 to 4 only append an arc to two lists, change one in place in both, or remove arcs
-- while the others keep their order: so it is ONE list of arcs, and a node's out list is those that leave it.
use Rattle.std.specs.Prelude.{◌≡◌, Bool, true, false, not, ◌&&◌, ◌||◌, List, [], ◌∷◌, ℕ, eqb, leb}
use Rattle.rules.specs.Lists.{In, any, keep}

pub record Arc : Type 0 where
  pub tail : ℕ
  pub head : ℕ
  pub weight : ℕ
  pub centre : ℕ

unfoldable pub leaves : ℕ → Arc → Bool
leaves v a = eqb a.tail v

unfoldable pub enters : ℕ → Arc → Bool
enters v a = eqb a.head v

unfoldable pub outs : List Arc → ℕ → List Arc
outs g v = keep (leaves v) g

unfoldable pub ins : List Arc → ℕ → List Arc
ins g v = keep (enters v) g

-- the same ends
unfoldable pub joins : Arc → Arc → Bool
joins s a = eqb a.tail s.tail && eqb a.head s.head

-- no arc leads from a node to itself
abbrev pub Loopless : List Arc → Type 0
Loopless g = (x : Arc) → In x g → x.tail ≡ x.head → ⊥

-- no two arcs of the same ends, at any two places
abbrev pub Apart : List Arc → Type 0
Apart [] = Unit {0}
Apart (x ∷ g) = ((y : Arc) → In y g → joins x y ≡ false) × Apart g

-- "an arc a to b that weighs no more is kept; a heavier one takes the sum and centre v, in place"
unfoldable pub reduce : Arc → Arc → Arc
reduce s a = elim (leb a.weight s.weight) [ true ↦ a | false ↦ s ]

-- "if there is none, an arc goes to the end of both lists"
unfoldable pub add_or_reduce : Arc → List Arc → List Arc
add_or_reduce s [] = s ∷ []
add_or_reduce s (a ∷ g) = elim (joins s a) [ true ↦ reduce s a ∷ g | false ↦ a ∷ add_or_reduce s g ]

-- "[an] arc from a to b that weighs at most the sum is there already"
unfoldable pub kept : Arc → List Arc → Bool
kept s g = any (λ a. joins s a && leb a.weight s.weight) g

-- rule 4: "Remove v's arcs everywhere, the others keeping their order."
unfoldable pub disconnect : List Arc → ℕ → List Arc
disconnect g v = keep (λ a. not (leaves v a || enters v a)) g
