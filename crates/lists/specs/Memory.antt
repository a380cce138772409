-- What the places of the lent slices mean. A record serves both lists of its arc: side 0 is the list of its tail, by which it
-- leaves, and side 1 that of its head, by which it enters.
use Rattle.std.specs.Prelude.{Bool, List, [], ◌∷◌, ◌≡◌, ℕ, zero, suc, ◌+◌, ◌*◌, eqb, get_or}
use Rattle.rules.specs.Numbers.{invalid}
use Rattle.rules.specs.Graph.{Arc, leaves, enters}

-- six numbers a place and four a node
pub record Memory : Type 0 where
  pub arcs : List ℕ
  pub nodes : List ℕ

abbrev pub memory : List ℕ → List ℕ → Memory
memory a n = record { arcs = a; nodes = n }

-- number k of place i: its arc's tail, head and centre; the next place on side 0, on side 1, and among the freed
abbrev pub at : Memory → ℕ → ℕ → ℕ
at m k i = get_or m.arcs (6 * i + k) 0

-- the ends of a node's list on side s
abbrev pub first : Memory → ℕ → ℕ → ℕ
first m s v = get_or m.nodes (4 * v + 2 * s) 0

abbrev pub last : Memory → ℕ → ℕ → ℕ
last m s v = get_or m.nodes (4 * v + (2 * s + 1)) 0

abbrev pub arc : ℕ → ℕ → ℕ → ℕ → Arc
arc t h w c = record { tail = t; head = h; weight = w; centre = c }

abbrev pub arc_at : Memory → List ℕ → ℕ → Arc
arc_at m weights i = record { tail = at m 0 i; head = at m 1 i; weight = get_or weights i 0; centre = at m 2 i }

-- whether the arc at place i is in the list of v on side s
abbrev pub ends_at : Memory → ℕ → ℕ → ℕ → Bool
ends_at m s v i = eqb (at m s i) v

-- the same of an arc
unfoldable pub touches : ℕ → ℕ → Arc → Bool
touches zero v a = leaves v a
touches (suc s) v a = enters v a

-- the links from `start` on visit exactly these places
abbrev pub Chain : (ℕ → ℕ) → ℕ → List ℕ → Type 0
Chain next start [] = start ≡ invalid
Chain next start (i ∷ l) = (start ≡ i) × Chain next (next i) l

-- the last of a list, b where there is none
unfoldable pub last_of : ℕ → List ℕ → ℕ
last_of b [] = b
last_of b (i ∷ l) = last_of i l
