-- A walk along a chain, and what it comes upon.
use Rattle.std.specs.Prelude.{Bool, true, false, List, [], ◌∷◌, map, ◌≡◌, ℕ, zero, suc, ◌+◌, ◌*◌, ◌<◌, ◌≤◌, eqb, length, get_or}
use Rattle.rules.specs.Numbers.{invalid}
use Rattle.rules.specs.Lists.{In}
use Rattle.rules.specs.Graph.{Arc}
use Rattle.lists.specs.Memory.{Memory, arc_at, Chain}

-- number k of each place
abbrev pub column : List ℕ → ℕ → ℕ → ℕ
column arcs k i = get_or arcs (6 * i + k) 0

-- from `start` on, the links in column k lead through these places, and each can be read
pub record Walk (arcs : List ℕ) (k start : ℕ) (places : List ℕ) : Type 0 where
  pub chain : Chain (column arcs k) start places
  pub valid : (i : ℕ) → In i places → i ≡ invalid → ⊥
  pub room : (i : ℕ) → In i places → 6 * i + 6 ≤ length arcs
  pub short : length places ≤ length arcs

-- from `start` on, the links of side s lead through places that hold these arcs, in their order
pub record Reads (m : Memory) (weights : List ℕ) (s start : ℕ) (list : List Arc) : Type 0 where
  pub places : List ℕ
  pub walk : Walk m.arcs (3 + s) start places
  pub arcs : list ≡ map (arc_at m weights) places
  pub weighed : (i : ℕ) → In i places → i < length weights

-- what stands before i, b where i is the first
unfoldable pub before : ℕ → ℕ → List ℕ → ℕ
before b i [] = b
before b i (j ∷ l) = elim (eqb j i) [ true ↦ b | false ↦ before j i l ]

-- the first place that passes; the mark where none does
unfoldable pub found : (ℕ → Bool) → List ℕ → ℕ
found p [] = invalid
found p (i ∷ l) = elim (p i) [ true ↦ i | false ↦ found p l ]

-- how many links there are from here to the end, as far as `most`: by this a walk's measure falls
unfoldable pub steps : (ℕ → ℕ) → ℕ → ℕ → ℕ
steps next zero start = 0
steps next (suc most) start = elim (eqb start invalid) [ true ↦ 0 | false ↦ suc (steps next most (next start)) ]
