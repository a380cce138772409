-- What the functions ask and promise.
use Rattle.std.specs.Prelude.{List, [], ◌∷◌, ◌++◌, map, ◌≡◌, ℕ, ◌+◌, ◌^◌, ◌<◌, ◌≤◌, length}
use Rattle.rules.specs.Graph.{Arc}
use Rattle.rules.specs.Build.{Level, raw, arcs_of, raws}
use Rattle.lists.specs.Memory.{Memory, memory}
use Rattle.lists.specs.Walks.{Reads}
use Rattle.entries.specs.Laid.{side_of, Four, four_over, Part, Even, laid_part}

-- a list can be read from `first` on, and there is a place for each of its arcs
pub record Writable (m : Memory) (weights : List ℕ) (side first : ℕ) (list : List Arc) (t : Four) : Type 0 where
  pub two : side < 2
  pub reads : Reads m weights side first list
  pub even : Even t
  pub room : length list ≤ length t.bases

abbrev pub Writes : (arcs weights : List ℕ) (side first v : ℕ) (t t' : Four) → Type 0
Writes arcs weights side first v t t' =
    (nodes : List ℕ) (list : List Arc) → Writable (memory arcs nodes) weights side first list t →
    t' ≡ four_over t (map (raw (side_of side) v) list)

-- the same from `at` onward, and a place for the start of rank r
pub record Layable (m : Memory) (weights : List ℕ) (side first : ℕ) (list : List Arc) (r at : ℕ) (t : Part) : Type 0 where
  pub two : side < 2
  pub reads : Reads m weights side first list
  pub even : Even t.entries
  pub room : at + length list ≤ length t.entries.bases
  pub start_room : r < length t.starts
  pub small : at < 2 ^ 32

-- of every table whose ranks so far are laid, that of v is laid after them
abbrev pub Lays : (arcs weights : List ℕ) (side first v r at : ℕ) (t t' : Part) → Type 0
Lays arcs weights side first v r at t t' =
    (nodes : List ℕ) (list : List Arc) → Layable (memory arcs nodes) weights side first list r at t →
    (ls : List Level) (l : Level) (lent : Part) → t ≡ laid_part (side_of side) ls lent → r ≡ length ls → at ≡ length (raws (side_of side) ls) →
    l.node ≡ v → arcs_of (side_of side) l ≡ list → t' ≡ laid_part (side_of side) (ls ++ l ∷ []) lent
