-- What a build promises a query: all that the query's half of the proof knows of it.
use Rattle.std.specs.Prelude.{◌≡◌, false, List, ℕ, ◌+◌, ◌≤◌, ◌<◌}
use Rattle.rules.specs.Numbers.{invalid}
use Rattle.rules.specs.Columns.{Link, Hierarchy, Side, forward, backward, table, entry, rank, places}
use Rattle.rules.specs.TableRules.{tail_of, head_of, used, TableRules}
use Rattle.rules.specs.Unpack.{is_shortcut}
use Rattle.rules.specs.Lists.{In}
use Rattle.walks.specs.Paths.{Edges, Path}
use Rattle.walks.specs.Walks.{Linked}

-- the entries of a table as edges, from a node to a higher one
abbrev pub Entries : Hierarchy → Side → Edges
Entries h s u v w =
    (e : ℕ) × In e (places (table h s) (rank h u)) × ((entry (table h s) e).neighbour ≡ v) ×
    ((entry (table h s) e).weight ≡ w)

-- up by forward entries, and down to the other end by backward ones, for no more than w
abbrev pub UpDown : Hierarchy → ℕ → ℕ → ℕ → Type 0
UpDown h a b w =
    (m : ℕ) × (x : ℕ) × (y : ℕ) × Path (Entries h forward) m a x × Path (Entries h backward) m b y × (x + y ≤ w)

pub record Promise (n : ℕ) (ls : List Link) (h : Hierarchy) : Type 0 where
  pub rules : TableRules n h
  -- no entry has the number that is the mark
  pub few : (s : Side) → used n (table h s) ≤ invalid
  pub plain_is_link : (s : Side) (e : ℕ) → e < used n (table h s) → is_shortcut (entry (table h s) e) ≡ false →
      Linked ls (tail_of s (entry (table h s) e)) (head_of s (entry (table h s) e)) (entry (table h s) e).weight
  pub up_down : (a b w : ℕ) → a < n → b < n → Path (Linked ls) b a w → UpDown h a b w
