-- What of a table rule 2 writes: a start for each rank, and four of its columns. Centres wait in the column of the first numbers.
use Rattle.std.specs.Prelude.{List, [], ◌∷◌, map, ◌≡◌, ℕ, zero, suc, ◌+◌, length}
use Rattle.rules.specs.Lists.{over}
use Rattle.rules.specs.Columns.{Side, forward, backward, Table}
use Rattle.rules.specs.Build.{Level, Raw, arcs_of, raws}

-- 0 and 1 as the code says them
unfoldable pub side_of : ℕ → Side
side_of zero = forward
side_of (suc s) = backward

pub record Four : Type 0 where
  pub bases : List ℕ
  pub neighbours : List ℕ
  pub weights : List ℕ
  pub centres : List ℕ

abbrev pub four : List ℕ → List ℕ → List ℕ → List ℕ → Four
four b n w c = record { bases = b; neighbours = n; weights = w; centres = c }

pub record Part : Type 0 where
  pub starts : List ℕ
  pub entries : Four

abbrev pub part : List ℕ → Four → Part
part s e = record { starts = s; entries = e }

-- columns equally long
pub record Even (t : Four) : Type 0 where
  pub neighbours : length t.neighbours ≡ length t.bases
  pub weights : length t.weights ≡ length t.bases
  pub centres : length t.centres ≡ length t.bases

-- entries written over the front of what was lent
unfoldable pub four_over : Four → List Raw → Four
four_over t rs =
    record {
      bases = over t.bases (map (λ r. r.base) rs);
      neighbours = over t.neighbours (map (λ r. r.neighbour) rs);
      weights = over t.weights (map (λ r. r.weight) rs);
      centres = over t.centres (map (λ r. r.centre) rs);
    }

-- where each begins, that are laid end to end from a on
unfoldable pub begun : ℕ → List ℕ → List ℕ
begun a [] = []
begun a (x ∷ xs) = a ∷ begun (a + x) xs

unfoldable pub begun_of : Side → List Level → List ℕ
begun_of s ls = begun 0 (map (λ l. length (arcs_of s l)) ls)

-- the part of a lent table
abbrev pub part_of : Table → Part
part_of t = part t.starts (four t.bases t.neighbours t.weights t.in_numbers)

-- and after so many ranks
unfoldable pub laid_part : Side → List Level → Part → Part
laid_part s ls t = part (over t.starts (begun_of s ls)) (four_over t.entries (raws s ls))
