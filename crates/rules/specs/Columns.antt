-- What a caller hands in and lends: columns of numbers, of any lengths.
use Rattle.std.specs.Prelude.{◌≡◌, List, [], ◌∷◌, map, Bool, ◌&&◌, ℕ, suc, eqb, length, get_or}
use Rattle.rules.specs.Numbers.{invalid, no_weight}
use Rattle.rules.specs.Lists.{filled, range}

-- Links are numbered from 0 and directed.
pub record Links : Type 0 where
  pub tails : List ℕ
  pub heads : List ℕ
  pub weights : List ℕ

pub record Link : Type 0 where
  pub tail : ℕ
  pub head : ℕ
  pub weight : ℕ

unfoldable pub zip_links : List ℕ → List ℕ → List ℕ → List Link
zip_links [] hs ws = []
zip_links (t ∷ ts) [] ws = []
zip_links (t ∷ ts) (h ∷ hs) [] = []
zip_links (t ∷ ts) (h ∷ hs) (w ∷ ws) = record { tail = t; head = h; weight = w } ∷ zip_links ts hs ws

-- the links as a list
unfoldable pub link_list : Links → List Link
link_list l = zip_links l.tails l.heads l.weights

-- A table: one start per rank and one more, and five columns of entries.
pub record Table : Type 0 where
  pub starts : List ℕ
  pub bases : List ℕ
  pub neighbours : List ℕ
  pub weights : List ℕ
  pub in_numbers : List ℕ
  pub out_numbers : List ℕ

-- An entry, with its two numbers: a backward entry, and a forward one, that it opens into.
pub record Entry : Type 0 where
  pub base : ℕ
  pub neighbour : ℕ
  pub weight : ℕ
  pub in_number : ℕ
  pub out_number : ℕ

pub record Hierarchy : Type 0 where
  pub ranks : List ℕ
  pub forward : Table
  pub backward : Table

pub data Side : Type 0 where
  forward : Side
  backward : Side

unfoldable pub opposite : Side → Side
opposite forward = backward
opposite backward = forward

unfoldable pub table : Hierarchy → Side → Table
table h forward = h.forward
table h backward = h.backward

unfoldable pub entry : Table → ℕ → Entry
entry t e =
    record {
      base = get_or t.bases e invalid;
      neighbour = get_or t.neighbours e invalid;
      weight = get_or t.weights e no_weight;
      in_number = get_or t.in_numbers e invalid;
      out_number = get_or t.out_numbers e invalid;
    }

unfoldable pub rank : Hierarchy → ℕ → ℕ
rank h v = get_or h.ranks v invalid

-- where the entries of a rank begin
unfoldable pub begin : Table → ℕ → ℕ
begin t r = get_or t.starts r 0

-- the numbers of the entries of a rank
unfoldable pub places : Table → ℕ → List ℕ
places t r = range (begin t r) (begin t (suc r))

-- the entries of a node, in order
unfoldable pub entries : Hierarchy → Side → ℕ → List Entry
entries h s v = map (entry (table h s)) (places (table h s) (rank h v))

-- how many places the five columns have
unfoldable pub room : Table → ℕ
room t = length t.bases

-- "a table's columns equally long"
pub record EquallyLong (t : Table) : Type 0 where
  pub neighbours : length t.neighbours ≡ room t
  pub weights : length t.weights ≡ room t
  pub in_numbers : length t.in_numbers ≡ room t
  pub out_numbers : length t.out_numbers ≡ room t

unfoldable pub equally_long : Table → Bool
equally_long t =
    eqb (length t.neighbours) (room t) && eqb (length t.weights) (room t) &&
    eqb (length t.in_numbers) (room t) && eqb (length t.out_numbers) (room t)

-- every place set to the mark of its column
unfoldable pub marked_table : Table → Table
marked_table t =
    record {
      starts = filled invalid t.starts;
      bases = filled invalid t.bases;
      neighbours = filled invalid t.neighbours;
      weights = filled no_weight t.weights;
      in_numbers = filled invalid t.in_numbers;
      out_numbers = filled invalid t.out_numbers;
    }

unfoldable pub marked : Hierarchy → Hierarchy
marked h =
    record {
      ranks = filled invalid h.ranks;
      forward = marked_table h.forward;
      backward = marked_table h.backward;
    }

-- Sources, or targets: each a node and an offset.
pub record Ends : Type 0 where
  pub nodes : List ℕ
  pub offsets : List ℕ
