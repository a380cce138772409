-- Two hierarchies hold the same tables of n nodes: they agree in every used place. How long the columns are, and what lies
-- beyond the used places, may differ: columns cut to the used entries, or longer ones.
use Rattle.std.specs.Prelude.{◌≡◌, ℕ, suc, ◌≤◌, ◌<◌, take}
use Rattle.rules.specs.Columns.{Table, Hierarchy, Side, table, entry, rank, begin}
use Rattle.rules.specs.TableRules.{used}

pub record Agree (n : ℕ) (h k : Hierarchy) : Type 0 where
  pub ranks : (v : ℕ) → v < n → rank k v ≡ rank h v
  pub starts : (s : Side) (r : ℕ) → r ≤ n → begin (table k s) r ≡ begin (table h s) r
  pub entries : (s : Side) (e : ℕ) → e < used n (table h s) → entry (table k s) e ≡ entry (table h s) e

-- the shortest that agree: every column cut to its used places
unfoldable pub cut_table : ℕ → Table → Table
cut_table n t =
    record {
      starts = take (suc n) t.starts;
      bases = take (used n t) t.bases;
      neighbours = take (used n t) t.neighbours;
      weights = take (used n t) t.weights;
      in_numbers = take (used n t) t.in_numbers;
      out_numbers = take (used n t) t.out_numbers;
    }

unfoldable pub cut : ℕ → Hierarchy → Hierarchy
cut n h =
    record {
      ranks = take n h.ranks;
      forward = cut_table n h.forward;
      backward = cut_table n h.backward;
    }
