-- A hierarchy by its columns.
use Rattle.std.specs.Prelude.{List, ℕ}
use Rattle.rules.specs.Columns.{Table, Hierarchy}

abbrev pub table_of : (starts bases neighbours weights ins outs : List ℕ) → Table
table_of s b n w i o = record { starts = s; bases = b; neighbours = n; weights = w; in_numbers = i; out_numbers = o }

abbrev pub hierarchy : List ℕ → Table → Table → Hierarchy
hierarchy r f b = record { ranks = r; forward = f; backward = b }
