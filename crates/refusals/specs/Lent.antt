-- The same of a table's columns, by their lengths.
use Rattle.std.specs.Prelude.{Bool, ℕ, length}
use Rattle.marks.specs.declared.TableMut.{TableMut}
use Rattle.refusals.specs.declared.Lengths.{Lengths}
use Rattle.refusals.specs.Measures.{uneven_by}

abbrev pub lengths_at : TableMut → Lengths
lengths_at x =
    record {
      starts = length x.starts.now;
      bases = length x.bases.now;
      neighbours = length x.neighbours.now;
      weights = length x.weights.now;
      ins = length x.ins.now;
      outs = length x.outs.now;
    }

abbrev pub uneven_in : ℕ → Lengths → Bool
uneven_in n l = uneven_by n l.starts l.bases l.neighbours l.weights l.ins l.outs
