-- The same of the columns of a table that are lent to be written.
use Rattle.std.specs.Prelude.{◌≡◌, length}
use Rattle.rules.specs.Columns.{Table}
use Rattle.marks.specs.declared.TableMut.{TableMut}
use Rattle.marks.specs.Tables.{table_of}

-- what lies in them
abbrev pub table_at : TableMut → Table
table_at x = table_of x.starts.now x.bases.now x.neighbours.now x.weights.now x.ins.now x.outs.now

-- Each column is still the slice that was lent, and as long: so the lender knows what its own slices hold afterwards.
pub record KeptColumns (x y : TableMut) : Type 0 where
  pub starts : y.starts.ghost_name ≡ x.starts.ghost_name
  pub bases : y.bases.ghost_name ≡ x.bases.ghost_name
  pub neighbours : y.neighbours.ghost_name ≡ x.neighbours.ghost_name
  pub weights : y.weights.ghost_name ≡ x.weights.ghost_name
  pub ins : y.ins.ghost_name ≡ x.ins.ghost_name
  pub outs : y.outs.ghost_name ≡ x.outs.ghost_name
  pub starts_long : length y.starts.now ≡ length x.starts.now
  pub bases_long : length y.bases.now ≡ length x.bases.now
  pub neighbours_long : length y.neighbours.now ≡ length x.neighbours.now
  pub weights_long : length y.weights.now ≡ length x.weights.now
  pub ins_long : length y.ins.now ≡ length x.ins.now
  pub outs_long : length y.outs.now ≡ length x.outs.now
