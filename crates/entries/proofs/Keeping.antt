-- Columns that rule 2 leaves alone step by step are left alone.
use mathlib.Core.Path.{refl, ◌∙◌}
use Rattle.marks.specs.declared.TableMut.{TableMut}
use Rattle.marks.proofs.Keeping.{columns_kept_all, columns_kept_on}
use Rattle.entries.specs.Lent.{KeptOuts}

pub outs_kept_all : (x : TableMut) → KeptOuts x x
outs_kept_all x = record { columns = columns_kept_all x; outs = refl }

pub outs_kept_on : {x y z : TableMut} → KeptOuts x y → KeptOuts y z → KeptOuts x z
outs_kept_on k m = record { columns = columns_kept_on k.columns m.columns; outs = m.outs ∙ k.outs }
