-- Columns that are kept step by step are kept.
use mathlib.Core.Path.{refl, ◌∙◌}
use Rattle.marks.specs.declared.TableMut.{TableMut}
use Rattle.marks.specs.Lent.{KeptColumns}

pub columns_kept_all : (x : TableMut) → KeptColumns x x
columns_kept_all x =
    record {
      starts = refl;
      bases = refl;
      neighbours = refl;
      weights = refl;
      ins = refl;
      outs = refl;
      starts_long = refl;
      bases_long = refl;
      neighbours_long = refl;
      weights_long = refl;
      ins_long = refl;
      outs_long = refl;
    }

pub columns_kept_on : {x y z : TableMut} → KeptColumns x y → KeptColumns y z → KeptColumns x z
columns_kept_on k m =
    record {
      starts = m.starts ∙ k.starts;
      bases = m.bases ∙ k.bases;
      neighbours = m.neighbours ∙ k.neighbours;
      weights = m.weights ∙ k.weights;
      ins = m.ins ∙ k.ins;
      outs = m.outs ∙ k.outs;
      starts_long = m.starts_long ∙ k.starts_long;
      bases_long = m.bases_long ∙ k.bases_long;
      neighbours_long = m.neighbours_long ∙ k.neighbours_long;
      weights_long = m.weights_long ∙ k.weights_long;
      ins_long = m.ins_long ∙ k.ins_long;
      outs_long = m.outs_long ∙ k.outs_long;
    }
