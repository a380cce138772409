-- What of a table's columns rule 2 leaves alone, as they are lent.
use Rattle.std.specs.Prelude.{◌≡◌}
use Rattle.marks.specs.declared.TableMut.{TableMut}
use Rattle.marks.specs.Lent.{KeptColumns}

-- the second numbers stay
pub record KeptOuts (x y : TableMut) : Type 0 where
  pub columns : KeptColumns x y
  pub outs : y.outs.now ≡ x.outs.now
