-- How far two tables are laid, as they are lent.
use Rattle.marks.specs.declared.TableMut.{TableMut}
use Rattle.marks.specs.Lent.{table_at}
use Rattle.entries.specs.Laid.{part_of}
use Rattle.contraction.specs.Ranks.{Parts, parts}

abbrev pub parts_at : TableMut → TableMut → Parts
parts_at f b = parts (part_of (table_at f)) (part_of (table_at b))
