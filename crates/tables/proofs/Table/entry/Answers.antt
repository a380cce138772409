-- The columns are equally long.
use native.Mathlib.Omega.{arith}
use Rattle.tables.proofs.Entries.{each_within}
use Rattle.tables.proofs.Table.entry.Goals as goal

pub bounds-self-e-2 : goal.bounds-self-e-2
bounds-self-e-2 c = omega (arith, (each_within _ c.requires.0).0, c.requires.1)

pub bounds-self-e-3 : goal.bounds-self-e-3
bounds-self-e-3 c = omega (arith, (each_within _ c.requires.0).1, c.requires.1)

pub bounds-self-e-4 : goal.bounds-self-e-4
bounds-self-e-4 c = omega (arith, (each_within _ c.requires.0).2, c.requires.1)

pub bounds-self-e-5 : goal.bounds-self-e-5
bounds-self-e-5 c = omega (arith, (each_within _ c.requires.0).3, c.requires.1)
