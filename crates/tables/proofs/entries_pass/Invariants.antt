-- The entries of the ranks passed keep the rules, and no mark is of a later one.
use Rattle.std.proofs.Common.{◌+◌}
use Rattle.tables.specs.Lent.{side_of, sided_of}
use Rattle.tables.specs.Shapes.{RanksRules, Earlier}
use Rattle.tables.proofs.entries_pass.Given as goal

abbrev pub invariant-loop-r : goal.invariant-loop-r
invariant-loop-r l = RanksRules l.v.num_nodes (sided_of l.side l.v) (side_of l.side) l.r × Earlier (l.r + 1) l.marks
