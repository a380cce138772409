-- The entries passed keep the rules, and the nodes that they lead to have this rank's mark.
use Rattle.tables.specs.Lent.{side_of, sided_of}
use Rattle.tables.proofs.Entries.{Passed}
use Rattle.tables.proofs.rank_passes.Given as goal

abbrev pub invariant-loop-i : goal.invariant-loop-i
invariant-loop-i l = Passed l.v.num_nodes (sided_of l.side l.v) (side_of l.side) l.r l.mark l.begin l.i l.marks
