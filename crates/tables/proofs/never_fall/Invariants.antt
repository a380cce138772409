-- None of the starts passed is above the next.
use Rattle.std.proofs.Common.{ℕ, suc, ◌≤◌, ◌<◌, get_or}
use Rattle.tables.proofs.never_fall.Given as goal

abbrev pub invariant-loop-r : goal.invariant-loop-r
invariant-loop-r l = (k : ℕ) → k < l.r → get_or l.starts k 0 ≤ get_or l.starts (suc k) 0
