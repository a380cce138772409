-- No more agree than were replayed.
use Rattle.std.proofs.Common.{◌≤◌}
use Rattle.build_cases.proofs.replay_all.Given as goal

abbrev pub invariant-loop-i : goal.invariant-loop-i
invariant-loop-i g l = l.agree ≤ l.i-counter
