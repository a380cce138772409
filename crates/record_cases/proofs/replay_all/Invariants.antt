-- No more agree than were looked at.
use Rattle.std.proofs.Common.{◌≤◌}
use Rattle.record_cases.proofs.replay_all.Given as goal

abbrev pub invariant-loop : goal.invariant-loop
invariant-loop g l = l.agree ≤ l.counter
