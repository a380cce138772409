-- No more agree than were asked.
use Rattle.std.proofs.Common.{◌≤◌}
use Rattle.query_cases.proofs.replay.Given as goal

abbrev pub invariant-loop : goal.invariant-loop
invariant-loop l = l.agree ≤ l.counter
