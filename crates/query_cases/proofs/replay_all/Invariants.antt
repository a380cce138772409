-- The counts stay far below 2^64.
use Rattle.std.proofs.Common.{◌*◌, ◌≤◌}
use Rattle.query_cases.proofs.replay_all.Given as goal

abbrev pub invariant-loop : goal.invariant-loop
invariant-loop g l = (l.checks ≤ l.counter) × (l.agree ≤ 4294967295 * l.counter) × (l.asks ≤ 4294967295 * l.counter)
