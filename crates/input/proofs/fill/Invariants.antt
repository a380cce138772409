-- Each read that goes on leaves less room.
use Rattle.std.proofs.Common.{length, take, ◌-◌, ◌≤◌, ◌≡◌}
use Rattle.std.specs.Io.KnownBytes.{Consumes}
use Rattle.input.proofs.fill.Given as goal

abbrev pub invariant-loop-end : goal.invariant-loop-end
invariant-loop-end g l = (length l.space ≡ length l.initial.space) × (l.end ≤ length l.space) × Consumes (g.R.Read.remaining l.initial.input) (g.R.Read.remaining l.input) (take l.end l.space)

abbrev pub decreases-loop-end : goal.decreases-loop-end
decreases-loop-end g l = length l.initial.space - l.end
