-- The numbers so far are written, and the reader stands behind them.
use Rattle.std.proofs.Common.{◌≡◌, ◌*◌, ◌<◌, ℕ, take, drop, slice_index_or}
use Rattle.fixed.proofs.Reader.column.Given as goal

abbrev pub invariant-loop-place : goal.invariant-loop-place
invariant-loop-place g l =
    (l.self.rest.now ≡ drop (g.T.Number.SIZE * l.place-index) l.initial.self.rest.now)
    × ((k : ℕ) (d : _) → k < l.place-index → slice_index_or l.place-items k d ≡ g.T.Number.at_front (take (g.T.Number.SIZE) (drop (g.T.Number.SIZE * k) l.initial.self.rest.now)))
