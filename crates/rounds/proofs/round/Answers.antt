-- Two turns.
use mathlib.Core.Path.{sym, ◌∙◌}
use Rattle.rounds.proofs.Going.{forward_turning, backward_turning, rounded}
use Rattle.rounds.proofs.round.Goals as goal

pub turn-met-requires : goal.turn-met-requires
turn-met-requires c =
    let b = c.read.ensures in
    (b.base ∙ c.requires.1, rw b.labels (forward_turning _ _ _ _ _ _ _ _ _ _ _ _ _ _ _ _ c.requires.2))

pub turn-requires : goal.turn-requires
turn-requires c =
    let x = c.turn-met.ensures in
    let f = c.read-2.ensures in (
      f.base ∙ x.kept.base ∙ sym c.requires.1,
      rw (f.labels, c.requires.0, c.requires.1)
          (backward_turning _ _ _ _ _ _ _ _ _ _ _ _ _ _ _ _ c.requires.2 _ _ _ _ x.kept.labels (rw c.read.ensures.labels at x.turns)),
    )

pub returns : goal.returns
returns c =
    let x = c.turn-met.ensures in
    let y = c.turn.ensures in
    record {
      rounded =
          rounded _ _ _ _ _ _ _ _ _ _ _ _ _ _ _ _ _ _ _ _ _ _ _ _ x.kept.labels (rw c.read.ensures.labels at x.turns)
          (rw (c.read-2.ensures.labels, c.requires.0, c.requires.1) at y.turns);
      fwd_kept = x.kept;
      bwd_kept = y.kept;
    }
