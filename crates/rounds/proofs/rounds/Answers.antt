-- The rounds that are left, from here, are all of them from the start.
use mathlib.Core.Path.{sym, ap, ◌∙◌}
use native.Mathlib.Omega.{arith}
use Rattle.tables.specs.Lent.{turned}
use Rattle.halves.proofs.Slices.{kept_all, kept_on}
use Rattle.rounds.proofs.Going.{going_first, rounding, some_fuel, going_on, done}
use Rattle.rounds.proofs.rounds.Goals as goal

pub loop-fwd-init : goal.loop-fwd-init
loop-fwd-init c =
    (kept_all _, kept_all _, λ t. going_first _ _ _ _ _ _ _ _ _ _ _ _ _ _ _ _ _ t)

pub overflow_add-fwd : goal.overflow_add-fwd
overflow_add-fwd c = let g = c.loop-fwd.invariant.2 c.requires.1 in omega (arith, g.fwd.held, g.bwd.held)

pub round-best-requires : goal.round-best-requires
round-best-requires c =
    let i = c.loop-fwd.invariant in (
      c.seen_from-back.ensures ∙ sym (ap turned c.seen_from-ahead.ensures),
      i.1.base ∙ c.requires.0 ∙ sym i.0.base,
      rw (c.seen_from-ahead.ensures, i.0.base) (rounding _ _ _ _ _ _ _ _ _ _ _ _ _ _ _ _ _ c.requires.1 _ _ _ _ _ _ _ _ (i.2 c.requires.1)),
    )

pub overflow_sub-left : goal.overflow_sub-left
overflow_sub-left c = some_fuel _ _ _ _ _ _ _ _ _ _ _ _ _ _ _ _ _ c.requires.1 _ _ _ _ _ _ _ _ (c.loop-fwd.invariant.2 c.requires.1) c.loop-fwd-test.true

pub loop-fwd-smaller : goal.loop-fwd-smaller
loop-fwd-smaller c = omega (arith, some_fuel _ _ _ _ _ _ _ _ _ _ _ _ _ _ _ _ _ c.requires.1 _ _ _ _ _ _ _ _ (c.loop-fwd.invariant.2 c.requires.1) c.loop-fwd-test.true)

pub loop-fwd-preserved : goal.loop-fwd-preserved
loop-fwd-preserved c =
    let i = c.loop-fwd.invariant in
    let r = c.round-best.ensures in (
      kept_on i.0 r.fwd_kept,
      kept_on i.1 r.bwd_kept,
      λ t.
          going_on _ _ _ _ _ _ _ _ _ _ _ _ _ _ _ _ _ t _ _ _ _ _ _ _ _ (i.2 t) c.loop-fwd-test.true _ _ _ _ _ _ _ r.fwd_kept.labels r.bwd_kept.labels r.fwd_kept.heap r.bwd_kept.heap
          (rw (c.seen_from-ahead.ensures, i.0.base) at r.rounded),
    )

pub returns : goal.returns
returns c =
    let i = c.loop-fwd.invariant in
    let g = i.2 c.requires.1 in
    record {
      ran =
          record {
            is = λ t. done _ _ _ _ _ _ _ _ _ _ _ _ _ _ _ _ _ t _ _ _ _ _ _ _ _ (i.2 t) c.loop-fwd-test.false;
            fwd_stamps = g.fwd_stamps;
            bwd_stamps = g.bwd_stamps;
          };
      fwd_kept = i.0;
      bwd_kept = i.1;
    }
