-- Scratch is as long as its formula, so the call is the program's.
use mathlib.Core.Path.{sym}
use native.Mathlib.Omega.{arith}
use Rattle.gateway.proofs.Asking.{front_long, asked}
use Rattle.gateway.proofs.ask.Goals as goal

pub slice_bounds-new-end : goal.slice_bounds-new-end
slice_bounds-new-end c = front_long _ 128 (omega (arith, c.requires.0.few))

pub slice_bounds-new-end-2 : goal.slice_bounds-new-end-2
slice_bounds-new-end-2 c = front_long _ 1024 (omega (arith, c.requires.0.fwd_most))

pub slice_bounds-new-end-3 : goal.slice_bounds-new-end-3
slice_bounds-new-end-3 c = front_long _ 128 (omega (arith, c.requires.0.few))

pub slice_bounds-new-end-4 : goal.slice_bounds-new-end-4
slice_bounds-new-end-4 c = front_long _ 1024 (omega (arith, c.requires.0.bwd_most))

pub returns : goal.returns
returns c =
    let x = c.new.ensures.holds in
    let y = c.new-2.ensures.holds in
    asked _ _ _ _ _ _ _ _ _ c.requires.1
    (sym (front_long _ 128 (omega (arith, c.requires.0.few))))
    (sym (front_long _ 128 (omega (arith, c.requires.0.few))))
    (sym (front_long _ 1024 (omega (arith, c.requires.0.fwd_most))))
    (sym (front_long _ 1024 (omega (arith, c.requires.0.bwd_most))))
    _ _ (rw (x.0, x.1, y.0, y.1) at c.calc_path.ensures.tells)
