-- What is lent is the program's room, so the build is the program's.
use mathlib.Core.Path.{sym}
use native.Mathlib.Omega.{arith}
use Rattle.rules.specs.Program.{blank_table}
use Rattle.gateway.proofs.Asking.{zeroes, front_long}
use Rattle.gateway.proofs.Building.{closed, followed}
use Rattle.gateway.proofs.build_records.Goals as goal

pub slice_bounds-build_with_order-end-16 : goal.slice_bounds-build_with_order-end-16
slice_bounds-build_with_order-end-16 c = front_long _ 128 (omega (arith, c.requires.few))

pub slice_bounds-build_with_order-end-17 : goal.slice_bounds-build_with_order-end-17
slice_bounds-build_with_order-end-17 c = front_long _ 64 (omega (arith, c.requires.few))

pub after_build-requires : goal.after_build-requires
unfolding blank_table
after_build-requires c =
    closed _ _ _ _ _ _ _ _ _ _ _ _ _ (zeroes 5952) (zeroes 992)
    (sym (front_long _ 128 (omega (arith, c.requires.few)))) (sym (front_long _ 64 (omega (arith, c.requires.few)))) (zeroes 1986)
    _ _ c.build_with_order-outcome.ensures c.requires

pub returns : goal.returns
unfolding blank_table
returns c =
    record {
      wrote =
          followed _ _ _ _ _ _ _ _ _ _ _ _ _ (zeroes 5952) (zeroes 992)
          (sym (front_long _ 128 (omega (arith, c.requires.few)))) (sym (front_long _ 64 (omega (arith, c.requires.few)))) (zeroes 1986)
          _ _ c.build_with_order-outcome.ensures c.after_build.ensures;
    }
