-- The digits of a tenth, then the last.
use native.Mathlib.Omega.{arith}
use Rattle.text.proofs.Writing.{digit_fits, digit_wrote, rest_fits, last_fits, last_wrote}
use Rattle.text.proofs.+put_decimal.Goals as goal

pub put-requires : goal.put-requires
put-requires t c = digit_fits c.if-n-lt10.true c.requires

pub returns-then-n-lt10 : goal.returns-then-n-lt10
returns-then-n-lt10 t c = digit_wrote c.if-n-lt10.true c.put.ensures

pub put_decimal-end-requires : goal.put_decimal-end-requires
put_decimal-end-requires t c =
    (rw (← c.decreases) (omega (arith, c.if-n-lt10.false)), rest_fits _ c.if-n-lt10.false c.requires)

pub put-requires-2 : goal.put-requires-2
put-requires-2 t c = last_fits _ c.if-n-lt10.false c.requires c.put_decimal-end.ensures

pub returns : goal.returns
returns t c = last_wrote _ c.if-n-lt10.false c.put_decimal-end.ensures c.put-2.ensures
