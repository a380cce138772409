-- Too long, no first record, or what is gathered.
use mathlib.Core.Path.{sym, ◌∙◌}
use native.Mathlib.Omega.{arith}
use Rattle.gateway.proofs.Finishing.{all_fits, is_too_long, is_bad}
use Rattle.gateway.proofs.answer_records.Goals as goal

pub too_long-requires : goal.too_long-requires
too_long-requires c = rw (is_too_long _ c.if-input-gt16384.true) at (all_fits c.args.input.now (λ i. omega (arith, c.type_inv.input i)))

pub returns-then-input-gt16384 : goal.returns-then-input-gt16384
returns-then-input-gt16384 c = rw (is_too_long _ c.if-input-gt16384.true) c.too_long.ensures

pub bad_record-requires : goal.bad_record-requires
bad_record-requires c = rw (is_bad _ _ c.kind_at.ensures c.if-input-gt16384.false c.if-kind_at-ne1.true) at (all_fits c.args.input.now (λ i. omega (arith, c.type_inv.input i)))

pub returns-then-kind_at-ne1 : goal.returns-then-kind_at-ne1
returns-then-kind_at-ne1 c = rw (is_bad _ _ c.kind_at.ensures c.if-input-gt16384.false c.if-kind_at-ne1.true) c.bad_record.ensures

pub gather_all-requires : goal.gather_all-requires
gather_all-requires c = (c.if-input-gt16384.false, record { first = sym c.if-kind_at-ne1.false ∙ c.kind_at.ensures }, all_fits c.args.input.now (λ i. omega (arith, c.type_inv.input i)))
