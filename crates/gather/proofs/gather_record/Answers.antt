-- By the kind that stands there.
use native.Mathlib.Omega.{arith}
use Rattle.gather.proofs.Columns.{link_room, link_more, order_room, order_more, none_more}
use Rattle.gather.proofs.gather_record.Goals as goal

pub returns-then-late : goal.returns-then-late
returns-then-late c = none_more _ _ _ _ _ _ c.requires.0 c.requires.1 _ c.kind_at-kind.ensures (λ _. c.if-late.true) (λ e. omega (arith, c.in-2.is, e))

pub put_link-requires : goal.put_link-requires
put_link-requires c =
    let room = link_room _ _ _ _ _ _ c.requires.0 c.requires.1 _ c.kind_at-kind.ensures c.in-2.is c.if-late.false in
    (omega (arith, c.requires.0.small, c.requires.1.within), room.0, room.1, room.2)

pub bounds-order-orders : goal.bounds-order-orders
bounds-order-orders c = order_room _ _ _ _ _ _ c.requires.0 c.requires.1 _ c.kind_at-kind.ensures c.in-3.is

pub returns-else-late : goal.returns-else-late
returns-else-late c = (omega arith, link_more _ _ _ _ _ _ c.requires.0 c.requires.1 _ c.kind_at-kind.ensures c.in-2.is c.if-late.false _ _ _ c.put_link.ensures)

pub returns-in-3 : goal.returns-in-3
returns-in-3 c = (omega arith, order_more _ _ _ _ _ _ c.requires.0 c.requires.1 _ c.kind_at-kind.ensures c.in-3.is _ c.u16_at.ensures.is)

pub returns-in-0-to-1 : goal.returns-in-0-to-1
returns-in-0-to-1 c = none_more _ _ _ _ _ _ c.requires.0 c.requires.1 _ c.kind_at-kind.ensures (λ e _. omega (arith, e)) (λ e. omega (arith, e))
