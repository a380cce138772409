-- What was gathered is built, unless another record stands there.
use Rattle.gateway.proofs.Finishing.{tails_long, heads_long, weights_long, order_long, bad_fits, bad_wrote, at_limit, limit_wrote}
use Rattle.gateway.proofs.gather_all.Goals as goal

pub bad_record-requires : goal.bad_record-requires
bad_record-requires c = bad_fits _ _ _ _ _ _ c.gather-g.ensures _ c.kind_at.ensures c.if-kind_at-ne4.true c.requires.2

pub returns-then-kind_at-ne4 : goal.returns-then-kind_at-ne4
returns-then-kind_at-ne4 c = bad_wrote _ _ _ _ _ _ c.gather-g.ensures _ c.kind_at.ensures c.if-kind_at-ne4.true c.bad_record.ensures

pub slice_bounds-at_limit-end : goal.slice_bounds-at_limit-end
slice_bounds-at_limit-end c = tails_long _ _ _ _ _ _ c.gather-g.ensures

pub slice_bounds-at_limit-end-2 : goal.slice_bounds-at_limit-end-2
slice_bounds-at_limit-end-2 c = heads_long _ _ _ _ _ _ c.gather-g.ensures

pub slice_bounds-at_limit-end-3 : goal.slice_bounds-at_limit-end-3
slice_bounds-at_limit-end-3 c = weights_long _ _ _ _ _ _ c.gather-g.ensures

pub slice_bounds-at_limit-end-4 : goal.slice_bounds-at_limit-end-4
slice_bounds-at_limit-end-4 c = order_long _ _ _ _ _ _ c.gather-g.ensures

pub at_limit-requires : goal.at_limit-requires
at_limit-requires c = at_limit _ _ _ _ _ _ c.gather-g.ensures _ c.kind_at.ensures c.if-kind_at-ne4.false _ c.u16_at.ensures.is c.requires.0 c.requires.2

pub returns : goal.returns
returns c = limit_wrote _ _ _ _ _ _ c.gather-g.ensures _ c.kind_at.ensures c.if-kind_at-ne4.false _ c.u16_at.ensures.is c.requires.0 c.requires.2 c.at_limit.ensures
