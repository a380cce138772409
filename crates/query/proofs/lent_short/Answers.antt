-- Each return is a length that is short, or the last test.
use Rattle.query.proofs.FirstMet.{path_short, fl_short, bl_short, fh_short, bh_short}
use Rattle.query.proofs.lent_short.Goals as goal

pub returns-then-path-n : goal.returns-then-path-n
returns-then-path-n c = path_short _ _ _ _ _ _ _ _ c.if-path-n.true

pub returns-then-fwd-n : goal.returns-then-fwd-n
returns-then-fwd-n c = fl_short _ _ _ _ _ _ _ _ c.if-path-n.false c.if-fwd-n.true

pub returns-then-bwd-n : goal.returns-then-bwd-n
returns-then-bwd-n c = bl_short _ _ _ _ _ _ _ _ c.if-path-n.false c.if-fwd-n.false c.if-bwd-n.true

pub returns-then-fwd-g : goal.returns-then-fwd-g
returns-then-fwd-g c = fh_short _ _ _ _ _ _ _ _ c.if-path-n.false c.if-fwd-n.false c.if-bwd-n.false c.if-fwd-g.true

pub returns : goal.returns
returns c = bh_short _ _ _ _ _ _ _ _ c.if-path-n.false c.if-fwd-n.false c.if-bwd-n.false c.if-fwd-g.false
