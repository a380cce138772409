-- A node is put, or there is no room for it, or the limit is met.
use Rattle.unpacking.proofs.Opened.{put_none, put_one, put_past}
use Rattle.paths.proofs.put_node.Goals as goal

pub returns-then-limit-eq0 : goal.returns-then-limit-eq0
returns-then-limit-eq0 c = put_none _ _ _ _ c.if-limit-eq0.true

pub returns-then-at-path : goal.returns-then-at-path
returns-then-at-path c = put_one _ _ _ _ c.if-limit-eq0.false

pub returns-else-at-path : goal.returns-else-at-path
returns-else-at-path c = put_past _ _ _ _ c.if-limit-eq0.false c.if-at-path.false
