-- The blank, then the number.
use Rattle.text.proofs.Writing.{wrote_both}
use Rattle.text.proofs.put_node.Goals as goal

pub returns : goal.returns
returns c = wrote_both _ _ c.put-end.ensures c.put_decimal.ensures
