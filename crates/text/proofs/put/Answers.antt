-- A byte is stored where there is a place for it.
use Rattle.text.proofs.Writing.{wrote_one, wrote_past}
use Rattle.text.proofs.put.Goals as goal

pub returns-then-out-at : goal.returns-then-out-at
returns-then-out-at c = wrote_past _ _ _ c.if-out-at.true

pub returns : goal.returns
returns c = wrote_one _ _ _
