-- The front of the word is written, and one byte more.
use Rattle.text.proofs.Writing.{wrote_none, wrote_both, bytes_next}
use Rattle.text.proofs.put_word.Goals as goal

pub loop-byte-init : goal.loop-byte-init
loop-byte-init c = wrote_none _ _

pub loop-byte-preserved : goal.loop-byte-preserved
loop-byte-preserved c = rw (bytes_next _ _ c.loop-byte-test.true) (wrote_both _ _ c.loop-byte.invariant c.put-end.ensures)
