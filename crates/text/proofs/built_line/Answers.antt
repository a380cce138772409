-- The first count, then the second with the end of the line.
use Rattle.rules.specs.Program.{word_built}
use Rattle.text.proofs.Writing.{wrote_both, fits_first, fits_then, counts_parts}
use Rattle.text.proofs.built_line.Goals as goal

pub put_word-end-requires : goal.put_word-end-requires
unfolding word_built
put_word-end-requires c = fits_first _ _ _ (rw (counts_parts _ _) at c.requires)

pub put_decimal-end-requires : goal.put_decimal-end-requires
unfolding word_built
put_decimal-end-requires c = fits_first _ _ _ (fits_then _ _ (rw (counts_parts _ _) at c.requires) c.put_word-end.ensures)

pub put_told-requires : goal.put_told-requires
unfolding word_built
put_told-requires c = fits_then _ _ (fits_then _ _ (rw (counts_parts _ _) at c.requires) c.put_word-end.ensures) c.put_decimal-end.ensures

pub returns : goal.returns
unfolding word_built
returns c = rw (counts_parts _ _) (wrote_both _ _ c.put_word-end.ensures (wrote_both _ _ c.put_decimal-end.ensures c.put_told.ensures))
