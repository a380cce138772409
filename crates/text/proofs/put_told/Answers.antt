-- The word, the number, the end of the line.
use Rattle.text.proofs.Writing.{word_fits, number_fits, end_fits, wrote_line}
use Rattle.text.proofs.put_told.Goals as goal

pub put_word-end-requires : goal.put_word-end-requires
put_word-end-requires c = word_fits _ _ c.requires

pub put_decimal-end-requires : goal.put_decimal-end-requires
put_decimal-end-requires c = number_fits _ _ c.requires c.put_word-end.ensures

pub put-requires : goal.put-requires
put-requires c = end_fits _ _ c.requires c.put_word-end.ensures c.put_decimal-end.ensures

pub returns : goal.returns
returns c = wrote_line _ _ c.put_word-end.ensures c.put_decimal-end.ensures c.put.ensures
