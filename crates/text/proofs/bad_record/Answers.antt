-- The word is the paper's.
use Rattle.rules.specs.Program.{word_bad_record, bad_record}
use Rattle.text.proofs.bad_record.Goals as goal

pub put_told-requires : goal.put_told-requires
unfolding bad_record word_bad_record
put_told-requires c = c.requires

pub returns : goal.returns
unfolding bad_record word_bad_record
returns c = c.put_told.ensures
