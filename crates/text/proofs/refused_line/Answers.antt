-- The word is the paper's.
use Rattle.rules.specs.Program.{word_refused, refused_line}
use Rattle.text.proofs.refused_line.Goals as goal

pub put_told-requires : goal.put_told-requires
unfolding refused_line word_refused
put_told-requires c = c.requires

pub returns : goal.returns
unfolding refused_line word_refused
returns c = c.put_told.ensures
