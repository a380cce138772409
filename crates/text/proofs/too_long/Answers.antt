-- The word is the paper's.
use Rattle.rules.specs.Program.{word_too_long, line}
use Rattle.text.proofs.too_long.Goals as goal

pub put_word-requires : goal.put_word-requires
unfolding line word_too_long
put_word-requires c = c.requires

pub returns : goal.returns
unfolding line word_too_long
returns c = c.put_word.ensures
