-- The front of the word is written, and one byte more.
use lib.ListN.{take}
use Rattle.text.specs.Wrote.{Wrote}
use Rattle.text.proofs.put_word.Given as goal

abbrev pub invariant-loop-byte : goal.invariant-loop-byte
invariant-loop-byte l = Wrote l.initial.out l.at (take l.byte-index l.word) l.end l.out
