-- Each return is a column that is short, or the places divided.
use Rattle.calc_paths.proofs.Rows.{numbers_short, weights_short, lengths_short, none_asked, places_divided}
use Rattle.calc_paths.proofs.answers_short.Goals as goal

pub returns-then-numbers-pairs : goal.returns-then-numbers-pairs
returns-then-numbers-pairs c = numbers_short _ _ _ _ _ _ c.if-numbers-pairs.true

pub returns-then-weights-pairs : goal.returns-then-weights-pairs
returns-then-weights-pairs c = weights_short _ _ _ _ _ _ c.if-numbers-pairs.false c.if-weights-pairs.true

pub returns-then-lengths-pairs : goal.returns-then-lengths-pairs
returns-then-lengths-pairs c = lengths_short _ _ _ _ _ _ c.if-numbers-pairs.false c.if-weights-pairs.false c.if-lengths-pairs.true

pub returns-then-n-eq0 : goal.returns-then-n-eq0
returns-then-n-eq0 c = none_asked _ _ _ _ _ _ c.if-numbers-pairs.false c.if-weights-pairs.false c.if-lengths-pairs.false c.if-n-eq0.true

pub returns : goal.returns
returns c = places_divided _ _ _ _ _ _ c.if-numbers-pairs.false c.if-weights-pairs.false c.if-lengths-pairs.false c.if-n-eq0.false
