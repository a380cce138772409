-- The columns are lent from the rank's start onward, and come back with the list written there.
use Rattle.entries.proofs.Laying.{writable_onward, rank_laid}
use Rattle.entries.proofs.lay_rank.Goals as goal

pub returns-clause-lays : goal.returns-clause-lays
returns-clause-lays c = λ nodes list p ls l lent is rank count node arcs. rank_laid p ls l lent is rank count node arcs _ _ _ _ (c.write_entries.ensures nodes list (writable_onward p))
