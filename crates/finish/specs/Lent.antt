-- The same of the columns as they are lent.
use Rattle.std.specs.Prelude.{List, ◌≡◌, ℕ}
use Rattle.rules.specs.Refusals.{BuildCall}
use Rattle.rules.specs.Columns.{Side}
use Rattle.rules.specs.Build.{Raw, Building}
use Rattle.marks.specs.declared.TableMut.{TableMut}
use Rattle.marks.specs.Lent.{KeptColumns}
use Rattle.finish.specs.declared.Laid.{Laid}
use Rattle.finish.specs.declared.LaidTable.{LaidTable}
use Rattle.finish.specs.declared.Numbers.{Numbers}
use Rattle.finish.specs.Promises.{Opening, Opens, Finishing, Finishes, Ending}

abbrev pub OpeningAt : BuildCall → Building → Side → Raw → (centre tail head : ℕ) → Laid → Type 0
OpeningAt c b s x centre tail head l =
    Opening c b s x centre tail head l.ranks.now l.fwd_starts.now l.fwd_neighbours.now l.bwd_starts.now l.bwd_neighbours.now

abbrev pub OpensAt : (centre tail head : ℕ) → Laid → Numbers → Type 0
OpensAt centre tail head l = Opens centre tail head l.ranks.now l.fwd_starts.now l.fwd_neighbours.now l.bwd_starts.now l.bwd_neighbours.now

abbrev pub FinishingAt : BuildCall → Building → Side → ℕ → Laid → (tails heads ins outs : List ℕ) → Type 0
FinishingAt c b s count l = Finishing c b s count l.ranks.now l.fwd_starts.now l.fwd_neighbours.now l.bwd_starts.now l.bwd_neighbours.now

abbrev pub FinishesAt : ℕ → Laid → (tails heads ins outs ins' outs' : List ℕ) → Type 0
FinishesAt count l = Finishes count l.ranks.now l.fwd_starts.now l.fwd_neighbours.now l.bwd_starts.now l.bwd_neighbours.now

abbrev pub EndingAt : BuildCall → Building → (n : ℕ) (order : List ℕ) (fwd_count bwd_count : ℕ) (ranks : List ℕ) → LaidTable → LaidTable → Type 0
EndingAt c b n order fwd_count bwd_count ranks f k =
    Ending c b n order fwd_count bwd_count ranks f.starts.now f.bases.now f.neighbours.now f.ins.now f.outs.now
    k.starts.now k.bases.now k.neighbours.now k.ins.now k.outs.now

-- of a table whose columns were lent so: bases, neighbours and weights stay
pub record KeptEntries (x y : TableMut) : Type 0 where
  pub columns : KeptColumns x y
  pub bases : y.bases.now ≡ x.bases.now
  pub neighbours : y.neighbours.now ≡ x.neighbours.now
  pub weights : y.weights.now ≡ x.weights.now
