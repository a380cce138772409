-- What `calc_paths` may leave: its number and every place of the four columns. Two outcomes are the same if each of these is.
use Rattle.std.specs.Prelude.{◌≡◌, ℕ, ◌<◌, length, get_or}
use Rattle.query.specs.Answers.{answer}
use Rattle.query.specs.Outcome as query
use Rattle.calc_paths.specs.Many.{Answers, PathsCall, own_places, single, calc_paths}
use Rattle.calc_paths.specs.Filling.{answered}

-- the contract, of the number returned and the columns at exit
abbrev pub Outcome : PathsCall → ℕ → Answers → Type 0
Outcome c r after = answered r after ≡ calc_paths c

pub record Same (r s : ℕ) (x y : Answers) : Type 0 where
  pub number : r ≡ s
  pub numbers : x.numbers ≡ y.numbers
  pub weights : x.weights ≡ y.weights
  pub lengths : x.lengths ≡ y.lengths
  pub paths : x.paths ≡ y.paths

-- A call that is not refused, pair by pair: the numbers and the places of pair k are an outcome of its single query.
abbrev pub EachPair : PathsCall → Answers → Type 0
EachPair c after =
    (k : ℕ) → k < length c.sources →
    query.Outcome (single c k) (answer (get_or after.numbers k 0) (get_or after.weights k 0) (get_or after.lengths k 0))
    (own_places c.nodes after.paths k)
