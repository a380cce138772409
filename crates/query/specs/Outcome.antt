-- What `fill_path` may leave: number, weight, count and every place of the path. Two outcomes are the same if each of these is.
use Rattle.std.specs.Prelude.{List, ◌≡◌, ℕ}
use Rattle.rules.specs.Refusals.{QueryCall}
use Rattle.rules.specs.Query.{query}
use Rattle.query.specs.Answers.{Answer, Tells}

-- the contract, of an answer and the path at exit
abbrev pub Outcome : QueryCall → Answer → List ℕ → Type 0
Outcome c r path = Tells (query c) r path

pub record Same (r s : Answer) (p q : List ℕ) : Type 0 where
  pub number : r.number ≡ s.number
  pub weight : r.weight ≡ s.weight
  pub count : r.count ≡ s.count
  pub path_is : p ≡ q
