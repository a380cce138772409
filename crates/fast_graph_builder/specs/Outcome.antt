-- What `build_with_order` may leave: its number and every lent place of the thirteen columns. Two outcomes are the same if each of
-- these is.
use Rattle.std.specs.Prelude.{◌≡◌, ℕ}
use Rattle.rules.specs.Columns.{Table, Hierarchy}
use Rattle.rules.specs.Refusals.{BuildCall}
use Rattle.rules.specs.Build.{build}
use Rattle.fast_graph_builder.specs.Promises.{answer}

-- the contract, of a number and columns at exit
abbrev pub Outcome : BuildCall → ℕ → Hierarchy → Type 0
Outcome c r h = answer r h ≡ build c

pub record SameTable (t u : Table) : Type 0 where
  pub starts : t.starts ≡ u.starts
  pub bases : t.bases ≡ u.bases
  pub neighbours : t.neighbours ≡ u.neighbours
  pub weights : t.weights ≡ u.weights
  pub in_numbers : t.in_numbers ≡ u.in_numbers
  pub out_numbers : t.out_numbers ≡ u.out_numbers

pub record Same (r s : ℕ) (h k : Hierarchy) : Type 0 where
  pub number : r ≡ s
  pub ranks : h.ranks ≡ k.ranks
  pub forward : SameTable h.forward k.forward
  pub backward : SameTable h.backward k.backward
