-- Ends as they are handed in.
use Rattle.std.specs.Prelude.{List, ◌≡◌, ℕ, ◌<◌, ◌≤◌, length, get_or}
use Rattle.rules.specs.Numbers.{max_weight, no_weight, invalid}
use Rattle.rules.specs.Columns.{Ends}
use Rattle.rules.specs.Query.{End, Best, zip_ends}
use Rattle.halves.specs.declared.Ends.{Ends as Lent}
use Rattle.ends.specs.declared.End.{End as Held}

abbrev pub end : ℕ → ℕ → End
end v o = record { node = v; offset = o }

abbrev pub given : List ℕ → List ℕ → Ends
given nodes offsets = record { nodes = nodes; offsets = offsets }

-- what the code's structs hold, as columns and as a list
abbrev pub ends_of : Lent → Ends
ends_of e = given e.nodes.now e.offsets.now

abbrev pub list_of : Lent → List End
list_of e = zip_ends e.nodes.now e.offsets.now

abbrev pub end_of : Held → End
end_of e = end e.node e.offset

-- no sum yet
abbrev pub none : Best
none = record { sum = no_weight; node = invalid }

-- an offset that counts is at most 2^40
abbrev pub Small : ℕ → Type 0
Small w = w < no_weight → w ≤ max_weight

pub record AllSmall (e : Ends) : Type 0 where
  pub even : length e.offsets ≡ length e.nodes
  pub small : (k : ℕ) → k < length e.nodes → Small (get_or e.offsets k 0)
