-- Each item of a search's heap is paid for: by an arc that leaves a settled node, or by the start.
use Rattle.std.specs.Prelude.{Bool, List, ℕ, suc, ◌≤◌, length}
use Rattle.rules.specs.Lists.{keep}
use Rattle.rules.specs.Graph.{Arc}
use Rattle.rules.specs.Search.{Search}

-- the arcs whose tail is settled
abbrev pub paid : (ℕ → Bool) → List Arc → ℕ
paid f g = length (keep (λ (x : Arc). f x.tail) g)

-- the heap holds no more than the arcs that are paid for, and one
abbrev pub Paid : List Arc → Search → Type 0
Paid g s = length s.heap ≤ suc (paid s.settled g)
