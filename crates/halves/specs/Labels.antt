-- What the labels mean: weight, parent and entry of v at 4 * v and after, and its stamp at 4 * v + 3. A stamp below the base is of an
-- earlier query.
use Rattle.std.specs.Prelude.{Bool, true, false, List, ℕ, ◌+◌, ◌*◌, ◌<◌, ltb, get_or, set}
use Rattle.rules.specs.Query.{Label, no_label, Half}
use Rattle.heap.specs.Items.{items, sorted}
use Rattle.halves.specs.declared.Label.{Label as Held}

abbrev pub label : ℕ → ℕ → ℕ → Label
label w p e = record { weight = w; parent = p; via = e }

-- the code's label
abbrev pub of : Held → Label
of l = label l.weight l.parent l.via

abbrev pub stamp : List ℕ → ℕ → ℕ
stamp labels v = get_or labels (4 * v + 3) 0

-- whatever the labels of n nodes hold, it is of queries before the base
abbrev pub Before : ℕ → ℕ → List ℕ → Type 0
Before n base labels = (v : ℕ) → v < n → stamp labels v < base

-- A query leaves no stamp but those of its base and the next: where there was none beyond them, the base after these is of no node.
abbrev pub Keeps : ℕ → List ℕ → List ℕ → Type 0
Keeps base labels labels' = (n : ℕ) → Before n (base + 2) labels → Before n (base + 2) labels'

-- the label of a node, as far as there are places for it
unfoldable pub seen : List ℕ → ℕ → ℕ → Label
seen labels base v =
    elim (ltb (stamp labels v) base) [
      | true ↦ no_label
      | false ↦ label (get_or labels (4 * v) 0) (get_or labels (4 * v + 1) 0) (get_or labels (4 * v + 2) 0)
    ]

-- Labels and settled nodes of a search among n nodes; beyond them there are none.
unfoldable pub label_at : ℕ → ℕ → List ℕ → ℕ → Label
label_at n base labels v = elim (ltb v n) [ true ↦ seen labels base v | false ↦ no_label ]

unfoldable pub settled_at : ℕ → ℕ → List ℕ → ℕ → Bool
settled_at n base labels v = elim (ltb v n) [ true ↦ ltb base (stamp labels v) | false ↦ false ]

-- the search that the slices stand for
unfoldable pub half : ℕ → ℕ → List ℕ → List ℕ → ℕ → Half
half n base labels heap len =
    record { label = label_at n base labels; settled = settled_at n base labels; heap = sorted (items heap len) }

-- the stamp that a label leaves: a settled node stays settled
unfoldable pub kept_stamp : List ℕ → ℕ → ℕ → ℕ
kept_stamp labels base v = elim (ltb (stamp labels v) base) [ true ↦ base | false ↦ stamp labels v ]

unfoldable pub put_label : List ℕ → ℕ → ℕ → Label → List ℕ
put_label labels base v l =
    set (set (set (set labels (4 * v) l.weight) (4 * v + 1) l.parent) (4 * v + 2) l.via) (4 * v + 3)
    (kept_stamp labels base v)

unfoldable pub put_settled : List ℕ → ℕ → ℕ → List ℕ
put_settled labels base v = set labels (4 * v + 3) (base + 1)
