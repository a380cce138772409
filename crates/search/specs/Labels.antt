-- What the labels mean: the weight of v at 2 * v and its stamp at 2 * v + 1. A stamp below the base is of an earlier search.
use Rattle.std.specs.Prelude.{Bool, true, false, List, ◌≡◌, ℕ, ◌+◌, ◌*◌, ◌^◌, ◌<◌, ◌≤◌, ltb, leb, length, get_or, set}
use Rattle.rules.specs.Numbers.{no_weight}

abbrev pub stamp : List ℕ → ℕ → ℕ
stamp labels v = get_or labels (2 * v + 1) 0

unfoldable pub label_at : List ℕ → ℕ → ℕ → ℕ
label_at labels base v = elim (leb base (stamp labels v)) [ true ↦ get_or labels (2 * v) 0 | false ↦ no_weight ]

abbrev pub settled_at : List ℕ → ℕ → ℕ → Bool
settled_at labels base v = ltb base (stamp labels v)

-- no stamp is above those of the search with this base
pub record Stamped (n : ℕ) (labels : List ℕ) (base : ℕ) : Type 0 where
  pub room : 2 * n ≤ length labels
  pub below : (v : ℕ) → v < n → stamp labels v ≤ base + 1

-- the labels and the settled nodes of a search, as far as there are nodes
pub record Labelled (n : ℕ) (labels : List ℕ) (base : ℕ) (label : ℕ → ℕ) (settled : ℕ → Bool) : Type 0 where
  pub stamped : Stamped n labels base
  pub fits : base + 1 < 2 ^ 64
  pub weight : (v : ℕ) → v < n → label v ≡ label_at labels base v
  pub done : (v : ℕ) → v < n → settled v ≡ settled_at labels base v

-- v has a label of this search
pub record Reached (n : ℕ) (labels : List ℕ) (base v : ℕ) : Type 0 where
  pub inside : v < n
  pub stamped : base ≤ stamp labels v

-- the stamp that a label leaves: a settled node stays settled
unfoldable pub kept_stamp : List ℕ → ℕ → ℕ → ℕ
kept_stamp labels base v = elim (ltb (stamp labels v) base) [ true ↦ base | false ↦ stamp labels v ]

unfoldable pub put_label : List ℕ → ℕ → ℕ → ℕ → List ℕ
put_label labels base v weight = set (set labels (2 * v) weight) (2 * v + 1) (kept_stamp labels base v)

unfoldable pub put_settled : List ℕ → ℕ → ℕ → List ℕ
put_settled labels base v = set labels (2 * v + 1) (base + 1)
