-- What holds of the searches of a query at every step, on any tables that pass the table rules: steps 7 to 9 of the paper proof.
use Rattle.std.specs.Prelude.{◌≡◌, ◌⊎◌, Bool, true, false, List, ℕ, zero, suc, ◌+◌, ◌*◌, ◌≤◌, ◌<◌, length}
use Rattle.rules.specs.Numbers.{max_weight, no_weight, invalid}
use Rattle.rules.specs.Lists.{In}
use Rattle.rules.specs.Heap.{Item, Sorted}
use Rattle.rules.specs.Columns.{Table, Hierarchy, Side, forward, backward, opposite, table, entry, rank, places}
use Rattle.rules.specs.TableRules.{used}
use Rattle.rules.specs.Query.{End, Label, no_label, Best, Half, Halves}

abbrev pub weight_at : Half → ℕ → ℕ
weight_at x v = (x.label v).weight

-- How many of a table's first k entries have a base that is not settled: each may still be offered along, once.
unfoldable pub one_unless : Bool → ℕ
one_unless true = 0
one_unless false = 1

unfoldable pub unsettled : Table → (ℕ → Bool) → ℕ → ℕ
unsettled t settled zero = 0
unsettled t settled (suc k) = one_unless (settled (entry t k).base) + unsettled t settled k

-- how many items a side's search may still take out
abbrev pub load : ℕ → Hierarchy → Side → Half → ℕ
load n h s x = length x.heap + unsettled (table h s) x.settled (used n (table h s))

-- A label that came along an entry: its parent is settled, and the entry is one of the parent's.
pub record Along (h : Hierarchy) (s : Side) (x : Half) (v : ℕ) (l : Label) : Type 0 where
  pub parent_settled : x.settled l.parent ≡ true
  pub place : In l.via (places (table h s) (rank h l.parent))
  pub leads_to : (entry (table h s) l.via).neighbour ≡ v
  pub adds_up : l.weight ≡ weight_at x l.parent + (entry (table h s) l.via).weight

-- Where a node's label l comes from.
pub data Origin (h : Hierarchy) (s : Side) (es : List End) (x : Half) (v : ℕ) (l : Label) : Type 0 where
  unlabelled : l ≡ no_label → Origin h s es x v l
  listed : In (record { node = v; offset = l.weight }) es → l.via ≡ invalid → l.weight < no_weight → Origin h s es x v l
  came : Along h s x v l → Origin h s es x v l

-- A higher neighbour, through the other table's entry between them, gives less than the node's label.
pub record Stalled (h : Hierarchy) (s : Side) (x : Half) (v w : ℕ) : Type 0 where
  pub via : ℕ
  pub place : In via (places (table h (opposite s)) (rank h v))
  pub less : weight_at x (entry (table h (opposite s)) via).neighbour + (entry (table h (opposite s)) via).weight < w

-- Where a labelled node stands, when the best sum is b.
pub data Standing (h : Hierarchy) (s : Side) (b : ℕ) (x : Half) (v : ℕ) : Type 0 where
  waiting : In (record { weight = weight_at x v; node = v }) x.heap → Standing h s b x v
  done : x.settled v ≡ true → Standing h s b x v
  stalled : Stalled h s x v (weight_at x v) → Standing h s b x v
  heavy : b < weight_at x v → Standing h s b x v

pub record ItemRules (n : ℕ) (h : Hierarchy) (floor : ℕ) (x : Half) (i : Item) : Type 0 where
  pub node_below : i.node < n
  pub above : floor ≤ i.weight
  pub label_below : weight_at x i.node ≤ i.weight
  pub bounded : i.weight ≤ max_weight * suc (rank h i.node)

pub record LabelRules (n : ℕ) (h : Hierarchy) (x : Half) (v : ℕ) : Type 0 where
  pub node_below : v < n
  pub bounded : weight_at x v ≤ max_weight * suc (rank h v)

pub record SettledRules (n : ℕ) (h : Hierarchy) (s : Side) (floor : ℕ) (x : Half) (v : ℕ) : Type 0 where
  pub node_below : v < n
  pub low : weight_at x v ≤ floor
  pub labelled : weight_at x v < no_weight
  pub offered : (e : ℕ) → In e (places (table h s) (rank h v)) →
      weight_at x (entry (table h s) e).neighbour ≤ weight_at x v + (entry (table h s) e).weight

-- The floor is the weight last taken out; b is the best sum.
pub record Sound (n : ℕ) (h : Hierarchy) (s : Side) (es : List End) (floor b : ℕ) (x : Half) : Type 0 where
  pub sorted : Sorted x.heap
  pub items : (i : Item) → In i x.heap → ItemRules n h floor x i
  pub at_most : (v : ℕ) → weight_at x v ≤ no_weight
  pub labels : (v : ℕ) → weight_at x v < no_weight → LabelRules n h x v
  pub origins : (v : ℕ) → Origin h s es x v (x.label v)
  pub standing : (v : ℕ) → weight_at x v < no_weight → Standing h s b x v
  pub settled : (v : ℕ) → x.settled v ≡ true → SettledRules n h s floor x v
  pub covers : (e : End) → In e es → weight_at x e.node ≤ e.offset
  pub room : load n h s x ≤ length es + used n (table h s)

-- The best sum is at most what two settled labels of a node make, and, where it is set, at least what the labels of its
-- meeting node make.
pub record Met (n : ℕ) (x y : Half) (b : Best) : Type 0 where
  pub node_below : b.node < n
  pub set : b.sum < no_weight
  pub enough : weight_at x b.node + weight_at y b.node ≤ b.sum

abbrev pub no_best : Best
no_best = record { sum = no_weight; node = invalid }

pub record Meets (n : ℕ) (x y : Half) (b : Best) : Type 0 where
  pub low : (v : ℕ) → x.settled v ≡ true → y.settled v ≡ true → b.sum ≤ weight_at x v + weight_at y v
  pub real : (b ≡ no_best) ⊎ Met n x y b

-- Both searches and the best sum.
pub record Both (n : ℕ) (h : Hierarchy) (ss ts : List End) (q : Halves) : Type 0 where
  pub fwd_floor : ℕ
  pub bwd_floor : ℕ
  pub fwd : Sound n h forward ss fwd_floor q.best.sum q.fwd
  pub bwd : Sound n h backward ts bwd_floor q.best.sum q.bwd
  pub meets : Meets n q.fwd q.bwd q.best

abbrev pub both_loads : ℕ → Hierarchy → Halves → ℕ
both_loads n h q = load n h forward q.fwd + load n h backward q.bwd
