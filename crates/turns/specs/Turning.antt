-- What a turn asks and leaves: for any hierarchy that the columns are, and either side of it.
use Rattle.std.specs.Prelude.{List, ◌≡◌, ℕ, ◌+◌, ◌*◌, ◌-◌, ◌^◌, ◌<◌, ◌≤◌, length}
use Rattle.rules.specs.Lists.{range}
use Rattle.rules.specs.Numbers.{no_weight}
use Rattle.rules.specs.Columns.{Table, Hierarchy, Side, opposite, table}
use Rattle.rules.specs.TableRules.{used, TableRules}
use Rattle.rules.specs.Query.{End, Best, Half, relax, mark_settled, turn}
use Rattle.heap.specs.Items.{pair, items}
use Rattle.heap.specs.Shape.{Ordered}
use Rattle.query_laws.specs.Sound.{Sound}
use Rattle.halves.specs.Labels.{Keeps, seen, half}
use Rattle.halves.specs.Promises.{Relaxing, Reads}
use Rattle.tables.specs.declared.Sided.{Sided}
use Rattle.tables.specs.declared.Table.{Table as Lent}
use Rattle.halves.specs.declared.Half.{Half as Search}
use Rattle.halves.specs.Slices.{Kept}
use Rattle.turns.specs.declared.Best.{Best as Held}

abbrev pub best : ℕ → ℕ → Best
best s v = record { sum = s; node = v }

-- the code's best
abbrev pub of : Held → Best
of b = best b.sum b.node

-- the node has a label, and its entries can be offered along
pub record Settling (neighbours weights labels heap : List ℕ) (base len v weight begin end : ℕ) : Type 0 where
  pub relaxing : Relaxing neighbours weights labels heap len weight begin end
  pub label_room : 4 * (v + 1) ≤ length labels
  pub labelled : (seen labels base v).weight < no_weight
  pub stamps : base + 1 < 2 ^ 64

pub record Settles (neighbours weights labels heap labels' heap' : List ℕ) (base len r v weight begin end : ℕ) : Type 0 where
  pub half_is : (n : ℕ) (t : Table) → v < n → Reads n t neighbours weights begin end →
      half n base labels' heap' r ≡ mark_settled v (relax t (pair weight v) (range begin end) (half n base labels heap len))
  pub ordered : Ordered (items heap' r)
  pub most : r ≤ len + (end - begin)
  pub stamps : Keeps base labels labels'

-- the columns that a turn reads are those of a hierarchy: a side's own table, and the other
pub record View (h : Hierarchy) (s : Side) (ranks starts neighbours weights ts tm tw : List ℕ) : Type 0 where
  pub ranks_are : h.ranks ≡ ranks
  pub starts_are : (table h s).starts ≡ starts
  pub neighbours_are : (table h s).neighbours ≡ neighbours
  pub weights_are : (table h s).weights ≡ weights
  pub other_starts : (table h (opposite s)).starts ≡ ts
  pub other_neighbours : (table h (opposite s)).neighbours ≡ tm
  pub other_weights : (table h (opposite s)).weights ≡ tw

-- tables that keep the rules, a sound search in the slices, and room for what a turn may add
pub record Turning (n : ℕ) (ranks starts neighbours weights ts tm tw labels heap facing : List ℕ) (base len sum : ℕ) : Type 0 where
  pub h : Hierarchy
  pub s : Side
  pub es : List End
  pub floor : ℕ
  pub rules : TableRules n h
  pub view : View h s ranks starts neighbours weights ts tm tw
  pub sound : Sound n h s es floor sum (half n base labels heap len)
  pub ordered : Ordered (items heap len)
  pub held : 2 * len ≤ length heap
  pub heap_room : 2 * (length es + used n (table h s)) ≤ length heap
  pub label_room : 4 * n ≤ length labels
  pub facing_room : 4 * n ≤ length facing
  pub facing_low : (v : ℕ) → v < n → (seen facing base v).weight < no_weight → (seen facing base v).weight < 2 ^ 63
  pub stamps : base + 1 < 2 ^ 64

-- whatever search the labels faced are of, the turn is the definition's
pub record Turns (n : ℕ) (ranks starts neighbours weights ts tm tw labels heap facing : List ℕ) (base len : ℕ) (b : Best) (labels' heap' : List ℕ) (r : ℕ) (b' : Best) : Type 0 where
  pub turned : (t : Turning n ranks starts neighbours weights ts tm tw labels heap facing base len b.sum) (y : Half) →
      ((v : ℕ) → v < n → (y.label v).weight ≡ (seen facing base v).weight) →
      turn t.h t.s y b (half n base labels heap len) (half n base labels heap len).heap ≡
      record { half = half n base labels' heap' r; best = b' }
  pub ordered : Ordered (items heap' r)
  pub held : 2 * r ≤ length heap'
  pub stamps : Keeps base labels labels'

-- The same of the code's tables and half.
abbrev pub SettlingIn : Lent → Search → ℕ → ℕ → ℕ → ℕ → Type 0
SettlingIn own x = Settling own.neighbours.now own.weights.now x.labels.now x.heap.now x.base x.len

pub record SettlesIn (own : Lent) (x y : Search) (v weight begin end : ℕ) : Type 0 where
  pub settles : Settles own.neighbours.now own.weights.now x.labels.now x.heap.now y.labels.now y.heap.now x.base x.len y.len v weight begin end
  pub kept : Kept x y

abbrev pub TurningOn : Sided → Search → List ℕ → ℕ → Type 0
TurningOn t x facing sum =
    Turning t.num_nodes t.ranks.now t.own.starts.now t.own.neighbours.now t.own.weights.now t.other.starts.now
    t.other.neighbours.now t.other.weights.now x.labels.now x.heap.now facing x.base x.len sum

pub record TurnsOn (t : Sided) (x : Search) (facing : List ℕ) (b : Best) (y : Search) (b' : Best) : Type 0 where
  pub turns : Turns t.num_nodes t.ranks.now t.own.starts.now t.own.neighbours.now t.own.weights.now t.other.starts.now
      t.other.neighbours.now t.other.weights.now x.labels.now x.heap.now facing x.base x.len b y.labels.now y.heap.now y.len b'
  pub kept : Kept x y
