-- What the steps of a side's search ask and promise, of any number of nodes.
use Rattle.std.specs.Prelude.{List, ◌≡◌, ℕ, ◌+◌, ◌*◌, ◌-◌, ◌^◌, ◌<◌, ◌≤◌, length, get_or}
use Rattle.rules.specs.Lists.{range}
use Rattle.rules.specs.Columns.{Table, entry}
use Rattle.rules.specs.Query.{Label, zip_ends, offer, enter, relax}
use Rattle.heap.specs.Items.{pair, items}
use Rattle.heap.specs.Shape.{Ordered}
use Rattle.halves.specs.Labels.{Keeps, half}

-- room for the label of v and for one item more
pub record Offering (labels heap : List ℕ) (len v : ℕ) : Type 0 where
  pub label_room : 4 * (v + 1) ≤ length labels
  pub heap_room : 2 * (len + 1) ≤ length heap
  pub ordered : Ordered (items heap len)

pub record Offers (labels heap labels' heap' : List ℕ) (base len r v : ℕ) (l : Label) : Type 0 where
  pub half_is : (n : ℕ) → v < n → half n base labels' heap' r ≡ offer v l (half n base labels heap len)
  pub ordered : Ordered (items heap' r)
  pub one_more : r ≤ len + 1
  pub stamps : Keeps base labels labels'

-- the entries of a stretch can be read, and offered along
pub record Relaxing (neighbours weights labels heap : List ℕ) (len weight begin end : ℕ) : Type 0 where
  pub neighbours_room : end ≤ length neighbours
  pub weights_room : end ≤ length weights
  pub label_room : (e : ℕ) → begin ≤ e → e < end → 4 * (get_or neighbours e 0 + 1) ≤ length labels
  pub sums : (e : ℕ) → begin ≤ e → e < end → weight + get_or weights e 0 < 2 ^ 64
  pub heap_room : 2 * (len + (end - begin)) ≤ length heap
  pub ordered : Ordered (items heap len)

-- a stretch of a table, in columns
pub record Reads (n : ℕ) (t : Table) (neighbours weights : List ℕ) (begin end : ℕ) : Type 0 where
  pub neighbour : (e : ℕ) → begin ≤ e → e < end → (entry t e).neighbour ≡ get_or neighbours e 0
  pub weight : (e : ℕ) → begin ≤ e → e < end → (entry t e).weight ≡ get_or weights e 0
  pub below : (e : ℕ) → begin ≤ e → e < end → get_or neighbours e 0 < n

pub record Relaxes (neighbours weights labels heap labels' heap' : List ℕ) (base len r node weight begin end : ℕ) : Type 0 where
  pub half_is : (n : ℕ) (t : Table) → Reads n t neighbours weights begin end →
      half n base labels' heap' r ≡ relax t (pair weight node) (range begin end) (half n base labels heap len)
  pub ordered : Ordered (items heap' r)
  pub most : r ≤ len + (end - begin)
  pub stamps : Keeps base labels labels'

-- room for the labels of ends and for an item of each
pub record Entering (nodes offsets labels heap : List ℕ) : Type 0 where
  pub even : length offsets ≡ length nodes
  pub label_room : (k : ℕ) → k < length nodes → 4 * (get_or nodes k 0 + 1) ≤ length labels
  pub heap_room : 2 * length nodes ≤ length heap

pub record Enters (nodes offsets labels heap labels' heap' : List ℕ) (base r : ℕ) : Type 0 where
  pub half_is : (n : ℕ) → ((k : ℕ) → k < length nodes → get_or nodes k 0 < n) →
      half n base labels' heap' r ≡ enter (zip_ends nodes offsets) (half n base labels heap 0)
  pub ordered : Ordered (items heap' r)
  pub most : r ≤ length nodes
  pub stamps : Keeps base labels labels'
