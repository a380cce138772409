-- The same of the code's half: it keeps the slices that were lent, as long as they are, and its base. So the lender knows what its own
-- slices hold afterwards.
use Rattle.std.specs.Prelude.{List, ◌≡◌, ℕ, length}
use Rattle.rules.specs.Query.{Label}
use Rattle.halves.specs.declared.Half.{Half}
use Rattle.halves.specs.declared.Lengths.{Lengths}
use Rattle.halves.specs.declared.Ends.{Ends}
use Rattle.halves.specs.Promises.{Offering, Offers, Relaxing, Relaxes, Entering, Enters}

abbrev pub lengths_of : Half → Lengths
lengths_of x = record { labels = length x.labels.now; heap = length x.heap.now }

pub record Kept (x y : Half) : Type 0 where
  pub labels_name : y.labels.ghost_name ≡ x.labels.ghost_name
  pub heap_name : y.heap.ghost_name ≡ x.heap.ghost_name
  pub labels : length y.labels.now ≡ length x.labels.now
  pub heap : length y.heap.now ≡ length x.heap.now
  pub base : y.base ≡ x.base

-- the same, of whatever base
pub record AsLong (x y : Half) : Type 0 where
  pub labels_name : y.labels.ghost_name ≡ x.labels.ghost_name
  pub heap_name : y.heap.ghost_name ≡ x.heap.ghost_name
  pub labels : length y.labels.now ≡ length x.labels.now
  pub heap : length y.heap.now ≡ length x.heap.now

-- the slices stay, and the heap is empty
pub record Started (x : Half) (base : ℕ) (y : Half) : Type 0 where
  pub labels_name : y.labels.ghost_name ≡ x.labels.ghost_name
  pub heap_name : y.heap.ghost_name ≡ x.heap.ghost_name
  pub labels : y.labels.now ≡ x.labels.now
  pub heap : y.heap.now ≡ x.heap.now
  pub base_is : y.base ≡ base
  pub empty : y.len ≡ 0

-- nothing but labels changes
pub record SameHeap (x y : Half) : Type 0 where
  pub labels_name : y.labels.ghost_name ≡ x.labels.ghost_name
  pub heap_name : y.heap.ghost_name ≡ x.heap.ghost_name
  pub heap : y.heap.now ≡ x.heap.now
  pub base : y.base ≡ x.base
  pub len : y.len ≡ x.len

abbrev pub OfferingTo : Half → ℕ → Type 0
OfferingTo x = Offering x.labels.now x.heap.now x.len

pub record OffersTo (x y : Half) (v : ℕ) (l : Label) : Type 0 where
  pub offers : Offers x.labels.now x.heap.now y.labels.now y.heap.now x.base x.len y.len v l
  pub kept : Kept x y

abbrev pub RelaxingFrom : List ℕ → List ℕ → Half → ℕ → ℕ → ℕ → Type 0
RelaxingFrom neighbours weights x = Relaxing neighbours weights x.labels.now x.heap.now x.len

pub record RelaxesFrom (neighbours weights : List ℕ) (x y : Half) (node weight begin end : ℕ) : Type 0 where
  pub relaxes : Relaxes neighbours weights x.labels.now x.heap.now y.labels.now y.heap.now x.base x.len y.len node weight begin end
  pub kept : Kept x y

abbrev pub EnteringInto : Ends → Half → Type 0
EnteringInto e x = Entering e.nodes.now e.offsets.now x.labels.now x.heap.now

pub record EntersInto (e : Ends) (x y : Half) : Type 0 where
  pub enters : Enters e.nodes.now e.offsets.now x.labels.now x.heap.now y.labels.now y.heap.now x.base y.len
  pub kept : Kept x y
