-- What stays over two steps.
use mathlib.Core.Path.{◌≡◌, refl, ◌∙◌, ap}
use Prim.Native.Nat.{ℕ}
use lib.ListN.{length}
use Rattle.halves.specs.declared.Half.{Half}
use Rattle.halves.specs.Slices.{Kept, AsLong, Started}

pub kept_all : (x : Half) → Kept x x
kept_all x = record { labels_name = refl; heap_name = refl; labels = refl; heap = refl; base = refl }

pub kept_on : {x y z : Half} → Kept x y → Kept y z → Kept x z
kept_on a b =
    record {
      labels_name = b.labels_name ∙ a.labels_name;
      heap_name = b.heap_name ∙ a.heap_name;
      labels = b.labels ∙ a.labels;
      heap = b.heap ∙ a.heap;
      base = b.base ∙ a.base;
    }

-- what lies in the heap changes
pub heap_kept : {x y z : Half} → Kept x y → z.labels ≡ y.labels → z.heap.ghost_name ≡ y.heap.ghost_name →
    length z.heap.now ≡ length y.heap.now → z.base ≡ y.base → Kept x z
heap_kept a labels name long base =
    record {
      labels_name = ap (λ l. l.ghost_name) labels ∙ a.labels_name;
      heap_name = name ∙ a.heap_name;
      labels = ap (λ l. length l.now) labels ∙ a.labels;
      heap = long ∙ a.heap;
      base = base ∙ a.base;
    }

pub long_all : (x : Half) → AsLong x x
long_all x = record { labels_name = refl; heap_name = refl; labels = refl; heap = refl }

pub long_on : {x y z : Half} → AsLong x y → AsLong y z → AsLong x z
long_on a b =
    record {
      labels_name = b.labels_name ∙ a.labels_name;
      heap_name = b.heap_name ∙ a.heap_name;
      labels = b.labels ∙ a.labels;
      heap = b.heap ∙ a.heap;
    }

-- what lies in the labels changes first
pub labels_long : {x y z : Half} → y.labels.ghost_name ≡ x.labels.ghost_name → length y.labels.now ≡ length x.labels.now →
    y.heap ≡ x.heap → AsLong y z → AsLong x z
labels_long name long heap a =
    record {
      labels_name = a.labels_name ∙ name;
      heap_name = a.heap_name ∙ ap (λ h. h.ghost_name) heap;
      labels = a.labels ∙ long;
      heap = a.heap ∙ ap (λ h. length h.now) heap;
    }

-- A search of this base that was begun, and then kept its slices.
pub started_long : {x y z : Half} {base : ℕ} → Started x base y → Kept y z → AsLong x z
started_long a b =
    record {
      labels_name = b.labels_name ∙ a.labels_name;
      heap_name = b.heap_name ∙ a.heap_name;
      labels = b.labels ∙ ap length a.labels;
      heap = b.heap ∙ ap length a.heap;
    }
