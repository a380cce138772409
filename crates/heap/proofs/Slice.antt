-- What the code's steps do, said of the slice: `Stride` carries the laws of `Steps` and `Sorted` over.
use mathlib.Core.List.{List}
use mathlib.Core.Path.{◌≡◌, refl, ap, ◌∙◌}
use Prim.Native.Nat.{ℕ, ◌+◌, ◌*◌, ◌-◌, ◌/◌, ◌<◌, ◌≤◌}
use native.Mathlib.Omega.{arith}
use lib.ListN.{length, set}
use Rattle.rules.specs.Heap.{Item}
use Rattle.heap.specs.Items.{item, items, sorted}
use Rattle.heap.specs.Shape.{parent, at, First}
use Rattle.heap.specs.Gaps.{put, Gap, Above, Leads, Moved, Filled}
use Rattle.heap.proofs.Sorted.{sorted_move}
use Rattle.heap.proofs.Stride.{length_items, at_items, items_put, length_put, drop_put}
use Rattle.heap.proofs.Steps.{leaf, leads, gap_sinks, gap_rises, above_rises, filled}

pub moved_not : {xs : List ℕ} {len i : ℕ} → Gap (items xs len) i → Moved xs xs len i i
moved_not g = record { gap = g; same = λ x. refl; rest = refl; long = refl }

moved_on : {a b c : List ℕ} {len i j k : ℕ} → Moved a b len i j → Moved b c len j k → Moved a c len i k
moved_on p q = record {
  gap = q.gap;
  same = λ x. q.same x ∙ p.same x;
  rest = q.rest ∙ p.rest;
  long = q.long ∙ p.long;
}

module _ (xs : List ℕ) (len : ℕ) (room : 2 * len ≤ length xs) where
  size : length (items xs len) ≡ len
  size = length_items xs len room

  pub gap_inside : {i : ℕ} → Gap (items xs len) i → i < len
  gap_inside g = omega (arith, g.inside, size)

  pub leads_inside : {i j : ℕ} → Leads (items xs len) i j → j < len
  leads_inside c = omega (arith, c.inside, size)

  -- of the two children j and s of the item at i, j leads if it may leave before s, where there is an s
  pub leads_by : (i j s : ℕ) → parent j ≡ i → i < j → j < len → j + s ≡ 4 * i + 3 → (s < len → First (item xs j) (item xs s))
      → Leads (items xs len) i j
  leads_by i j s e below inside both h =
      leads (items xs len) i j s e below (rw size inside) both
      (λ k. let k' : s < len = rw size at k in rw (at_items xs len j room inside, at_items xs len s room k') (h k'))

  -- the last item leads where it is an only child
  pub only_child : (i : ℕ) → i < len / 2 → (len - 1) / 2 ≤ i → Leads (items xs len) i (len - 1)
  only_child i some one =
      leads_by i (len - 1) len (omega arith) (omega arith) (omega arith) (omega arith) (λ h. absurd (omega arith))

  -- where nothing is below, anything may stand
  pub leaf_above : {x : Item} {i : ℕ} → len ≤ 2 * i + 1 → Above x (items xs len) i
  leaf_above {x} {i} h = leaf x (items xs len) i (rw size h)

  -- the item at j goes into the gap at i
  step : (i j : ℕ) → i < len → j < len → Gap (set (items xs len) i (at (items xs len) j)) j
      → Moved xs (put xs i (item xs j)) len i j
  step i j h k g = record {
    gap = rw now g;
    same = λ x. rw now (sorted_move (items xs len) i j x (rw size h) (rw size k));
    rest = drop_put xs len i (item xs j) h;
    long = length_put xs i (item xs j);
  }
    where
      now : items (put xs i (item xs j)) len ≡ set (items xs len) i (at (items xs len) j)
      now = items_put xs len i (item xs j) ∙ rw (at_items xs len j room k)

-- the gap has come from h to i
module _ {a xs : List ℕ} {len h i : ℕ} (room : 2 * len ≤ length xs) (m : Moved a xs len h i) where
  here : i < len
  here = gap_inside xs len room m.gap

  above_here : 0 < i → parent i < len
  above_here up = omega (arith, here)

  at_parent : 0 < i → at (items xs len) (parent i) ≡ item xs (parent i)
  at_parent up = at_items xs len (parent i) room (above_here up)

  -- the leading child goes up
  pub sinks : {j : ℕ} → Leads (items xs len) i j → Moved a (put xs i (item xs j)) len h j
  sinks {j} c = moved_on m (step xs len room i j here (leads_inside xs len room c) (gap_sinks (items xs len) i j m.gap c))

  module _ (x : Item) where
    -- the parent goes down, as x may leave before it
    pub rises : 0 < i → First x (item xs (parent i)) → Moved a (put xs i (item xs (parent i))) len h (parent i)
    rises up f =
        let g = gap_rises x (items xs len) i m.gap up (rw (at_parent up) f) in
        moved_on m (step xs len room i (parent i) here (above_here up) g)

    -- and x may leave before all that is below
    pub still_above : 0 < i → First x (item xs (parent i)) → Above x (items (put xs i (item xs (parent i))) len) (parent i)
    still_above up f =
        rw (items_put xs len i (item xs (parent i)), ← (at_parent up))
        (above_rises x (items xs len) i m.gap up (rw (at_parent up) f))

    -- x stays
    pub fills : Above x (items xs len) i → (0 < i → First (item xs (parent i)) x) → Filled a (put xs i x) len h x
    fills b f = record {
      ordered = rw (items_put xs len i x) (filled x (items xs len) i m.gap b (λ up. rw (at_parent up) (f up)));
      same = ap sorted (items_put xs len i x) ∙ m.same x;
      rest = drop_put xs len i x here ∙ m.rest;
      long = length_put xs i x ∙ m.long;
    }
