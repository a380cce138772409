-- Where an item comes in, at the end, and where one goes out, at the root.
use mathlib.Core.List.{List, [], ◌∷◌, ◌++◌}
use mathlib.Core.Path.{◌≡◌, refl, sym, ap, ◌∙◌}
use Prim.Native.Nat.{ℕ, suc, ◌+◌, ◌*◌, ◌-◌, ◌<◌, ◌≤◌}
use native.Mathlib.Nat.{not-suc-le-zero}
use native.Mathlib.Numerals.{add-one}
use native.Mathlib.Omega.{arith}
use lib.ListN.{length, set, drop}
use lib.Seq.{set_at, drop-drop}
use Rattle.rules.specs.Heap.{Item, push}
use Rattle.heap.specs.Items.{item, items, sorted}
use Rattle.heap.specs.Shape.{parent, at, Ordered}
use Rattle.heap.specs.Promises.{Pushed, Popped}
use Rattle.heap.specs.Gaps.{Gap, Sunk, Filled}
use Rattle.heap.proofs.Sorted.{sorted_snoc, heads}
use Rattle.heap.proofs.Stride.{length_items, at_items, at_fewer, items_more}
use Rattle.heap.proofs.Steps.{root_first, gap_at_root}

-- fewer items of a heap are a heap
pub fewer : (xs : List ℕ) (n len : ℕ) → 2 * len ≤ length xs → n ≤ len → Ordered (items xs len) → Ordered (items xs n)
fewer xs n len room h o = record {
  parent_first = λ i a b.
      let b' : i < n = rw (length_items xs n (omega arith)) at b in
      rw (at_fewer xs n len (parent i) room h (omega arith), at_fewer xs n len i room h b')
      (o.parent_first i a (rw (length_items xs len room) (omega arith)));
}

-- one place more is a gap
pub gap_at_end : (xs : List ℕ) (len : ℕ) → 2 * (len + 1) ≤ length xs → Ordered (items xs len) → Gap (items xs (len + 1)) len
gap_at_end xs len room o =
    let size : length (items xs (len + 1)) ≡ len + 1 = length_items xs (len + 1) room in
    let same : (j : ℕ) → j < len → at (items xs len) j ≡ at (items xs (len + 1)) j =
    λ j h. at_fewer xs len (len + 1) j room (omega arith) h in
    record {
      inside = omega arith;
      beside = λ j a b n _.
          let j' : j < len = omega arith in
          rw (← (same (parent j) (omega arith)), ← (same j j')) (o.parent_first j a (rw (length_items xs len (omega arith)) j'));
      across = λ j a b e. absurd (omega arith);
    }

-- what fills it is pushed
pub pushed : {entry exit : List ℕ} {len : ℕ} {x : Item} → 2 * (len + 1) ≤ length entry → Filled entry exit (len + 1) len x
    → Pushed entry exit len x
pushed {entry} {exit} {len} {x} room f =
    record {
      ordered = f.ordered;
      same = f.same ∙ ap sorted end ∙ sorted_snoc (items entry len) x;
      rest = f.rest;
      long = f.long;
    }
  where
    size : length (items entry len) ≡ len
    size = length_items entry len (omega arith)

    end : set (items entry (len + 1)) len x ≡ items entry len ++ x ∷ []
    end = rw (add-one len, items_more entry len (omega arith)) (set_at (items entry len) _ [] x len size)

-- the root goes out first
pub root_out : (x : Item) (l : List Item) → Ordered (x ∷ l) → sorted (x ∷ l) ≡ x ∷ sorted l
unfolding sorted
root_out x l o = heads x l (λ i h. root_first (x ∷ l) o (suc i) (omega arith))

-- and the last item takes its place
last_in : (l : List Item) (x : Item) → Ordered (l ++ x ∷ []) → 0 < length l → sorted (l ++ x ∷ []) ≡ at l 0 ∷ sorted (set l 0 x)
unfolding sorted
last_in [] x o h = absurd (not-suc-le-zero h)
last_in (y ∷ l) x o h = root_out y (l ++ x ∷ []) o ∙ ap (λ (q : List Item). y ∷ q) (sorted_snoc l x)

only : (xs : List ℕ) → 2 ≤ length xs → sorted (items xs 1) ≡ item xs 0 ∷ sorted (items xs 0)
unfolding sorted items item push
only [] h = absurd (omega arith)
only (w ∷ []) h = absurd (omega arith)
only (w ∷ n ∷ xs) h = refl

module _ (entry : List ℕ) (len : ℕ) (room : 2 * len ≤ length entry) (o : Ordered (items entry len)) where
  -- all but the last item
  fewer_by_one : Ordered (items entry (len - 1))
  fewer_by_one = fewer entry (len - 1) len room (omega arith) o

  some : 1 < len → 0 < length (items entry (len - 1))
  some more = rw (length_items entry (len - 1) (omega arith)) (omega arith)

  -- the only item goes out, and nothing is left
  pub popped_only : len ≡ 1 → Popped entry entry len (item entry 0)
  popped_only e = record {
    ordered = fewer_by_one;
    same = rw e (only entry (omega arith));
    rest = refl;
    long = refl;
  }

  -- without the last item, the root is a gap
  pub gap_at_front : 1 < len → Gap (items entry (len - 1)) 0
  gap_at_front more = gap_at_root (items entry (len - 1)) fewer_by_one (some more)

  -- the root goes out, the gap sinks, and the last item fills it
  pub popped : {mid exit : List ℕ} {gap : ℕ} → 1 < len → Sunk entry mid (len - 1) gap
      → Filled mid exit (len - 1) gap (item entry (len - 1)) → Popped entry exit len (item entry 0)
  popped {mid} {exit} more s f = record {
    ordered = f.ordered;
    same = root ∙ ap (λ (q : List Item). item entry 0 ∷ q) (sym (f.same ∙ s.moved.same (item entry (len - 1))));
    rest = beyond exit ∙ ap (drop 2) (f.rest ∙ s.moved.rest) ∙ sym (beyond entry);
    long = f.long ∙ s.moved.long;
  }
    where
      beyond : (xs : List ℕ) → drop (2 * len) xs ≡ drop 2 (drop (2 * (len - 1)) xs)
      beyond xs = let e : 2 * len ≡ 2 * (len - 1) + 2 = omega arith in rw (e, ← (drop-drop 2 (2 * (len - 1)) xs))

      split : items entry len ≡ items entry (len - 1) ++ item entry (len - 1) ∷ []
      split = let e : suc (len - 1) ≡ len = omega arith in rw e at (items_more entry (len - 1) (omega arith))

      root : sorted (items entry len) ≡ item entry 0 ∷ sorted (set (items entry (len - 1)) 0 (item entry (len - 1)))
      root =
          ap sorted split ∙ last_in (items entry (len - 1)) (item entry (len - 1)) (rw split at o) (some more)
          ∙ rw (at_items entry (len - 1) 0 (omega arith) (omega arith))
