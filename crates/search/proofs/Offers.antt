-- Laws of the slices that stand for a search: an offer, a settled node, and an entry that leaves.
use mathlib.Core.Path.{◌≡◌, refl, sym, ap, ◌∙◌}
use mathlib.Core.Logic.{inl, inr}
use mathlib.Core.List.Memᴰ
use mathlib.Core.List.{List, [], ◌∷◌}
use Prim.Native.Nat.{ℕ, ◌+◌, ◌*◌, ◌-◌, ◌^◌, ◌<◌, ◌≤◌}
use native.Mathlib.Omega.{arith}
use lib.Dec.{eqb, ltb}
use lib.ListN.{length, drop}
use borrow.Author.Tests.{lt-ltb, le-ltb, eq-eqb}
use Rattle.rules.specs.Heap.{Item, push}
use Rattle.rules.specs.Graph.{Arc}
use Rattle.rules.specs.Search.{Search, init, offer, relax, with_heap, mark_settled}
use Rattle.rules.proofs.Cases.{on_test}
use Rattle.rules.proofs.Heaps.{push_in}
use Rattle.heap.specs.Items.{pair, item}
use Rattle.heap.specs.Promises.{Holds, Pushed, Popped}
use Rattle.heap.proofs.Laws.{holds_none, holds_size, holds_first, holds_push, holds_pop}
use Rattle.search.specs.Labels.{label_at, Stamped, Reached, put_label, put_settled}
use Rattle.search.specs.Turns.{cross}
use Rattle.search.specs.Searching.{Searching}
use Rattle.search.proofs.Labels.{labelled_put, reached_put, reached_new, labelled_settled, reached_settled, labelled_none}
use Rattle.search.proofs.Crossing.{relax_cross}

module _ {n base len : ℕ} {labels heap : List ℕ} {s : Search} (x : Searching n labels heap base len s) where
  pub label_room : (v : ℕ) → v < n → 2 * (v + 1) ≤ length labels
  label_room v h = omega (arith, x.labelled.stamped.room)

  module _ (v weight : ℕ) (inside : v < n) where
    pub offered_not : label_at labels base v ≤ weight → Searching n labels heap base len (offer (pair weight v) s)
    unfolding offer
    offered_not h =
        rw (le-ltb weight (s.label v) (omega (arith, x.labelled.weight v inside)), offer) x

    pub offered_new : {heap' : List ℕ} → weight < label_at labels base v → 2 * (len + 1) ≤ length heap → Pushed heap heap' len (pair weight v) →
        Searching n (put_label labels base v weight) heap' base (len + 1) (offer (pair weight v) s)
    unfolding offer
    offered_new {heap'} h room p =
        rw (lt-ltb weight (s.label v) (omega (arith, x.labelled.weight v inside)), offer)
        (record {
          labelled = labelled_put x.labelled v inside weight;
          holds = holds_push heap len s.heap x.holds heap' (pair weight v) room p;
          nodes =
              λ i m.
              elim (push_in (pair weight v) s.heap i m) [
                | inl new ↦ rw new (reached_new x.labelled v inside weight)
                | inr old ↦ reached_put x.labelled v inside weight i.node (x.nodes i old)
              ];
        })

  pub crossed_not : (avoid v weight : ℕ) → v ≡ avoid → Searching n labels heap base len (cross avoid (pair weight v) s)
  unfolding cross
  crossed_not avoid v weight e = rw (eq-eqb v avoid e, cross) x

  -- an entry has left
  pub passed : {heap' : List ℕ} {i : Item} → Popped heap heap' len i → Searching n labels heap' base (len - 1) (with_heap (drop 1 s.heap) s)
  unfolding with_heap
  passed {heap'} {i} p =
      let out = holds_pop heap len s.heap x.holds heap' i p in
      record {
        labelled = x.labelled;
        holds = out.1;
        nodes = λ j m. x.nodes j (rw out.0 (Memᴰ.tail m));
      }

  pub marked : (v : ℕ) → Reached n labels base v → Searching n (put_settled labels base v) heap base len (mark_settled v s)
  unfolding mark_settled
  marked v r =
      record {
        labelled = labelled_settled x.labelled v r.inside r.stamped;
        holds = x.holds;
        nodes = λ i m. reached_settled x.labelled v r.inside i.node (x.nodes i m);
      }

  -- a heap is as long as its items
  pub size : length s.heap ≡ len
  size = holds_size heap len s.heap x.holds

-- a search can be marked before it relaxes or after
module _ (v : ℕ) where
  offer_marked : (i : Item) (s : Search) → offer i (mark_settled v s) ≡ mark_settled v (offer i s)
  unfolding offer mark_settled
  offer_marked i s =
      on_test (ltb i.weight (s.label i.node))
      (λ t. rw (t, offer))
      (λ t. rw (t, offer))

  cross_marked : (avoid : ℕ) (i : Item) (s : Search) → cross avoid i (mark_settled v s) ≡ mark_settled v (cross avoid i s)
  unfolding cross
  cross_marked avoid i s =
      on_test (eqb i.node avoid)
      (λ t. rw (t, cross))
      (λ t. rw (t, cross) (offer_marked i s))

  pub relax_marked : (avoid w : ℕ) (bs : List Arc) (s : Search) → relax avoid w bs (mark_settled v s) ≡ mark_settled v (relax avoid w bs s)
  unfolding relax
  relax_marked avoid w [] s = refl
  relax_marked avoid w (b ∷ bs) s =
      let i : Item = record { weight = w + b.weight; node = b.head } in
      relax_cross avoid w b bs (mark_settled v s) ∙ ap (relax avoid w bs) (cross_marked avoid i s)
      ∙ relax_marked avoid w bs (cross avoid i s) ∙ ap (mark_settled v) (sym (relax_cross avoid w b bs s))

-- the first entry's label and node, of a heap whose head is at hand
pub head_leaves : {heap heap' : List ℕ} {len : ℕ} {q : List Item} {i : Item} → Holds heap len q → 1 ≤ len → Popped heap heap' len i →
    (q ≡ i ∷ drop 1 q) × (i ≡ item heap 0)
head_leaves {heap} {heap'} {len} {q} {i} h some p =
    let a = (holds_pop heap len q h heap' i p).0 in
    let b = holds_first heap len q h some in
    (a, cc)

-- A new search.
pub started : {n base : ℕ} {labels heap heap' : List ℕ} (start : ℕ) → Stamped n labels base → base + 3 < 2 ^ 64 → start < n → 2 ≤ length heap →
    Pushed heap heap' 0 (pair 0 start) → Searching n (put_label labels (base + 2) start 0) heap' (base + 2) 1 (init start)
unfolding init push
started {n} {base} {labels} {heap} {heap'} start s fits inside room p =
    let none = labelled_none s fits in
    record {
      labelled = labelled_put none start inside 0;
      holds = holds_push heap 0 [] (holds_none heap) heap' (pair 0 start) room p;
      nodes = λ i m. rw (Memᴰ.eq_of_singleton m) (reached_new none start inside 0);
    }
