-- Laws of a turn over slices: what the tests on the slices say of the search that they stand for.
use mathlib.Core.Path.{◌≡◌, refl, sym, ap, ◌∙◌}
use mathlib.Core.Bool.{Bool, true, false, not, ◌||◌}
use mathlib.Core.List.Memᴰ
use mathlib.Core.List.{List, ◌∷◌}
use Prim.Native.Nat.{ℕ, ◌+◌, ◌-◌, ◌<◌, ◌≤◌}
use native.Mathlib.Omega.{arith}
use lib.Dec.{eqb, leb}
use lib.ListN.{length, drop}
use borrow.Author.Tests.{lt-ltb, le-ltb, lt-leb, le-leb}
use Rattle.rules.specs.Heap.{Item}
use Rattle.rules.specs.Search.{Search, with_heap, reached}
use Rattle.rules.proofs.Lists.{empty_of_length}
use Rattle.search_laws.proofs.Bounds.{passed_paid, settle_paid, settle_room, settle_count}
use Rattle.heap.specs.Items.{item}
use Rattle.heap.specs.Promises.{Popped}
use Rattle.heap.proofs.Laws.{holds_first}
use Rattle.graph.proofs.Standing.{within_pool}
use Rattle.search.specs.Labels.{label_at, settled_at, Reached}
use Rattle.search.specs.Turns.{Turn, stop, turn}
use Rattle.search.specs.Searching.{Searching, World, Lent, with_slices}
use Rattle.search.specs.Promises.{Progress, Settling, Settled, Asked, Taking, Taken, Turned}
use Rattle.search.proofs.Turns.{entry_passed, entry_settled, turn_empty, turn_limited, turn_heavy, turn_takes}
use Rattle.search.proofs.Offers.{passed, size, head_leaves}

abbrev pub progress : ℕ → ℕ → Bool → Progress
progress len settled on = record { len = len; settled = settled; on = on }

module _ {m : Lent} {base len count target sum : ℕ} {w : World} {s : Search} (x : Taking m base len count target sum w s)
    {heap' : List ℕ} {i : Item} (p : Popped m.heap heap' len i) where
  searching : Searching w.n m.labels m.heap base len s
  searching = x.asked.ready.searching

  abbrev pub left_heap : List Item
  left_heap = drop 1 s.heap

  pub leaves : s.heap ≡ i ∷ left_heap
  leaves = (head_leaves searching.holds x.some p).0

  leaves_light : i.weight ≤ sum
  leaves_light = omega (arith, x.light, ap (λ (j : Item). j.weight) (head_leaves searching.holds x.some p).1)

  pub leaves_reached : Reached w.n m.labels base i.node
  leaves_reached = searching.nodes i (rw leaves (Memᴰ.head refl))

  pub leaves_settled : s.settled i.node ≡ settled_at m.labels base i.node
  leaves_settled = searching.labelled.done i.node leaves_reached.inside

  -- the entry of a settled node
  pub taken_over : (avoid : ℕ) → settled_at m.labels base i.node ≡ true →
      Taken (with_slices m m.labels heap') base avoid target sum (progress (len - 1) count true) w s
  unfolding with_heap
  taken_over avoid on =
      let e = entry_passed w.graph avoid target sum s i left_heap leaves (leaves_settled ∙ on) in
      let r = x.asked.ready in
      record {
        on = ap (λ (t : Turn). t.on) (sym e);
        ready =
            rw e
            (record {
              standing = r.standing;
              searching = passed searching p;
              counted = r.counted;
              paid = passed_paid w.graph avoid i left_heap s leaves r.paid;
              room = omega (arith, r.room, p.long);
            });
      }

  -- the entry of another
  module _ (off : settled_at m.labels base i.node ≡ false) where
    open_node : s.settled i.node ≡ false
    open_node = leaves_settled ∙ off

    pub taken_settling : Settling (with_slices m m.labels heap') base (len - 1) i.node i.weight w (with_heap left_heap s)
    taken_settling =
        let r = x.asked.ready in
        let y = passed searching p in
        record {
          standing = r.standing;
          searching = y;
          node = leaves_reached;
          light = omega (arith, leaves_light, x.asked.small);
          room =
              omega (
                arith,
                r.room,
                p.long,
                size searching,
                ap length leaves,
                within_pool r.standing.stands,
                settle_room w.graph 0 i left_heap s leaves open_node r.paid,
              );
        }

    pub taken_settled : (avoid : ℕ) {labels heap : List ℕ} {len' : ℕ} {on : Bool} →
        Settled (with_slices m labels heap) base len' avoid i.node i.weight w (with_heap left_heap s) → length heap ≡ length heap' →
        on ≡ not (leb (label_at labels base target) sum || eqb i.node target) →
        Taken (with_slices m labels heap) base avoid target sum (progress len' (count + 1) on) w s
    unfolding reached
    taken_settled avoid y long on =
        let e = entry_settled w.graph avoid target sum s i left_heap leaves open_node in
        let r = x.asked.ready in
        record {
          on = on ∙ ap (λ (l : ℕ). not (leb l sum || eqb i.node target)) (sym (y.labelled.weight target x.asked.inside)) ∙ ap (λ (t : Turn). t.on) (sym e);
          ready =
              rw e
              (record {
                standing = r.standing;
                searching = y;
                counted =
                    settle_count w.graph avoid i left_heap s leaves open_node ∙ omega (arith, r.counted);
                paid = settle_paid w.graph avoid i left_heap s leaves open_node r.paid;
                room = omega (arith, r.room, p.long, long);
              });
        }

module _ {m : Lent} {base len count target sum : ℕ} {w : World} {s : Search} (x : Asked m base len count target sum w s)
    (avoid limit : ℕ) where
  turned_stop : turn w.graph avoid target sum limit s ≡ stop s →
      Turned m base avoid target sum limit (progress len count false) w s
  turned_stop e = record { on = ap (λ (t : Turn). t.on) (sym e); ready = rw e x.ready }

  pub turned_empty : len ≡ 0 → Turned m base avoid target sum limit (progress len count false) w s
  turned_empty e = turned_stop (turn_empty w.graph avoid target sum s limit (empty_of_length s.heap (omega (arith, size x.ready.searching))))

  module _ (some : 0 < len) where
    first : s.heap ≡ item m.heap 0 ∷ drop 1 s.heap
    first = holds_first m.heap len s.heap x.ready.searching.holds some

    pub turned_limited : limit ≤ count → Turned m base avoid target sum limit (progress len count false) w s
    turned_limited h =
        turned_stop
        (turn_limited w.graph avoid target sum s _ _ first limit (le-leb limit s.count (omega (arith, x.ready.counted))))

    module _ (more : count < limit) where
      below : leb limit s.count ≡ false
      below = lt-leb limit s.count (omega (arith, x.ready.counted))

      pub turned_heavy : sum < (item m.heap 0).weight → Turned m base avoid target sum limit (progress len count false) w s
      turned_heavy h =
          turned_stop (turn_heavy w.graph avoid target sum s _ _ first limit below (lt-ltb sum _ h))

      pub turned_take : {m' : Lent} {r : Progress} → (item m.heap 0).weight ≤ sum → Taken m' base avoid target sum r w s →
          Turned m' base avoid target sum limit r w s
      turned_take h y =
          let e = turn_takes w.graph avoid target sum s _ _ first limit below (le-ltb sum _ h) in
          record { on = y.on ∙ ap (λ (t : Turn). t.on) (sym e); ready = rw e y.ready }
