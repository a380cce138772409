-- A turn, item by item: what is left of it, from here, is the whole turn from the start.
use mathlib.Core.Bool.{Bool, true, false}
use mathlib.Core.List.{List, [], ◌∷◌}
use mathlib.Core.Path.{◌≡◌, refl, sym, ap, ◌∙◌}
use Prim.Native.Nat.{ℕ, suc, ◌+◌, ◌*◌, ◌-◌, ◌^◌, ◌<◌, ◌≤◌}
use native.Mathlib.Omega.{arith}
use lib.Dec.{ltb}
use lib.ListN.{length, get_or}
use Rattle.rules.specs.Numbers.{max_nodes, max_weight, no_weight}
use Rattle.rules.specs.Lists.{range}
use Rattle.rules.specs.Heap.{Item}
use Rattle.rules.specs.Columns.{Hierarchy, Side, opposite, table, rank, begin, places, entries}
use Rattle.rules.specs.Query.{Best, improve, Label, Half, with_heap, stalls, settle, turn}
use Rattle.walks.proofs.Places.{places_length}
use Rattle.query_laws.specs.Sound.{Sound}
use Rattle.query_laws.proofs.Taken.{taken_item, item_at_most, pass_settled, pass_stalled, fewer_unsettled}
use Rattle.query_laws.proofs.Turns.{turn_settled, turn_heavy, turn_stalled, turn_settles}
use Rattle.heap.specs.Items.{items, sorted}
use Rattle.heap.specs.Shape.{Ordered}
use Rattle.heap.specs.Promises.{Popped}
use Rattle.heap.proofs.Laws.{holds_size, empty_sorted}
use Rattle.tables.proofs.Entries.{each_within}
use Rattle.tables.proofs.Check.{shape_of}
use Rattle.halves.specs.Labels.{stamp, seen, half}
use Rattle.halves.specs.Promises.{Reads}
use Rattle.halves.proofs.Labels.{label_in, settled_in}
use Rattle.turns.specs.Turning.{Settling, Settles, Turning}
use Rattle.turns.proofs.Reading.{rank_read, rank_below, starts_room, from_read, to_read, Seen, seen_entry, stretch_end, lower_by, stall_scan}

module _ (n : ℕ) (ranks starts neighbours weights ts tm tw labels heap₀ facing : List ℕ) (base len₀ : ℕ) (b : Best)
    (t : Turning n ranks starts neighbours weights ts tm tw labels heap₀ facing base len₀ b.sum) where
  abbrev h : Hierarchy
  h = t.h

  abbrev s : Side
  s = t.s

  abbrev x₀ : Half
  x₀ = half n base labels heap₀ len₀

  pub record Going (heap : List ℕ) (len : ℕ) : Type 0 where
    pub floor : ℕ
    pub sound : Sound n h s t.es floor b.sum (half n base labels heap len)
    pub ordered : Ordered (items heap len)
    pub held : 2 * len ≤ length heap
    pub long : length heap ≡ length heap₀
    pub same : (y : Half) → turn h s y b x₀ (sorted (items heap len)) ≡ turn h s y b x₀ x₀.heap

  pub going_first : Going heap₀ len₀
  unfolding half
  going_first =
      record {
        floor = t.floor;
        sound = t.sound;
        ordered = t.ordered;
        held = t.held;
        long = refl;
        same = λ y. refl;
      }

  -- the heap is empty
  pub done_empty : (heap : List ℕ) (len : ℕ) → Going heap len → len ≤ 0 → (y : Half) →
      turn h s y b x₀ x₀.heap ≡ record { half = half n base labels heap len; best = b }
  unfolding turn half with_heap
  done_empty heap len g none y =
      let zero_len : len ≡ 0 = omega arith in
      let e : sorted (items heap len) ≡ [] = rw zero_len (empty_sorted heap) in
      rw e (sym (g.same y) ∙ rw e)

  -- Columns of a node.
  module _ (v : ℕ) (below : v < n) where
    abbrev r : ℕ
    r = get_or ranks v 0

    r_is : r ≡ rank h v
    r_is = sym (ap (λ (l : List ℕ). get_or l v 0) t.view.ranks_are) ∙ rank_read n h t.rules v below

    pub r_below : r < n
    r_below = rw r_is (rank_below n h t.rules v below)

    from_is : get_or starts r 0 ≡ begin (table h s) (rank h v)
    from_is = (λ j. get_or (sym t.view.starts_are j) (r_is j) 0) ∙ from_read n h t.rules v below s

    to_is : get_or starts (r + 1) 0 ≡ begin (table h s) (suc (rank h v))
    to_is = (λ j. get_or (sym t.view.starts_are j) (r_is j + 1) 0) ∙ to_read n h t.rules v below s

    other_from : get_or ts r 0 ≡ begin (table h (opposite s)) (rank h v)
    other_from = (λ j. get_or (sym t.view.other_starts j) (r_is j) 0) ∙ from_read n h t.rules v below (opposite s)

    other_to : get_or ts (r + 1) 0 ≡ begin (table h (opposite s)) (suc (rank h v))
    other_to = (λ j. get_or (sym t.view.other_starts j) (r_is j + 1) 0) ∙ to_read n h t.rules v below (opposite s)

    pub starts_long : r + 1 < length starts
    starts_long = omega (arith, r_below, rw t.view.starts_are at (starts_room n h t.rules v below s))

    pub other_starts_long : r + 1 < length ts
    other_starts_long = omega (arith, r_below, rw t.view.other_starts at (starts_room n h t.rules v below (opposite s)))

    pub ranks_long : v < length ranks
    ranks_long = omega (arith, rw t.view.ranks_are at t.rules.places_for_ranks)

    other_seen : (e : ℕ) → get_or ts r 0 ≤ e → e < get_or ts (r + 1) 0 → Seen n (table h (opposite s)) e
    other_seen e low high =
        seen_entry n h t.rules v below (opposite s) e (rw other_from at low) (rw other_to at high)

    own_seen : (e : ℕ) → get_or starts r 0 ≤ e → e < get_or starts (r + 1) 0 → Seen n (table h s) e
    own_seen e low high = seen_entry n h t.rules v below s e (rw from_is at low) (rw to_is at high)

    -- what the scan reads is there
    module _ (e : ℕ) (low : get_or ts r 0 ≤ e) (high : e < get_or ts (r + 1) 0) where
      pub scan_neighbour : e < length tm
      scan_neighbour = rw t.view.other_neighbours at (other_seen e low high).neighbour_room

      pub scan_weight : e < length tw
      scan_weight = rw t.view.other_weights at (other_seen e low high).weight_room

      pub scan_label : 4 * (get_or tm e 0 + 1) ≤ length labels
      scan_label =
          omega (arith, t.label_room, rw (ap (λ (l : List ℕ). get_or l e 0) t.view.other_neighbours) at (other_seen e low high).below)

    own_reads : Reads n (table h s) neighbours weights (begin (table h s) (rank h v)) (begin (table h s) (suc (rank h v)))
    own_reads =
        record {
          neighbour = λ e low high. let k = seen_entry n h t.rules v below s e low high in k.neighbour ∙ ap (λ (l : List ℕ). get_or l e 0) t.view.neighbours_are;
          weight = λ e low high. let k = seen_entry n h t.rules v below s e low high in k.weight ∙ ap (λ (l : List ℕ). get_or l e 0) t.view.weights_are;
          below = λ e low high. rw (ap (λ (l : List ℕ). get_or l e 0) t.view.neighbours_are) at (seen_entry n h t.rules v below s e low high).below;
        }

  -- An item is taken out.
  module _ (heap : List ℕ) (len : ℕ) (g : Going heap len) (some : 0 < len) (heap' : List ℕ) (i : Item) (p : Popped heap heap' len i) where
    abbrev q : List Item
    q = sorted (items heap' (len - 1))

    popped_sound : Sound n h s t.es g.floor b.sum (with_heap (i ∷ q) x₀)
    unfolding half with_heap
    popped_sound = rw p.same at g.sound

    pub node_below : i.node < n
    node_below = (taken_item n h t.rules s t.es g.floor b.sum x₀ i q popped_sound).node_below

    pub weight_small : i.weight ≤ max_weight * max_nodes
    weight_small = item_at_most n h t.rules s t.es g.floor b.sum x₀ i q popped_sound

    pub label_fits : 4 * (i.node + 1) ≤ length labels
    label_fits = omega (arith, node_below, t.label_room)

    pub facing_fits : 4 * (i.node + 1) ≤ length facing
    facing_fits = omega (arith, node_below, t.facing_room)

    pub node_small : i.node < 2 ^ 32
    node_small = omega (arith, node_below, t.rules.nodes)

    pub meeting_fits : (seen facing base i.node).weight < no_weight → i.weight + (seen facing base i.node).weight < 2 ^ 64
    meeting_fits low = omega (arith, weight_small, t.facing_low i.node node_below low)

    held_next : 2 * (len - 1) ≤ length heap'
    held_next = omega (arith, g.held, p.long)

    next : Sound n h s t.es i.weight b.sum (with_heap q x₀) → ((y : Half) → turn h s y b x₀ (i ∷ q) ≡ turn h s y b x₀ q) → Going heap' (len - 1)
    unfolding half with_heap
    next sound step =
        record {
          floor = i.weight;
          sound = sound;
          ordered = p.ordered;
          held = held_next;
          long = p.long ∙ g.long;
          same = λ y. sym (step y) ∙ ap (turn h s y b x₀) (sym p.same) ∙ g.same y;
        }

    from_start : (y : Half) → turn h s y b x₀ x₀.heap ≡ turn h s y b x₀ (i ∷ q)
    from_start y = sym (g.same y) ∙ ap (turn h s y b x₀) p.same

    own_settled : (c : Bool) → ltb base (stamp labels i.node) ≡ c → x₀.settled i.node ≡ c
    unfolding half
    own_settled c e = settled_in n base i.node labels node_below ∙ e

    pub next_settled : ltb base (stamp labels i.node) ≡ true → Going heap' (len - 1)
    next_settled e =
        next (pass_settled n h t.rules s t.es g.floor b.sum x₀ i q popped_sound (own_settled true e))
        (λ y. turn_settled h s y b x₀ i q (own_settled true e))

    module _ (yet : ltb base (stamp labels i.node) ≡ false) where
      -- one that is heavier than the best is lost
      pub done_heavy : ltb b.sum i.weight ≡ true → (y : Half) →
          turn h s y b x₀ x₀.heap ≡ record { half = half n base labels heap' (len - 1); best = b }
      unfolding half with_heap
      done_heavy e y = from_start y ∙ turn_heavy h s y b x₀ i q (own_settled false yet) e

      module _ (light : ltb b.sum i.weight ≡ false) where
        abbrev scanned : Bool
        scanned = lower_by labels base tm tw i.weight (range (get_or ts (get_or ranks i.node 0) 0) (get_or ts (get_or ranks i.node 0 + 1) 0))

        scan_is : scanned ≡ stalls (entries h (opposite s) i.node) x₀ i
        scan_is =
            let a = other_from i.node node_below in
            let c = other_to i.node node_below in
            (λ j. lower_by labels base (sym t.view.other_neighbours j) (sym t.view.other_weights j) i.weight (range (a j) (c j)))
            ∙ stall_scan n h t.rules s labels heap₀ base len₀ i node_below

        pub next_stalled : scanned ≡ true → Going heap' (len - 1)
        next_stalled e =
            let st = sym scan_is ∙ e in
            next (pass_stalled n h t.rules s t.es g.floor b.sum x₀ i q popped_sound st)
            (λ y. turn_stalled h s y b x₀ i q (own_settled false yet) light st)

        abbrev from : ℕ
        from = get_or starts (get_or ranks i.node 0) 0

        abbrev to : ℕ
        to = get_or starts (get_or ranks i.node 0 + 1) 0

        room_left : 2 * (len - 1 + (to - from)) ≤ length heap'
        unfolding with_heap
        room_left =
            let size = holds_size heap' (len - 1) q (record { room = held_next; ordered = p.ordered; same = refl }) in
            let fewer = fewer_unsettled n h t.rules s t.es g.floor b.sum x₀ i q popped_sound (own_settled false yet) in
            omega (
              arith,
              size,
              fewer,
              popped_sound.room,
              t.heap_room,
              p.long,
              g.long,
              places_length (table h s) (rank h i.node),
              from_is i.node node_below,
              to_is i.node node_below,
            )

        pub settling : Settling neighbours weights labels heap' base (len - 1) i.node i.weight from to
        unfolding half
        settling =
            record {
              relaxing =
                  record {
                    neighbours_room = omega (arith, end, long.0, to_is i.node node_below, ap length t.view.neighbours_are);
                    weights_room = omega (arith, end, long.1, to_is i.node node_below, ap length t.view.weights_are);
                    label_room = λ e low high.
                        omega (
                          arith,
                          t.label_room,
                          rw (ap (λ (l : List ℕ). get_or l e 0) t.view.neighbours_are) at (own_seen i.node node_below e low high).below,
                        );
                    sums = λ e low high.
                        omega (
                          arith,
                          weight_small,
                          rw (ap (λ (l : List ℕ). get_or l e 0) t.view.weights_are) at (own_seen i.node node_below e low high).light,
                        );
                    heap_room = room_left;
                    ordered = p.ordered;
                  };
              label_room = label_fits;
              labelled =
                  omega (
                    arith,
                    weight_small,
                    (taken_item n h t.rules s t.es g.floor b.sum x₀ i q popped_sound).label_below,
                    ap (λ (l : Label). l.weight) (label_in n base i.node labels node_below),
                  );
              stamps = t.stamps;
            }
          where
            end : begin (table h s) (suc (rank h i.node)) ≤ length (table h s).bases
            end = stretch_end n h t.rules i.node node_below s

            long : (length (table h s).neighbours ≡ length (table h s).bases) × (length (table h s).weights ≡ length (table h s).bases) ×
                (length (table h s).in_numbers ≡ length (table h s).bases) × (length (table h s).out_numbers ≡ length (table h s).bases)
            long = each_within (table h s) (shape_of n h s t.rules).columns

        -- the node is settled
        pub done_settles : scanned ≡ false → {now : List ℕ} → now ≡ labels → (labels' heap'' : List ℕ) (k : ℕ) →
            Settles neighbours weights now heap' labels' heap'' base (len - 1) k i.node i.weight from to →
            (y : Half) → ((v : ℕ) → v < n → (y.label v).weight ≡ (seen facing base v).weight) →
            turn h s y b x₀ x₀.heap ≡
            record { half = half n base labels' heap'' k; best = improve (i.weight + (seen facing base i.node).weight) i.node b }
        unfolding half with_heap settle places
        done_settles clear same labels' heap'' k a y agrees =
            let settles = rw same at a in
            let reads = own_reads i.node node_below in
            let e = from_is i.node node_below in
            let f = to_is i.node node_below in
            let is = rw (e, f) at (settles.half_is n (table h s) node_below (rw (e, f) reads)) in
            from_start y
            ∙ turn_settles h s y b x₀ i q (own_settled false yet) light (sym scan_is ∙ clear)
            ∙ λ j. record { half = sym is j; best = improve (i.weight + agrees i.node node_below j) i.node b }
