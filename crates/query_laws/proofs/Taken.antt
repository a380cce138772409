-- An item is taken out of a search's heap: every way to go on keeps the search sound (steps 7 and 8), on any tables that
-- pass the table rules.
use mathlib.Core.Path.{◌≡◌, refl, sym, ◌∙◌, ap, subst}
use mathlib.Core.Logic.{◌↔◌, ◌⊎◌, inl, inr}
use mathlib.Core.Bool.{true, false}
use mathlib.Core.List.Memᴰ
use mathlib.Core.List.{List, ◌∷◌, ◌++◌, map}
use Prim.Native.Nat.{ℕ, suc, ◌+◌, ◌*◌, ◌≤◌, ◌<◌}
use native.Mathlib.Omega.{arith}
use native.Mathlib.Decide.{ℕ_discrete, dec_lt}
use lib.Dec.{ltb}
use lib.ListN.{length, length-append, length-map}
use borrow.Author.Tests.{ltb-true, ltb-false}
use Rattle.rules.specs.Numbers.{max_nodes, max_weight, no_weight}
use Rattle.rules.specs.Lists.{In, update}
use Rattle.rules.specs.Heap.{Item}
use Rattle.rules.specs.Columns.{Hierarchy, Side, opposite, table, entry, rank, begin, places, entries}
use Rattle.rules.specs.TableRules.{used, TableRules}
use Rattle.rules.specs.Query.{End, Label, Half, with_heap, stalls, relax, mark_settled, settle}
use Rattle.rules.proofs.Cases.{on_test, not_both}
use Rattle.rules.proofs.Members.{in_any, any_in}
use Rattle.rules.proofs.Heaps.{update_same, update_other, sorted_first, sorted_rest}
use Rattle.walks.proofs.Places.{place_entry, place_base, places_within, places_length, in_places}
use Rattle.query_laws.specs.Sound.{weight_at, unsettled, load, Origin, unlabelled, listed, came, Stalled, Standing, waiting, done, stalled, heavy, ItemRules, LabelRules, SettledRules, Sound}
use Rattle.query_laws.proofs.Offers.{Offer, After, falls, lowered_weight, lowered_waits, entry_offer, after_relax}
use Rattle.query_laws.proofs.State.{unsettled_less}

-- The stall test, read.
module _ (h : Hierarchy) (s : Side) (x : Half) (i : Item) where
  -- no entry of the other table gives the item's node less than the item weighs
  abbrev pub Clear : Type 0
  Clear =
      (e : ℕ) → In e (places (table h (opposite s)) (rank h i.node)) →
      i.weight ≤ weight_at x (entry (table h (opposite s)) e).neighbour + (entry (table h (opposite s)) e).weight

  pub stall_found : stalls (entries h (opposite s) i.node) x i ≡ true → Stalled h s x i.node i.weight
  unfolding stalls entries
  stall_found t =
      let w = any_in _ _ t in
      let e = Memᴰ.of_map (entry (table h (opposite s))) (places (table h (opposite s)) (rank h i.node)) w.1 in
      record { via = e.0; place = e.1; less = ltb-true _ _ (rw e.2 w.2) }

  pub stall_none : stalls (entries h (opposite s) i.node) x i ≡ false → Clear
  unfolding stalls entries
  stall_none f e m =
      on_test (ltb (weight_at x (entry (table h (opposite s)) e).neighbour + (entry (table h (opposite s)) e).weight) i.weight)
      (λ t. absurd (not_both _ (in_any _ _ (entry (table h (opposite s)) e) (Memᴰ.map (entry (table h (opposite s))) m) t) f))
      (λ t. ltb-false _ _ t)

module _ (n : ℕ) (h : Hierarchy) (rules : TableRules n h) (s : Side) (es : List End) (floor b : ℕ) (x : Half) (i : Item) (q : List Item)
    (k : Sound n h s es floor b (with_heap (i ∷ q) x)) where
  pub taken_item : ItemRules n h floor x i
  unfolding with_heap
  taken_item =
      let r = k.items i (Memᴰ.head refl) in
      record { node_below = r.node_below; above = r.above; label_below = r.label_below; bounded = r.bounded }

  -- no item is near the mark
  pub item_at_most : i.weight ≤ max_weight * max_nodes
  item_at_most = omega (arith, taken_item.bounded, rules.ranks_below i.node taken_item.node_below, rules.nodes)

  -- nothing below what was last taken out ever leaves
  pub pops_never_fall : floor ≤ i.weight
  pops_never_fall = taken_item.above

  -- The item is lost. What has to be said is where its node now stands, if it stood by the item.
  pub passed : (weight_at x i.node ≡ i.weight → Standing h s b (with_heap q x) i.node) → Sound n h s es i.weight b (with_heap q x)
  unfolding with_heap
  passed stands =
      record {
        sorted = sorted_rest i q k.sorted;
        items = λ j m.
            let r = k.items j (Memᴰ.tail m) in
            record {
              node_below = r.node_below;
              above = sorted_first i q k.sorted j m;
              label_below = r.label_below;
              bounded = r.bounded;
            };
        at_most = k.at_most;
        labels = λ v lab. let r = k.labels v lab in record { node_below = r.node_below; bounded = r.bounded };
        origins = λ v. same_origin v (k.origins v);
        standing = λ v lab. still v (k.standing v lab);
        settled = λ v t.
            let r = k.settled v t in
            record {
              node_below = r.node_below;
              low = omega (arith, r.low, pops_never_fall);
              labelled = r.labelled;
              offered = r.offered;
            };
        covers = k.covers;
        room = omega (arith, k.room);
      }
    where
      same_origin : (v : ℕ) → Origin h s es (with_heap (i ∷ q) x) v (x.label v) → Origin h s es (with_heap q x) v (x.label v)
      same_origin v (unlabelled e) = unlabelled e
      same_origin v (listed m e less) = listed m e less
      same_origin v (came a) =
          came (record { parent_settled = a.parent_settled; place = a.place; leads_to = a.leads_to; adds_up = a.adds_up })

      still : (v : ℕ) → Standing h s b (with_heap (i ∷ q) x) v → Standing h s b (with_heap q x) v
      still v (waiting m) =
          elim (Memᴰ.cases_cons m) [
            | inl here ↦
                let at : v ≡ i.node = ap (λ (j : Item). j.node) here in
                rw at (stands (rw at at (ap (λ (j : Item). j.weight) here)))
            | inr later ↦ waiting later
          ]
      still v (done d) = done d
      still v (stalled e) = stalled (record { via = e.via; place = e.place; less = e.less })
      still v (heavy more) = heavy more

  -- the three ways to pass an item over, by the tests of a turn
  pub pass_settled : x.settled i.node ≡ true → Sound n h s es i.weight b (with_heap q x)
  unfolding with_heap
  pass_settled t = passed (λ at. done t)

  pub pass_heavy : ltb b i.weight ≡ true → Sound n h s es i.weight b (with_heap q x)
  unfolding with_heap
  pass_heavy t = passed (λ at. heavy (omega (arith, ltb-true b i.weight t)))

  pub pass_stalled : stalls (entries h (opposite s) i.node) x i ≡ true → Sound n h s es i.weight b (with_heap q x)
  unfolding with_heap
  pass_stalled t =
      let r = stall_found h s x i t in
      passed (λ at. stalled (record { via = r.via; place = r.place; less = omega (arith, r.less) }))

  -- what an offer along an entry of the node keeps to
  record Fair (o : Offer) : Type 0 where
    node_below : o.node < n
    above : i.weight < o.label.weight
    bounded : o.label.weight ≤ max_weight * suc (rank h o.node)
    parent : o.label.parent ≡ i.node
    place : In o.label.via (places (table h s) (rank h i.node))
    leads_to : (entry (table h s) o.label.via).neighbour ≡ o.node
    adds_up : o.label.weight ≡ i.weight + (entry (table h s) o.label.via).weight

  fair_entry : (e : ℕ) → In e (places (table h s) (rank h i.node)) → Fair (entry_offer (table h s) i e)
  fair_entry e m =
      let r = place_entry n h rules s i.node taken_item.node_below e m in
      record {
        node_below = r.neighbour_below;
        above = omega (arith, r.weight_low);
        bounded = omega (arith, r.weight_high, r.neighbour_higher, taken_item.bounded);
        parent = refl;
        place = m;
        leads_to = refl;
        adds_up = refl;
      }

  -- no sum that is offered is near the mark
  pub offer_at_most : (e : ℕ) → In e (places (table h s) (rank h i.node)) → i.weight + (entry (table h s) e).weight ≤ max_weight * max_nodes
  offer_at_most e m =
      let f = fair_entry e m in
      omega (arith, f.bounded, rules.ranks_below (entry (table h s) e).neighbour f.node_below, rules.nodes)

  -- After offers along entries ps of the node, all of them or some.
  module _ (ps : List ℕ) (ours : (e : ℕ) → In e ps → In e (places (table h s) (rank h i.node))) (y : Half)
      (a : After (map (entry_offer (table h s) i) ps) (with_heap q x) y) where
    fair : (o : Offer) → In o (map (entry_offer (table h s) i) ps) → Fair o
    fair o m =
        let e = Memᴰ.of_map (entry_offer (table h s) i) ps m in
        subst Fair e.2 (fair_entry e.0 (ours e.0 e.1))

    -- labels as low as the item's weight stay
    stays : (v : ℕ) → weight_at x v ≤ i.weight → y.label v ≡ x.label v
    unfolding with_heap
    stays v low =
        elim (a.labels v) [
          | inl same ↦ same
          | inr new ↦ absurd (omega (arith, new.less, (fair new.by new.one_of).above))
        ]

    stays_weight : (v : ℕ) → weight_at x v ≤ i.weight → weight_at y v ≡ weight_at x v
    stays_weight v low = ap (λ (l : Label). l.weight) (stays v low)

    offered_items : (j : Item) → In j y.heap → ItemRules n h i.weight y j
    unfolding with_heap
    offered_items j m =
        elim (a.pushed j m) [
          | inl old ↦
              let r = k.items j (Memᴰ.tail old) in
              record {
                node_below = r.node_below;
                above = sorted_first i q k.sorted j old;
                label_below = omega (arith, r.label_below, falls a j.node);
                bounded = r.bounded;
              }
          | inr new ↦
              let f = fair new.by new.one_of in
              rw new.item
              (record {
                node_below = f.node_below;
                above = omega (arith, f.above);
                label_below = a.taken new.by new.one_of;
                bounded = f.bounded;
              })
        ]

    offered_labels : (v : ℕ) → weight_at y v < no_weight → LabelRules n h y v
    unfolding with_heap
    offered_labels v lab =
        elim (a.labels v) [
          | inl same ↦
              let e = ap (λ (l : Label). l.weight) same in
              let r = k.labels v (omega (arith, e)) in
              record { node_below = r.node_below; bounded = omega (arith, e, r.bounded) }
          | inr new ↦
              let f = fair new.by new.one_of in
              record {
                node_below = rw new.at at f.node_below;
                bounded = rw (lowered_weight new) (rw new.at at f.bounded);
              }
        ]

  -- In the midst of relaxing, after the entries ps, with `rest` to come: labels and items keep their bounds (a).
  module _ (ps rest : List ℕ) (all : ps ++ rest ≡ places (table h s) (rank h i.node)) where
    front_ours : (e : ℕ) → In e ps → In e (places (table h s) (rank h i.node))
    front_ours e m = rw all at (Memᴰ.append_left rest m)

    pub relaxing_items : (j : Item) → In j (relax (table h s) i ps (with_heap q x)).heap →
        ItemRules n h i.weight (relax (table h s) i ps (with_heap q x)) j
    relaxing_items = offered_items ps front_ours _ (after_relax (table h s) i ps (with_heap q x))

    pub relaxing_labels : (v : ℕ) → weight_at (relax (table h s) i ps (with_heap q x)) v < no_weight →
        LabelRules n h (relax (table h s) i ps (with_heap q x)) v
    relaxing_labels = offered_labels ps front_ours _ (after_relax (table h s) i ps (with_heap q x))

  -- The node is settled.
  module _ (yet : x.settled i.node ≡ false) where
    -- settling takes the node's entries off those that may still be offered along
    pub fewer_unsettled : unsettled (table h s) (update i.node true x.settled) (used n (table h s)) + length (places (table h s) (rank h i.node)) ≤ unsettled (table h s) x.settled (used n (table h s))
    fewer_unsettled =
        let w = places_within n h rules s i.node taken_item.node_below in
        omega (
          arith,
          w.0,
          w.1,
          places_length (table h s) (rank h i.node),
          unsettled_less (table h s) x.settled i.node (begin (table h s) (rank h i.node))
              (begin (table h s) (suc (rank h i.node))) yet w.0
              (λ e low high. place_base n h rules s i.node taken_item.node_below e (in_places (table h s) (rank h i.node) e low high))
              (used n (table h s)),
        )

    -- in the midst of relaxing there is room for one item more
    pub relaxing_room : (ps rest : List ℕ) → ps ++ rest ≡ places (table h s) (rank h i.node) →
        length (relax (table h s) i ps (with_heap q x)).heap < length es + used n (table h s)
    unfolding with_heap
    relaxing_room ps rest all =
        omega (
          arith,
          (after_relax (table h s) i ps (with_heap q x)).room,
          length-map ps (entry_offer (table h s) i),
          length-append ps rest,
          ap length all,
          fewer_unsettled,
          k.room,
        )

    module _ (light : i.weight ≤ b) (clear : Clear h s x i) where
      -- The item stands at its node's label, since every label is somewhere.
      pub settles_at_label : weight_at x i.node ≡ i.weight
      unfolding with_heap
      settles_at_label =
          elim (dec_lt (weight_at x i.node) i.weight) [
            | yes less ↦ absurd (impossible less (k.standing i.node (omega (arith, item_at_most))))
            | no more ↦ omega (arith, taken_item.label_below)
          ]
        where
          impossible : weight_at x i.node < i.weight → Standing h s b (with_heap (i ∷ q) x) i.node → ⊥
          impossible less (waiting m) =
              elim (Memᴰ.cases_cons m) [
                | inl here ↦ omega (arith, ap (λ (j : Item). j.weight) here)
                | inr later ↦ omega (arith, sorted_first i q k.sorted _ later)
              ]
          impossible less (done d) = not_both (x.settled i.node) d yet
          impossible less (stalled e) = omega (arith, clear e.via e.place, e.less)
          impossible less (heavy more) = omega arith

      module _ (y : Half) (a : After (map (entry_offer (table h s) i) (places (table h s) (rank h i.node))) (with_heap q x) y) where
        every : (e : ℕ) → In e (places (table h s) (rank h i.node)) → In e (places (table h s) (rank h i.node))
        every e m = m

        old_weight : (v : ℕ) → weight_at x v ≤ i.weight → weight_at y v ≡ weight_at x v
        old_weight = stays_weight (places (table h s) (rank h i.node)) every y a

        own_weight : weight_at y i.node ≡ i.weight
        own_weight = old_weight i.node (omega (arith, settles_at_label)) ∙ settles_at_label

        now_settled : (v : ℕ) → ((mark_settled i.node y).settled v ≡ true) ↔ ((v ≡ i.node) ⊎ (x.settled v ≡ true))
        unfolding mark_settled with_heap
        now_settled v = (
          λ t.
              elim (ℕ_discrete v i.node) [
                | yes here ↦ inl here
                | no other ↦
                    inr (sym (ap (λ f. f v) a.settled) ∙ (sym (update_other i.node true y.settled v other) ∙ t))
              ],
          λ t.
              elim (ℕ_discrete v i.node) [
                | yes here ↦ update_same i.node true y.settled v here
                | no other ↦
                    elim t [
                      | inl here ↦ absurd (other here)
                      | inr before ↦ update_other i.node true y.settled v other ∙ (ap (λ f. f v) a.settled ∙ before)
                    ]
              ],
        )

        settled_origin : (v : ℕ) → Origin h s es (mark_settled i.node y) v (y.label v)
        unfolding mark_settled with_heap
        settled_origin v =
            elim (a.labels v) [
              | inl same ↦ rw same (old (k.origins v))
              | inr new ↦
                  let f = fair (places (table h s) (rank h i.node)) every y a new.by new.one_of in
                  rw new.label
                  (came
                  (record {
                    parent_settled = (now_settled new.by.label.parent).1 (inl f.parent);
                    place = rw f.parent f.place;
                    leads_to = f.leads_to ∙ new.at;
                    adds_up = rw (f.parent, own_weight) f.adds_up;
                  }))
            ]
          where
            old : Origin h s es (with_heap (i ∷ q) x) v (x.label v) → Origin h s es (mark_settled i.node y) v (x.label v)
            old (unlabelled e) = unlabelled e
            old (listed m e less) = listed m e less
            old (came c) =
                let r = k.settled (x.label v).parent c.parent_settled in
                came
                (record {
                  parent_settled = (now_settled (x.label v).parent).1 (inr c.parent_settled);
                  place = c.place;
                  leads_to = c.leads_to;
                  adds_up = rw (old_weight (x.label v).parent (omega (arith, r.low, pops_never_fall))) c.adds_up;
                })

        settled_standing : (v : ℕ) → weight_at y v < no_weight → Standing h s b (mark_settled i.node y) v
        unfolding mark_settled with_heap
        settled_standing v lab =
            elim (ℕ_discrete v i.node) [
              | yes here ↦ done ((now_settled v).1 (inl here))
              | no other ↦
                  elim (a.labels v) [
                    | inl same ↦
                        let e = ap (λ (l : Label). l.weight) same in
                        old other e (k.standing v (omega (arith, e)))
                    | inr new ↦ waiting (lowered_waits new)
                  ]
            ]
          where
            old : (v ≡ i.node → ⊥) → weight_at y v ≡ weight_at x v → Standing h s b (with_heap (i ∷ q) x) v →
                Standing h s b (mark_settled i.node y) v
            old other e (waiting m) =
                elim (Memᴰ.cases_cons m) [
                  | inl here ↦ absurd (other (ap (λ (j : Item). j.node) here))
                  | inr later ↦ waiting (subst (λ w. In (record { weight = w; node = v }) y.heap) (sym e) (a.kept _ later))
                ]
            old other e (done d) = done ((now_settled v).1 (inr d))
            old other e (stalled r) =
                stalled
                (record {
                  via = r.via;
                  place = r.place;
                  less = omega (arith, e, r.less, falls a (entry (table h (opposite s)) r.via).neighbour);
                })
            old other e (heavy more) = heavy (omega arith)

        settled_settled : (v : ℕ) → (mark_settled i.node y).settled v ≡ true → SettledRules n h s i.weight (mark_settled i.node y) v
        unfolding mark_settled with_heap
        settled_settled v t =
            elim ((now_settled v).0 t) [
              | inl here ↦
                  rw here
                  (record {
                    node_below = taken_item.node_below;
                    low = omega (arith, own_weight);
                    labelled = omega (arith, own_weight, item_at_most);
                    offered = λ c m.
                        omega (arith, own_weight, a.taken (entry_offer (table h s) i c) (Memᴰ.map (entry_offer (table h s) i) m));
                  })
              | inr before ↦
                  let r = k.settled v before in
                  let e = old_weight v (omega (arith, r.low, pops_never_fall)) in
                  record {
                    node_below = r.node_below;
                    low = omega (arith, e, r.low, pops_never_fall);
                    labelled = omega (arith, e, r.labelled);
                    offered = λ c m. omega (arith, e, r.offered c m, falls a (entry (table h s) c).neighbour);
                  }
            ]

        settled_load : load n h s (mark_settled i.node y) ≤ load n h s (with_heap q x)
        unfolding mark_settled with_heap
        settled_load =
            rw a.settled
            (omega (
              arith,
              a.room,
              length-map (places (table h s) (rank h i.node)) (entry_offer (table h s) i),
              fewer_unsettled,
            ))

        settled_sound : Sound n h s es i.weight b (mark_settled i.node y)
        unfolding mark_settled with_heap
        settled_sound =
            record {
              sorted = a.sorted (sorted_rest i q k.sorted);
              items = λ j m.
                  let r = offered_items (places (table h s) (rank h i.node)) every y a j m in
                  record { node_below = r.node_below; above = r.above; label_below = r.label_below; bounded = r.bounded };
              at_most = λ v. omega (arith, falls a v, k.at_most v);
              labels = λ v lab.
                  let r = offered_labels (places (table h s) (rank h i.node)) every y a v lab in
                  record { node_below = r.node_below; bounded = r.bounded };
              origins = settled_origin;
              standing = settled_standing;
              settled = settled_settled;
              covers = λ e m. omega (arith, falls a e.node, k.covers e m);
              room = omega (arith, settled_load, k.room);
            }

      after_settle : After (map (entry_offer (table h s) i) (places (table h s) (rank h i.node))) (with_heap q x) (relax (table h s) i (places (table h s) (rank h i.node)) (with_heap q x))
      after_settle = after_relax (table h s) i (places (table h s) (rank h i.node)) (with_heap q x)

      pub settle_sound : Sound n h s es i.weight b (settle h s i (with_heap q x))
      unfolding settle
      settle_sound = settled_sound _ after_settle

      pub settle_load : load n h s (settle h s i (with_heap q x)) ≤ load n h s (with_heap q x)
      unfolding settle
      settle_load = settled_load _ after_settle

      pub settle_settled : (v : ℕ) → ((settle h s i (with_heap q x)).settled v ≡ true) ↔ ((v ≡ i.node) ⊎ (x.settled v ≡ true))
      unfolding settle
      settle_settled v = now_settled _ after_settle v

      pub settle_falls : (v : ℕ) → weight_at (settle h s i (with_heap q x)) v ≤ weight_at x v
      unfolding settle mark_settled with_heap
      settle_falls v = falls after_settle v

      -- once settled, a node keeps its label
      pub settle_stays : (v : ℕ) → x.settled v ≡ true → (settle h s i (with_heap q x)).label v ≡ x.label v
      unfolding settle mark_settled with_heap
      settle_stays v t =
          stays (places (table h s) (rank h i.node)) (every _ after_settle) _ after_settle v
          (omega (arith, (k.settled v t).low, pops_never_fall))

      pub settle_own : weight_at (settle h s i (with_heap q x)) i.node ≡ i.weight
      unfolding settle mark_settled
      settle_own = own_weight _ after_settle
