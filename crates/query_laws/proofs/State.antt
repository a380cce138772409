-- A search starts sound, and every way to take an item out keeps it so: steps 7 to 9 of
-- the paper proof.
use mathlib.Core.Path.{◌≡◌, refl, sym, ◌∙◌, ap, subst}
use mathlib.Core.Logic.{inl, inr}
use mathlib.Core.Bool.{Bool, true, false, false≢true}
use mathlib.Core.List.Memᴰ
use mathlib.Core.List.{List, map}
use Prim.Native.Nat.{ℕ, zero, suc, ◌+◌, ◌-◌, ◌≤◌, ◌<◌, min}
use native.Mathlib.Omega.{arith}
use native.Mathlib.Decide.{dec_lt, ℕ_discrete}
use lib.ListN.{length-map}
use Rattle.rules.specs.Numbers.{max_weight, no_weight, invalid}
use Rattle.rules.specs.Lists.{In, update}
use Rattle.rules.specs.Heap.{Item}
use Rattle.rules.specs.Columns.{Table, Hierarchy, Side, table, entry}
use Rattle.rules.specs.TableRules.{used, TableRules}
use Rattle.rules.specs.Query.{End, Label, no_label, Half, untouched, enter}
use Rattle.rules.proofs.Heaps.{update_same, update_other, sorted_none}
use Rattle.query_laws.specs.Accepted.{EndRules}
use Rattle.query_laws.specs.Sound.{weight_at, one_unless, unsettled, Origin, unlabelled, listed, Standing, waiting, done, stalled, heavy, ItemRules, Sound}
use Rattle.query_laws.proofs.Offers.{Offer, Lowered, After, falls, lowered_weight, lowered_waits, end_offer, after_enter}

unsettled_first : (t : Table) (k : ℕ) → unsettled t (λ _. false) k ≡ k
unfolding unsettled one_unless
unsettled_first t zero = refl
unsettled_first t (suc k) = omega (arith, unsettled_first t k)

-- settling a node takes its entries off
pub unsettled_less : (t : Table) (settled : ℕ → Bool) (v a c : ℕ) → settled v ≡ false → a ≤ c →
    ((e : ℕ) → a ≤ e → e < c → (entry t e).base ≡ v) → (k : ℕ) →
    unsettled t (update v true settled) k + (min k c - min k a) ≤ unsettled t settled k
unfolding unsettled one_unless
unsettled_less t settled v a c yet rise bases zero = omega arith
unsettled_less t settled v a c yet rise bases (suc k) =
    elim (ℕ_discrete (entry t k).base v) [
      | yes here ↦
          rw (update_same v true settled (entry t k).base here, ap settled here ∙ yet)
          (omega (arith, unsettled_less t settled v a c yet rise bases k))
      | no other ↦
          rw (update_other v true settled (entry t k).base other)
          (elim (dec_lt k a) [
            | yes early ↦ omega (arith, unsettled_less t settled v a c yet rise bases k)
            | no late ↦
                elim (dec_lt k c) [
                  | yes within ↦ absurd (other (bases k (omega arith) within))
                  | no past ↦ omega (arith, unsettled_less t settled v a c yet rise bases k)
                ]
          ])
    ]

-- a lower best sum makes more nodes heavy, and nothing else
pub better : {n : ℕ} {h : Hierarchy} {s : Side} {es : List End} {floor b c : ℕ} {x : Half} → c ≤ b → Sound n h s es floor b x →
    Sound n h s es floor c x
better {n} {h} {s} {es} {floor} {b} {c} {x} le k =
    record {
      sorted = k.sorted;
      items = k.items;
      at_most = k.at_most;
      labels = k.labels;
      origins = k.origins;
      standing = λ v lab. again v (k.standing v lab);
      settled = k.settled;
      covers = k.covers;
      room = k.room;
    }
  where
    again : (v : ℕ) → Standing h s b x v → Standing h s c x v
    again v (waiting m) = waiting m
    again v (done d) = done d
    again v (stalled e) = stalled e
    again v (heavy more) = heavy (omega arith)

-- an offset that counts is at most 2^40
pub counting_fits : {n : ℕ} {e : End} → EndRules n e → e.offset < no_weight → e.offset ≤ max_weight
counting_fits r less = elim r.fits [ inl low ↦ low | inr mark ↦ absurd (omega arith) ]

pub enter_unsettled : (es : List End) (v : ℕ) → (enter es untouched).settled v ≡ false
unfolding untouched
enter_unsettled es v = ap (λ f. f v) (after_enter es untouched).settled

module _ (n : ℕ) (h : Hierarchy) (rules : TableRules n h) (s : Side) (es : List End) where
  -- The search that the ends have entered.
  module _ (ends : (e : End) → In e es → EndRules n e) where
    abbrev FirstOffer : Offer → Type 0
    FirstOffer o =
        o.label.weight < no_weight →
        (o.node < n) × (o.label.weight ≤ max_weight) × In (record { node = o.node; offset = o.label.weight }) es × (o.label.via ≡ invalid)

    first_offer : (o : Offer) → In o (map end_offer es) → FirstOffer o
    first_offer o m =
        let e = Memᴰ.of_map end_offer es m in
        let r = ends e.0 e.1 in
        subst FirstOffer e.2 (λ less. (r.node_below, counting_fits r less, e.1, refl))

    module _ (b : ℕ) (y : Half) (a : After (map end_offer es) untouched y) where
      first_item : (j : Item) → In j y.heap → ItemRules n h 0 y j
      unfolding untouched no_label
      first_item j m =
          elim (a.pushed j m) [
            | inl old ↦ absurd (Memᴰ.not-nil old)
            | inr new ↦
                let f = first_offer new.by new.one_of new.less in
                rw new.item
                (record {
                  node_below = f.0;
                  above = omega arith;
                  label_below = a.taken new.by new.one_of;
                  bounded = omega (arith, f.1);
                })
          ]

      first_labelled : (v : ℕ) → weight_at y v < no_weight → Lowered (map end_offer es) untouched y v
      unfolding untouched no_label
      first_labelled v lab =
          elim (a.labels v) [ inl same ↦ absurd (omega (arith, ap (λ (l : Label). l.weight) same)) | inr new ↦ new ]

      first_origin : (v : ℕ) → Origin h s es y v (y.label v)
      unfolding untouched no_label
      first_origin v =
          elim (a.labels v) [
            | inl same ↦ unlabelled same
            | inr new ↦
                let f = first_offer new.by new.one_of new.less in
                rw new.label (listed (rw new.at at f.2) f.3 new.less)
          ]

      first_search : Sound n h s es 0 b y
      unfolding untouched no_label
      first_search =
          record {
            sorted = a.sorted sorted_none;
            items = first_item;
            at_most = λ v. falls a v;
            labels = λ v lab.
                let new = first_labelled v lab in
                let f = first_offer new.by new.one_of new.less in
                record {
                  node_below = rw new.at at f.0;
                  bounded = omega (arith, f.1, lowered_weight new);
                };
            origins = first_origin;
            standing = λ v lab. let new = first_labelled v lab in waiting (lowered_waits new);
            settled = λ v t. absurd (false≢true (sym (ap (λ f. f v) a.settled) ∙ t));
            covers = λ e m. a.taken (end_offer e) (Memᴰ.map end_offer m);
            room = rw a.settled (omega (arith, a.room, length-map es end_offer, unsettled_first (table h s) (used n (table h s))));
          }

    pub first_sound : (b : ℕ) → Sound n h s es 0 b (enter es untouched)
    first_sound b = first_search b (enter es untouched) (after_enter es untouched)
