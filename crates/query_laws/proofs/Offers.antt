-- What a run of offers does to a search: which labels are new, which items. `enter` and `relax` are such runs.
use mathlib.Core.Path.{◌≡◌, refl, sym, ◌∙◌, ap, subst}
use mathlib.Core.Logic.{◌⊎◌, inl, inr}
use mathlib.Core.Bool.{true, false}
use mathlib.Core.List.Memᴰ
use mathlib.Core.List.{List, [], ◌∷◌, ◌++◌, map}
use Prim.Native.Nat.{ℕ, ◌+◌, ◌≤◌, ◌<◌}
use native.Mathlib.Omega.{arith}
use native.Mathlib.Decide.{ℕ_discrete}
use lib.Dec.{ltb}
use lib.ListN.{length, length-append}
use borrow.Author.Tests.{ltb-true, ltb-false}
use Rattle.rules.specs.Numbers.{invalid}
use Rattle.rules.specs.Lists.{In, update}
use Rattle.rules.specs.Heap.{Item, push, Sorted}
use Rattle.rules.specs.Columns.{Table, entry}
use Rattle.rules.specs.Query.{End, Label, lower, Half, offer, enter, relax}
use Rattle.rules.proofs.Cases.{on_test}
use Rattle.rules.proofs.Heaps.{update_same, update_other, push_has, push_keeps, push_in, push_length, push_sorted}
use Rattle.query_laws.specs.Sound.{weight_at}

-- A node and the label that it is offered.
pub record Offer : Type 0 where
  pub node : ℕ
  pub label : Label

abbrev pub item_of : Offer → Item
item_of o = record { weight = o.label.weight; node = o.node }

unfoldable pub offers : List Offer → Half → Half
offers [] x = x
offers (o ∷ os) x = offers os (offer o.node o.label x)

-- y is x after the offers os
pub record Lowered (os : List Offer) (x y : Half) (v : ℕ) : Type 0 where
  pub by : Offer
  pub one_of : In by os
  pub at : by.node ≡ v
  pub label : y.label v ≡ by.label
  pub less : by.label.weight < weight_at x v
  pub waits : In (record { weight = by.label.weight; node = v }) y.heap

pub record Pushed (os : List Offer) (x : Half) (j : Item) : Type 0 where
  pub by : Offer
  pub one_of : In by os
  pub item : j ≡ item_of by
  pub less : by.label.weight < weight_at x by.node

pub record After (os : List Offer) (x y : Half) : Type 0 where
  pub settled : y.settled ≡ x.settled
  pub labels : (v : ℕ) → (y.label v ≡ x.label v) ⊎ Lowered os x y v
  pub taken : (o : Offer) → In o os → weight_at y o.node ≤ o.label.weight
  pub kept : (j : Item) → In j x.heap → In j y.heap
  pub pushed : (j : Item) → In j y.heap → In j x.heap ⊎ Pushed os x j
  pub sorted : Sorted x.heap → Sorted y.heap
  pub room : length y.heap ≤ length x.heap + length os

label_weight : {a b : Label} → a ≡ b → a.weight ≡ b.weight
label_weight e = ap (λ (l : Label). l.weight) e

pub lowered_weight : {os : List Offer} {x y : Half} {v : ℕ} (l : Lowered os x y v) → weight_at y v ≡ l.by.label.weight
lowered_weight l = label_weight l.label

pub lowered_waits : {os : List Offer} {x y : Half} {v : ℕ} → Lowered os x y v → In (record { weight = weight_at y v; node = v }) y.heap
lowered_waits {y = y} {v = v} l = subst (λ w. In (record { weight = w; node = v }) y.heap) (sym (lowered_weight l)) l.waits

pub falls : {os : List Offer} {x y : Half} → After os x y → (v : ℕ) → weight_at y v ≤ weight_at x v
falls a v = elim (a.labels v) [ inl same ↦ omega (arith, label_weight same) | inr new ↦ omega (arith, label_weight new.label, new.less) ]

after_none : (x : Half) → After [] x x
after_none x =
    record {
      settled = refl;
      labels = λ v. inl refl;
      taken = λ o m. absurd (Memᴰ.not-nil m);
      kept = λ j m. m;
      pushed = λ j m. inl m;
      sorted = λ s. s;
      room = omega arith;
    }

-- the two outcomes of an offer, written out
abbrev offer_taken : ℕ → Label → Half → Half
offer_taken v l x =
    record { label = update v l x.label; settled = x.settled; heap = push (record { weight = l.weight; node = v }) x.heap }

abbrev offer_left : ℕ → Half → Half
offer_left v x = record { label = update v (x.label v) x.label; settled = x.settled; heap = x.heap }

offer_lowers : (v : ℕ) (l : Label) (x : Half) → ltb l.weight (weight_at x v) ≡ true → offer v l x ≡ offer_taken v l x
unfolding offer lower
offer_lowers v l x e = rw (e, offer, lower)

offer_leaves : (v : ℕ) (l : Label) (x : Half) → ltb l.weight (weight_at x v) ≡ false → offer v l x ≡ offer_left v x
unfolding offer lower
offer_leaves v l x e = rw (e, offer, lower)

after_taken : (o : Offer) (x : Half) → o.label.weight < weight_at x o.node → After (o ∷ []) x (offer_taken o.node o.label x)
after_taken o x less =
    record {
      settled = refl;
      labels = λ v.
          elim (ℕ_discrete v o.node) [
            | yes here ↦
                inr
                (record {
                  by = o;
                  one_of = Memᴰ.head refl;
                  at = sym here;
                  label = update_same o.node o.label x.label v here;
                  less = rw here less;
                  waits = rw here (push_has (item_of o) x.heap);
                })
            | no other ↦ inl (update_other o.node o.label x.label v other)
          ];
      taken = λ p m.
          let same = Memᴰ.eq_of_singleton m in
          rw same (omega (arith, label_weight (update_same o.node o.label x.label o.node refl)));
      kept = λ j m. push_keeps (item_of o) x.heap j m;
      pushed = λ j m.
          elim (push_in (item_of o) x.heap j m) [
            | inl new ↦ inr (record { by = o; one_of = Memᴰ.head refl; item = new; less = less })
            | inr old ↦ inl old
          ];
      sorted = push_sorted (item_of o) x.heap;
      room = omega (arith, push_length (item_of o) x.heap);
    }

after_left : (o : Offer) (x : Half) → weight_at x o.node ≤ o.label.weight → After (o ∷ []) x (offer_left o.node x)
after_left o x more =
    record {
      settled = refl;
      labels = λ v.
          elim (ℕ_discrete v o.node) [
            | yes here ↦ inl (update_same o.node (x.label o.node) x.label v here ∙ ap x.label (sym here))
            | no other ↦ inl (update_other o.node (x.label o.node) x.label v other)
          ];
      taken = λ p m.
          let same = Memᴰ.eq_of_singleton m in
          rw same (omega (arith, label_weight (update_same o.node (x.label o.node) x.label o.node refl)));
      kept = λ j m. m;
      pushed = λ j m. inl m;
      sorted = λ s. s;
      room = omega arith;
    }

after_one : (o : Offer) (x : Half) → After (o ∷ []) x (offer o.node o.label x)
after_one o x =
    on_test (ltb o.label.weight (weight_at x o.node))
    (λ less. rw (offer_lowers o.node o.label x less) (after_taken o x (ltb-true _ _ less)))
    (λ more. rw (offer_leaves o.node o.label x more) (after_left o x (ltb-false _ _ more)))

after_both : (os ps : List Offer) (x y z : Half) → After os x y → After ps y z → After (os ++ ps) x z
after_both os ps x y z a b =
    record {
      settled = b.settled ∙ a.settled;
      labels = λ v.
          elim (b.labels v) [
            | inl same ↦
                elim (a.labels v) [
                  | inl before ↦ inl (same ∙ before)
                  | inr new ↦
                      inr
                      (record {
                        by = new.by;
                        one_of = Memᴰ.append_left ps new.one_of;
                        at = new.at;
                        label = same ∙ new.label;
                        less = new.less;
                        waits = b.kept _ new.waits;
                      })
                ]
            | inr new ↦
                inr
                (record {
                  by = new.by;
                  one_of = Memᴰ.append_right os new.one_of;
                  at = new.at;
                  label = new.label;
                  less = omega (arith, new.less, falls a v);
                  waits = new.waits;
                })
          ];
      taken = λ o m.
          elim (Memᴰ.append_cases os m) [
            | inl early ↦ omega (arith, a.taken o early, falls b o.node)
            | inr late ↦ b.taken o late
          ];
      kept = λ j m. b.kept j (a.kept j m);
      pushed = λ j m.
          elim (b.pushed j m) [
            | inl old ↦
                elim (a.pushed j old) [
                  | inl older ↦ inl older
                  | inr new ↦
                      inr (record { by = new.by; one_of = Memᴰ.append_left ps new.one_of; item = new.item; less = new.less })
                ]
            | inr new ↦
                inr
                (record {
                  by = new.by;
                  one_of = Memᴰ.append_right os new.one_of;
                  item = new.item;
                  less = omega (arith, new.less, falls a new.by.node);
                })
          ];
      sorted = λ s. b.sorted (a.sorted s);
      room = omega (arith, a.room, b.room, length-append os ps);
    }

pub after_offers : (os : List Offer) (x : Half) → After os x (offers os x)
unfolding offers
after_offers [] x = after_none x
after_offers (o ∷ os) x = after_both (o ∷ []) os x (offer o.node o.label x) (offers os (offer o.node o.label x)) (after_one o x) (after_offers os (offer o.node o.label x))

-- Entering and relaxing are runs of offers.
abbrev pub end_offer : End → Offer
end_offer e = record { node = e.node; label = record { weight = e.offset; parent = e.node; via = invalid } }

abbrev pub entry_offer : Table → Item → ℕ → Offer
entry_offer t i e =
    record { node = (entry t e).neighbour; label = record { weight = i.weight + (entry t e).weight; parent = i.node; via = e } }

pub enter_offers : (es : List End) (x : Half) → enter es x ≡ offers (map end_offer es) x
unfolding enter offers
enter_offers [] x = refl
enter_offers (e ∷ es) x = enter_offers es (offer e.node (end_offer e).label x)

pub relax_offers : (t : Table) (i : Item) (es : List ℕ) (x : Half) → relax t i es x ≡ offers (map (entry_offer t i) es) x
unfolding relax offers
relax_offers t i [] x = refl
relax_offers t i (e ∷ es) x = relax_offers t i es (offer (entry t e).neighbour (entry_offer t i e).label x)

pub after_enter : (es : List End) (x : Half) → After (map end_offer es) x (enter es x)
after_enter es x = rw enter_offers (after_offers (map end_offer es) x)

pub after_relax : (t : Table) (i : Item) (es : List ℕ) (x : Half) → After (map (entry_offer t i) es) x (relax t i es x)
after_relax t i es x = rw relax_offers (after_offers (map (entry_offer t i) es) x)
