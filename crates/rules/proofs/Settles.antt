-- A search's count: each settling step settles one node more, for the first time, and none is made at the limit.
use mathlib.Core.Path.{◌≡◌, refl, sym, ◌∙◌, ap}
use mathlib.Core.Logic.{inl, inr}
use mathlib.Core.Bool.{Bool, true, false, ◌||◌}
use mathlib.Core.List.Memᴰ
use mathlib.Core.List.{List, [], ◌∷◌}
use Prim.Native.Nat.{ℕ, suc, ◌+◌, ◌≤◌, ◌<◌}
use native.Mathlib.Omega.{arith}
use lib.Dec.{eqb, ltb}
use borrow.Author.Tests.{leb-false}
use Rattle.rules.specs.Lists.{any, distinct, update}
use Rattle.rules.specs.Heap.{Item}
use Rattle.rules.specs.Graph.{Arc, outs}
use Rattle.rules.specs.Search.{Search, offer, relax, with_heap, mark_settled, settle, find_max_weight}
use Rattle.rules.specs.FirstDemand.{Settling}
use Rattle.rules.proofs.Cases.{on_test, neither}
use Rattle.rules.proofs.Pigeonhole.{distinct_more}
use Rattle.rules.proofs.Turns.{search_keeps}

none_more : (b : Bool) → b ≡ (b || false)
none_more true = refl
none_more false = refl

pub stands : (limit : ℕ) (s : Search) → s.count ≤ limit → Settling limit s s
unfolding any distinct
stands limit s low =
    record {
      nodes = [];
      once = refl;
      fresh = λ v m. absurd (Memᴰ.not-nil m);
      settled = λ v. none_more (s.settled v);
      count = omega arith;
      within = low;
    }

-- relaxing settles nothing
abbrev Unsettled : Search → Search → Type 0
Unsettled s t = (t.settled ≡ s.settled) × (t.count ≡ s.count)

offer_unsettled : (i : Item) (s : Search) → Unsettled s (offer i s)
unfolding offer
offer_unsettled i s = on_test (ltb i.weight (s.label i.node)) (λ t. rw (t, offer) (refl, refl)) (λ t. rw (t, offer) (refl, refl))

relax_unsettled : (avoid weight : ℕ) (xs : List Arc) (s : Search) → Unsettled s (relax avoid weight xs s)
unfolding relax
relax_unsettled avoid weight [] s = (refl, refl)
relax_unsettled avoid weight (a ∷ xs) s =
    on_test (eqb a.head avoid)
    (λ t. rw (t, relax) (relax_unsettled avoid weight xs s))
    (λ t.
    let one = offer_unsettled (record { weight = weight + a.weight; node = a.head }) s in
    let rest = relax_unsettled avoid weight xs (offer (record { weight = weight + a.weight; node = a.head }) s) in
    rw (t, relax) (rest.0 ∙ one.0, rest.1 ∙ one.1))

-- one node more is settled
settle_one : (g : List Arc) (avoid : ℕ) (i : Item) (s : Search) →
    ((settle g avoid i s).settled ≡ update i.node true s.settled) × ((settle g avoid i s).count ≡ suc s.count)
unfolding settle mark_settled
settle_one g avoid i s =
    let r = relax_unsettled avoid i.weight (outs g i.node) s in
    (ap (λ f. update i.node true f) r.0, ap suc r.1)

-- Those settled so far, and one more.
module _ (limit : ℕ) (s₀ : Search) where
  pub settles_more : (v : ℕ) (s t : Search) → t.settled ≡ update v true s.settled → t.count ≡ suc s.count → s.settled v ≡ false →
      s.count < limit → Settling limit s₀ s → Settling limit s₀ t
  unfolding any update
  settles_more v s t marks up new low r =
      let before = neither (s₀.settled v) (any (eqb v) r.nodes) (sym (r.settled v) ∙ new) in
      record {
        nodes = v ∷ r.nodes;
        once = distinct_more v r.nodes before.1 r.once;
        fresh = λ u m. elim (Memᴰ.cases_cons m) [ inl here ↦ rw here before.0 | inr later ↦ r.fresh u later ];
        settled = λ u. ap (λ f. f u) marks ∙ moved (eqb u v) (s.settled u) (s₀.settled u) (any (eqb u) r.nodes) (r.settled u);
        count = omega (arith, r.count);
        within = omega arith;
      }
    where
      moved : (e b x y : Bool) → b ≡ (x || y) → (elim e as (λ _. Bool) [ true ↦ true | false ↦ b ]) ≡ (x || (e || y))
      moved true b true y h = refl
      moved true b false y h = refl
      moved false b x y h = h

  pub search_settles : (g : List Arc) (avoid target sum : ℕ) (s : Search) → Settling limit s₀ s → Settling limit s₀ (find_max_weight g avoid limit target sum s).search
  unfolding with_heap
  search_settles g avoid target sum =
      search_keeps g avoid limit target sum (Settling limit s₀)
      (λ i q s e r.
      record { nodes = r.nodes; once = r.once; fresh = r.fresh; settled = r.settled; count = r.count; within = r.within })
      (λ i q s e low new r.
      let one = settle_one g avoid i (with_heap q s) in
      settles_more i.node s (settle g avoid i (with_heap q s)) one.0 one.1 new (leb-false limit s.count low) r)
