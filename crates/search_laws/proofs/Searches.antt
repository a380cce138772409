-- Labels are walks: what a witness search labels, a walk that avoids the contracted node makes. Nothing about least
-- weights is needed.
use mathlib.Core.Path.{◌≡◌, refl, sym, ◌∙◌, ap}
use mathlib.Core.Logic.{inl, inr}
use mathlib.Core.Bool.{◌||◌}
use mathlib.Core.List.Memᴰ
use mathlib.Core.List.{List, [], ◌∷◌}
use Prim.Native.Nat.{ℕ, ◌+◌, ◌<◌, zero-le}
use native.Mathlib.Decide.{ℕ_discrete}
use native.Mathlib.Omega.{arith}
use lib.Dec.{eqb, ltb, leb}
use borrow.Author.Tests.{eqb-false}
use Rattle.rules.specs.Numbers.{no_weight}
use Rattle.rules.specs.Lists.{In}
use Rattle.rules.specs.Heap.{Item}
use Rattle.rules.specs.Graph.{Arc, outs, disconnect}
use Rattle.rules.specs.Search.{Search, init, offer, relax, with_heap, mark_settled, settle, answer, find_max_weight}
use Rattle.rules.proofs.Cases.{on_test}
use Rattle.rules.proofs.Heaps.{update_same, update_other, push_in}
use Rattle.rules.proofs.Turns.{search_keeps}
use Rattle.walks.specs.Paths.{Edges, stay, Within}
use Rattle.walks.proofs.Paths.{Lighter, lighter_within, within_join, edge_within}
use Rattle.search_laws.proofs.Graphs.{Arcs, Avoiding, by_ends, in_outs, disconnected_in, avoiding_never_at}

-- Every label, and every entry of the heap, is the weight of a walk, or more.
pub record Walked (E : Edges) (a : ℕ) (s : Search) : Type 0 where
  pub labels : (u : ℕ) → s.label u < no_weight → Within E a u (s.label u)
  pub items : (i : Item) → In i s.heap → Within E a i.node i.weight

pub walked_lighter : {E F : Edges} {a : ℕ} {s : Search} → Lighter E F → Walked E a s → Walked F a s
walked_lighter l x =
    record {
      labels = λ u h. lighter_within l (x.labels u h);
      items = λ i m. lighter_within l (x.items i m);
    }

pub init_walked : (E : Edges) (a : ℕ) → Walked E a (init a)
unfolding init
init_walked E a =
    record {
      labels =
          λ u h.
          elim (ℕ_discrete u a) [
            | yes same ↦ (0, stay (sym same) refl, zero-le)
            | no other ↦ absurd (omega (arith, update_other a 0 (λ _. no_weight) u other))
          ];
      items = λ i m. let e = Memᴰ.eq_of_singleton m in (0, stay (sym (ap (λ j. j.node) e)) refl, zero-le);
    }

module _ {E : Edges} {a : ℕ} where
  offer_walked : (i : Item) (s : Search) → Within E a i.node i.weight → Walked E a s → Walked E a (offer i s)
  unfolding offer
  offer_walked i s p x =
      on_test (ltb i.weight (s.label i.node))
      (λ t.
      rw (t, offer)
      (record {
        labels =
            λ u h.
            elim (ℕ_discrete u i.node) [
              | yes same ↦ rw (update_same i.node i.weight s.label u same, same) p
              | no other ↦
                  let e = update_other i.node i.weight s.label u other in
                  rw e (x.labels u (rw e at h))
            ];
        items =
            λ j m.
            elim (push_in i s.heap j m) [
              | inl new ↦ rw new p
              | inr old ↦ x.items j old
            ];
      }))
      (λ t. rw (t, offer) x)

module _ (g : List Arc) (v : ℕ) {a : ℕ} (away : a ≡ v → ⊥) where
  -- arcs that leave a node which a walk reaches
  relax_walked : (u w : ℕ) (bs : List Arc) (s : Search) → ((b : Arc) → In b bs → In b g × (b.tail ≡ u)) →
      Within (Avoiding v g) a u w → Walked (Avoiding v g) a s → Walked (Avoiding v g) a (relax v w bs s)
  unfolding relax
  relax_walked u w [] s sub p x = x
  relax_walked u w (b ∷ bs) s sub p x =
      on_test (eqb b.head v)
      (λ t. rw (t, relax) (relax_walked u w bs s (λ c m. sub c (Memᴰ.tail m)) p x))
      (λ t.
      let here = sub b (Memᴰ.head refl) in
      let off : b.tail ≡ v → ⊥ = λ e. avoiding_never_at v g p.1 away (sym here.1 ∙ e) in
      let arc : Arcs (disconnect g v) u b.head b.weight = (
        b.centre,
        Memᴰ.cast (by_ends b here.1 refl) (disconnected_in g v b here.0 off (eqb-false b.head v t)),
      )
      in
      let more : Within (Avoiding v g) a b.head (w + b.weight) =
      within_join p (edge_within arc)
      in
      rw (t, relax)
      (relax_walked u w bs (offer (record { weight = w + b.weight; node = b.head }) s)
      (λ c m. sub c (Memᴰ.tail m))
      p
      (offer_walked (record { weight = w + b.weight; node = b.head }) s more x)))

  settle_walked : (i : Item) (s : Search) → Within (Avoiding v g) a i.node i.weight →
      Walked (Avoiding v g) a s → Walked (Avoiding v g) a (settle g v i s)
  unfolding settle mark_settled
  settle_walked i s p x =
      let r = relax_walked i.node i.weight (outs g i.node) s (in_outs g i.node) p x in
      record { labels = r.labels; items = r.items }

module _ (g : List Arc) (v : ℕ) {a : ℕ} (away : a ≡ v → ⊥) (limit target sum : ℕ) where
  pub search_walked : (s : Search) → Walked (Avoiding v g) a s →
      Walked (Avoiding v g) a (find_max_weight g v limit target sum s).search
  unfolding with_heap
  search_walked =
      search_keeps g v limit target sum (Walked (Avoiding v g) a)
      (λ i q s e x. record { labels = x.labels; items = λ j m. x.items j (rw e (Memᴰ.tail m)) })
      (λ i q s e _ t x.
      settle_walked g v away i (with_heap q s) (x.items i (rw e (Memᴰ.head refl)))
      (record { labels = x.labels; items = λ j m. x.items j (rw e (Memᴰ.tail m)) }))

  answer_label : (s : Search) → (find_max_weight g v limit target sum s).weight ≡ (find_max_weight g v limit target sum s).search.label target
  unfolding find_max_weight answer
  answer_label s =
      on_test (s.settled target || leb (s.label target) sum)
      (λ t. rw (t, find_max_weight))
      (λ t. rw (t, find_max_weight))

  -- an answer below the mark is a walk's weight, or more
  pub answer_walked : (s : Search) → Walked (Avoiding v g) a s → (find_max_weight g v limit target sum s).weight < no_weight →
      Within (Avoiding v g) a target (find_max_weight g v limit target sum s).weight
  answer_walked s x below =
      rw (answer_label s) ((search_walked s x).labels target (rw (answer_label s) at below))
