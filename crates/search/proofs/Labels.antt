-- Laws of the labels: what a store at one node does to what the slice stands for.
use mathlib.Core.Path.{◌≡◌, refl, sym, ap, ap₂, ◌∙◌}
use mathlib.Core.Bool.{Bool, true, false}
use mathlib.Core.List.{List}
use Prim.Native.Nat.{ℕ, ◌+◌, ◌*◌, ◌^◌, ◌<◌, ◌≤◌}
use native.Mathlib.Decide.{ℕ_discrete}
use native.Mathlib.Omega.{arith}
use lib.Dec.{ltb, leb}
use lib.ListN.{length, get_or, set, length-set}
use lib.Seq.{get_or-set_same, get_or-set_other}
use borrow.Author.Tests.{ltb-true, ltb-false, lt-ltb, le-ltb, le-leb, lt-leb}
use Rattle.rules.specs.Numbers.{no_weight}
use Rattle.rules.specs.Lists.{update}
use Rattle.rules.proofs.Cases.{on_test}
use Rattle.rules.proofs.Heaps.{update_same, update_other}
use Rattle.search.specs.Labels.{stamp, label_at, settled_at, Stamped, Labelled, Reached, kept_stamp, put_label, put_settled}

pub label_seen : (labels : List ℕ) (base v : ℕ) → base ≤ stamp labels v → label_at labels base v ≡ get_or labels (2 * v) 0
unfolding label_at
label_seen labels base v h = rw (le-leb base (stamp labels v) h, label_at)

pub label_missing : (labels : List ℕ) (base v : ℕ) → stamp labels v < base → label_at labels base v ≡ no_weight
unfolding label_at
label_missing labels base v h = rw (lt-leb base (stamp labels v) h, label_at)

-- Only the two numbers of v differ.
pub record Beside (v : ℕ) (labels labels' : List ℕ) : Type 0 where
  pub long : length labels' ≡ length labels
  pub weight : (k : ℕ) → (k ≡ v → ⊥) → get_or labels' (2 * k) 0 ≡ get_or labels (2 * k) 0
  pub stamp : (k : ℕ) → (k ≡ v → ⊥) → get_or labels' (2 * k + 1) 0 ≡ get_or labels (2 * k + 1) 0

beside_not : (v : ℕ) (labels : List ℕ) → Beside v labels labels
beside_not v labels = record { long = refl; weight = λ k e. refl; stamp = λ k e. refl }

module _ {v : ℕ} {labels labels' : List ℕ} (b : Beside v labels labels') (x : ℕ) where
  beside_weight : Beside v labels (set labels' (2 * v) x)
  beside_weight =
      record {
        long = length-set labels' (2 * v) x ∙ b.long;
        weight = λ k e. get_or-set_other labels' (2 * v) (2 * k) x 0 (λ f. e (omega arith)) ∙ b.weight k e;
        stamp = λ k e. get_or-set_other labels' (2 * v) (2 * k + 1) x 0 (λ f. omega arith) ∙ b.stamp k e;
      }

  beside_stamp : Beside v labels (set labels' (2 * v + 1) x)
  beside_stamp =
      record {
        long = length-set labels' (2 * v + 1) x ∙ b.long;
        weight = λ k e. get_or-set_other labels' (2 * v + 1) (2 * k) x 0 (λ f. omega arith) ∙ b.weight k e;
        stamp = λ k e. get_or-set_other labels' (2 * v + 1) (2 * k + 1) x 0 (λ f. e (omega arith)) ∙ b.stamp k e;
      }

module _ {v : ℕ} {labels labels' : List ℕ} (b : Beside v labels labels') (base : ℕ) where
  beside_label : (k : ℕ) → (k ≡ v → ⊥) → label_at labels' base k ≡ label_at labels base k
  unfolding label_at
  beside_label k e = ap₂ (λ (s w : ℕ). elim (leb base s) [ true ↦ w | false ↦ no_weight ]) (b.stamp k e) (b.weight k e)

  -- what stands at v is all that is to be shown
  pub beside_labelled : {n : ℕ} {f f' : ℕ → ℕ} {d d' : ℕ → Bool} → Labelled n labels base f d
      → ((k : ℕ) → (k ≡ v → ⊥) → f' k ≡ f k) → ((k : ℕ) → (k ≡ v → ⊥) → d' k ≡ d k)
      → stamp labels' v ≤ base + 1 → f' v ≡ label_at labels' base v → d' v ≡ settled_at labels' base v
      → Labelled n labels' base f' d'
  beside_labelled l same_weight same_done below weight done =
      record {
        stamped =
            record {
              room = rw b.long l.stamped.room;
              below = λ k h. elim (ℕ_discrete k v) [ yes e ↦ rw e below | no e ↦ rw (b.stamp k e) (l.stamped.below k h) ];
            };
        fits = l.fits;
        weight =
            λ k h.
            elim (ℕ_discrete k v) [
              | yes e ↦ rw e weight
              | no e ↦ same_weight k e ∙ l.weight k h ∙ sym (beside_label k e)
            ];
        done =
            λ k h.
            elim (ℕ_discrete k v) [
              | yes e ↦ rw e done
              | no e ↦ same_done k e ∙ l.done k h ∙ ap (ltb base) (sym (b.stamp k e))
            ];
      }

-- A label's store: its stamp is of this search, and says no more than before.
kept_stamp_at : (labels : List ℕ) (base v : ℕ) → (base ≤ kept_stamp labels base v)
    × (stamp labels v ≤ base + 1 → kept_stamp labels base v ≤ base + 1)
    × (ltb base (kept_stamp labels base v) ≡ settled_at labels base v)
unfolding kept_stamp
kept_stamp_at labels base v =
    on_test (ltb (stamp labels v) base)
    (λ t.
    rw (t, kept_stamp) (
      omega arith,
      λ h. omega arith,
      le-ltb base base (omega arith)
          ∙ sym (le-ltb base (stamp labels v) (omega (arith, ltb-true (stamp labels v) base t))),
    ))
    (λ t. rw (t, kept_stamp) (ltb-false (stamp labels v) base t, λ h. h, refl))

module _ (labels : List ℕ) (base v : ℕ) (room : 2 * (v + 1) ≤ length labels) (weight : ℕ) where
  put_label_beside : Beside v labels (put_label labels base v weight)
  unfolding put_label
  put_label_beside = beside_stamp (beside_weight (beside_not v labels) weight) (kept_stamp labels base v)

  put_label_stamp : stamp (put_label labels base v weight) v ≡ kept_stamp labels base v
  unfolding put_label
  put_label_stamp =
      get_or-set_same (set labels (2 * v) weight) (2 * v + 1) (kept_stamp labels base v) 0
      (omega (arith, length-set labels (2 * v) weight))

  put_label_weight : get_or (put_label labels base v weight) (2 * v) 0 ≡ weight
  unfolding put_label
  put_label_weight =
      get_or-set_other (set labels (2 * v) weight) (2 * v + 1) (2 * v) (kept_stamp labels base v) 0 (λ f. omega arith)
      ∙ get_or-set_same labels (2 * v) weight 0 (omega arith)

  put_label_seen : base ≤ stamp (put_label labels base v weight) v
  put_label_seen = rw put_label_stamp (kept_stamp_at labels base v).0

-- A settled node's store.
module _ (labels : List ℕ) (base v : ℕ) (room : 2 * (v + 1) ≤ length labels) where
  put_settled_beside : Beside v labels (put_settled labels base v)
  unfolding put_settled
  put_settled_beside = beside_stamp (beside_not v labels) (base + 1)

  put_settled_stamp : stamp (put_settled labels base v) v ≡ base + 1
  unfolding put_settled
  put_settled_stamp = get_or-set_same labels (2 * v + 1) (base + 1) 0 (omega arith)

  put_settled_weight : get_or (put_settled labels base v) (2 * v) 0 ≡ get_or labels (2 * v) 0
  unfolding put_settled
  put_settled_weight = get_or-set_other labels (2 * v + 1) (2 * v) (base + 1) 0 (λ f. omega arith)

module _ {n base : ℕ} {labels : List ℕ} where
  -- where a label stood, one stands
  reached_beside : {v : ℕ} {labels' : List ℕ} → Beside v labels labels' → base ≤ stamp labels' v → (k : ℕ) → Reached n labels base k → Reached n labels' base k
  reached_beside {v} b seen k r =
      record {
        inside = r.inside;
        stamped = elim (ℕ_discrete k v) [ yes e ↦ rw e seen | no e ↦ rw (b.stamp k e) r.stamped ];
      }

  module _ {f : ℕ → ℕ} {d : ℕ → Bool} (l : Labelled n labels base f d) (v : ℕ) (inside : v < n) where
    node_room : 2 * (v + 1) ≤ length labels
    node_room = omega (arith, l.stamped.room)

    pub labelled_put : (weight : ℕ) → Labelled n (put_label labels base v weight) base (update v weight f) d
    labelled_put weight =
        let at = kept_stamp_at labels base v in
        let stamped = put_label_stamp labels base v node_room weight in
        beside_labelled (put_label_beside labels base v node_room weight) base l
        (λ k e. update_other v weight f k e)
        (λ k e. refl)
        (rw stamped (at.1 (l.stamped.below v inside)))
        (update_same v weight f v refl ∙ sym (put_label_weight labels base v node_room weight)
        ∙ sym (label_seen _ base v (put_label_seen labels base v node_room weight)))
        (l.done v inside ∙ sym at.2 ∙ ap (ltb base) (sym stamped))

    pub reached_put : (weight k : ℕ) → Reached n labels base k → Reached n (put_label labels base v weight) base k
    reached_put weight = reached_beside (put_label_beside labels base v node_room weight) (put_label_seen labels base v node_room weight)

    pub reached_new : (weight : ℕ) → Reached n (put_label labels base v weight) base v
    reached_new weight = record { inside = inside; stamped = put_label_seen labels base v node_room weight }

    pub labelled_settled : base ≤ stamp labels v → Labelled n (put_settled labels base v) base f (update v true d)
    labelled_settled seen =
        let stamped = put_settled_stamp labels base v node_room in
        beside_labelled (put_settled_beside labels base v node_room) base l
        (λ k e. refl)
        (λ k e. update_other v true d k e)
        (rw stamped (omega arith))
        (l.weight v inside ∙ label_seen labels base v seen ∙ sym (put_settled_weight labels base v node_room)
        ∙ sym (label_seen _ base v (rw stamped (omega arith))))
        (update_same v true d v refl ∙ sym (lt-ltb base _ (rw stamped (omega arith))))

    pub reached_settled : (k : ℕ) → Reached n labels base k → Reached n (put_settled labels base v) base k
    reached_settled =
        reached_beside (put_settled_beside labels base v node_room) (rw (put_settled_stamp labels base v node_room) (omega arith))

  -- to the next search no node has a label
  pub labelled_none : Stamped n labels base → base + 3 < 2 ^ 64 → Labelled n labels (base + 2) (λ _. no_weight) (λ _. false)
  labelled_none s fits =
      record {
        stamped = record { room = s.room; below = λ v h. omega (arith, s.below v h) };
        fits = omega arith;
        weight = λ v h. sym (label_missing labels (base + 2) v (omega (arith, s.below v h)));
        done = λ v h. sym (le-ltb (base + 2) (stamp labels v) (omega (arith, s.below v h)));
      }

-- no place comes or goes
pub put_label_long : (labels : List ℕ) (base v weight : ℕ) → length (put_label labels base v weight) ≡ length labels
unfolding put_label
put_label_long labels base v weight = simp length-set refl
