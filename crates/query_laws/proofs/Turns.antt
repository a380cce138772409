-- Turns and rounds keep both searches sound and the best sum right (step 10), and the rounds' fuel never runs out.
use mathlib.Core.Path.{◌≡◌, refl, ap}
use mathlib.Core.Logic.{◌⊎◌, inl, inr}
use mathlib.Core.Bool.{true, false, true≢false, false≢true}
use mathlib.Core.List.{List, [], ◌∷◌}
use Prim.Native.Nat.{ℕ, zero, suc, ◌+◌, ◌≤◌, ◌<◌, min}
use native.Mathlib.Omega.{arith}
use lib.Dec.{ltb}
use lib.ListN.{length}
use borrow.Author.Tests.{ltb-true, ltb-false}
use Rattle.rules.specs.Numbers.{no_weight}
use Rattle.rules.specs.Heap.{Item}
use Rattle.rules.specs.Columns.{Hierarchy, Side, forward, backward, opposite, entries}
use Rattle.rules.specs.TableRules.{TableRules}
use Rattle.rules.specs.Query.{End, Best, improve, Label, Half, with_heap, stalls, settle, Turned, turn, Halves, round, both_empty, rounds}
use Rattle.rules.proofs.Cases.{on_test}
use Rattle.rules.proofs.Lists.{empty_of_length}
use Rattle.query_laws.specs.Sound.{weight_at, load, Sound, Meets, Both, both_loads}
use Rattle.query_laws.proofs.State.{better}
use Rattle.query_laws.proofs.Taken.{Clear, stall_none, taken_item, pops_never_fall, pass_settled, pass_heavy, pass_stalled, settle_sound, settle_load, settle_settled, settle_falls, settle_stays, settle_own}

-- A turn's four outcomes.
module _ (h : Hierarchy) (s : Side) (y : Half) (b : Best) (x : Half) (i : Item) (q : List Item) where
  pub turn_settled : x.settled i.node ≡ true → turn h s y b x (i ∷ q) ≡ turn h s y b x q
  unfolding turn
  turn_settled t = rw (t, turn)

  module _ (yet : x.settled i.node ≡ false) where
    pub turn_heavy : ltb b.sum i.weight ≡ true → turn h s y b x (i ∷ q) ≡ record { half = with_heap q x; best = b }
    unfolding turn
    turn_heavy t = rw (yet, t, turn)

    module _ (light : ltb b.sum i.weight ≡ false) where
      pub turn_stalled : stalls (entries h (opposite s) i.node) x i ≡ true → turn h s y b x (i ∷ q) ≡ turn h s y b x q
      unfolding turn
      turn_stalled t = rw (yet, light, t, turn)

      pub turn_settles : stalls (entries h (opposite s) i.node) x i ≡ false →
          turn h s y b x (i ∷ q) ≡ record { half = settle h s i (with_heap q x); best = improve (i.weight + weight_at y i.node) i.node b }
      unfolding turn
      turn_settles t = rw (yet, light, t, turn)

pub meets_swap : {n : ℕ} {x y : Half} {b : Best} → Meets n x y b → Meets n y x b
meets_swap {n} {x} {y} {b} m =
    record {
      low = λ v p q. omega (arith, m.low v q p);
      real = elim m.real [ inl mark ↦ inl mark | inr r ↦ inr (record { node_below = r.node_below; set = r.set; enough = omega (arith, r.enough) }) ];
    }

pub best_at_most : {n : ℕ} {x y : Half} {b : Best} → Meets n x y b → b.sum ≤ no_weight
best_at_most m = elim m.real [ inl mark ↦ omega (arith, ap (λ (c : Best). c.sum) mark) | inr r ↦ omega (arith, r.set) ]

pub improve_cases : (w v : ℕ) (b : Best) → ((w < b.sum) × (improve w v b ≡ record { sum = w; node = v })) ⊎ ((b.sum ≤ w) × (improve w v b ≡ b))
unfolding improve
improve_cases w v b =
    on_test (ltb w b.sum) (λ t. inl (ltb-true w b.sum t, rw (t, improve))) (λ t. inr (ltb-false w b.sum t, rw (t, improve)))

pub improve_low : (w v : ℕ) (b : Best) → ((improve w v b).sum ≤ w) × ((improve w v b).sum ≤ b.sum)
improve_low w v b =
    elim (improve_cases w v b) [
      | inl new ↦ rw new.1 (omega arith, omega (arith, new.0))
      | inr old ↦ rw old.1 (omega (arith, old.0), omega arith)
    ]

-- What is left of the search `before` after a turn that faces y, when the best was b. The floor never falls, and a node
-- that is settled stays so, with its label.
pub record AfterTurn (n : ℕ) (h : Hierarchy) (s : Side) (es : List End) (floor : ℕ) (y : Half) (b : Best) (before : Half) (t : Turned) : Type 0 where
  pub last : ℕ
  pub above : floor ≤ last
  pub sound : Sound n h s es last t.best.sum t.half
  pub meets : Meets n t.half y t.best
  pub best_falls : t.best.sum ≤ b.sum
  pub still_settled : (v : ℕ) → before.settled v ≡ true → t.half.settled v ≡ true
  pub still_label : (v : ℕ) → before.settled v ≡ true → t.half.label v ≡ before.label v
  pub fewer : load n h s t.half + min 1 (length before.heap) ≤ load n h s before

module _ (n : ℕ) (h : Hierarchy) (rules : TableRules n h) (s : Side) (es : List End) (y : Half) where
  -- the turn that settles
  module _ (floor : ℕ) (b : Best) (x : Half) (i : Item) (q : List Item) (k : Sound n h s es floor b.sum (with_heap (i ∷ q) x)) (m : Meets n x y b)
      (yet : x.settled i.node ≡ false) (light : i.weight ≤ b.sum) (clear : Clear h s x i) where
    settled_best : Best
    settled_best = improve (i.weight + weight_at y i.node) i.node b

    settled_low : (settled_best.sum ≤ i.weight + weight_at y i.node) × (settled_best.sum ≤ b.sum)
    unfolding settled_best
    settled_low = improve_low (i.weight + weight_at y i.node) i.node b

    own : weight_at (settle h s i (with_heap q x)) i.node ≡ i.weight
    own = settle_own n h rules s es floor b.sum x i q k yet light clear

    settled_meets : Meets n (settle h s i (with_heap q x)) y settled_best
    unfolding settled_best
    settled_meets =
        record {
          low = λ v p r.
              elim ((settle_settled n h rules s es floor b.sum x i q k yet light clear v).0 p) [
                | inl here ↦ rw here (omega (arith, own, settled_low.0))
                | inr before ↦
                    omega (
                      arith,
                      m.low v before r,
                      settled_low.1,
                      ap (λ (l : Label). l.weight) (settle_stays n h rules s es floor b.sum x i q k yet light clear v before),
                    )
              ];
          real =
              elim (improve_cases (i.weight + weight_at y i.node) i.node b) [
                | inl new ↦
                    rw new.1
                    (inr
                    (record {
                      node_below = (taken_item n h rules s es floor b.sum x i q k).node_below;
                      set = omega (arith, new.0, best_at_most m);
                      enough = omega (arith, own);
                    }))
                | inr old ↦
                    rw old.1
                    (elim m.real [
                      | inl mark ↦ inl mark
                      | inr r ↦
                          inr
                          (record {
                            node_below = r.node_below;
                            set = r.set;
                            enough = omega (arith, r.enough, settle_falls n h rules s es floor b.sum x i q k yet light clear b.node);
                          })
                    ])
              ];
        }

    settled_turn : AfterTurn n h s es floor y b (with_heap (i ∷ q) x) (record { half = settle h s i (with_heap q x); best = settled_best })
    unfolding with_heap
    settled_turn =
        record {
          last = i.weight;
          above = pops_never_fall n h rules s es floor b.sum x i q k;
          sound = better settled_low.1 (settle_sound n h rules s es floor b.sum x i q k yet light clear);
          meets = settled_meets;
          best_falls = settled_low.1;
          still_settled = λ v t. (settle_settled n h rules s es floor b.sum x i q k yet light clear v).1 (inr t);
          still_label = settle_stays n h rules s es floor b.sum x i q k yet light clear;
          fewer = omega (arith, settle_load n h rules s es floor b.sum x i q k yet light clear);
        }

  -- the same after one more item that was passed over
  one_more : (floor : ℕ) (b : Best) (x : Half) (i : Item) (q : List Item) (t : Turned) → floor ≤ i.weight →
      AfterTurn n h s es i.weight y b (with_heap q x) t → AfterTurn n h s es floor y b (with_heap (i ∷ q) x) t
  unfolding with_heap
  one_more floor b x i q t le a =
      record {
        last = a.last;
        above = omega (arith, a.above);
        sound = a.sound;
        meets = a.meets;
        best_falls = a.best_falls;
        still_settled = a.still_settled;
        still_label = a.still_label;
        fewer = omega (arith, a.fewer);
      }

  meets_heap : (b : Best) (x : Half) (q : List Item) → Meets n x y b → Meets n (with_heap q x) y b
  unfolding with_heap
  meets_heap b x q m =
      record {
        low = m.low;
        real =
            elim m.real [
              | inl mark ↦ inl mark
              | inr r ↦ inr (record { node_below = r.node_below; set = r.set; enough = r.enough })
            ];
      }

  pub turn_keeps : (floor : ℕ) (b : Best) (x : Half) (q : List Item) → Sound n h s es floor b.sum (with_heap q x) → Meets n x y b →
      AfterTurn n h s es floor y b (with_heap q x) (turn h s y b x q)
  unfolding turn with_heap settled_best
  turn_keeps floor b x [] k m =
      record {
        last = floor;
        above = omega arith;
        sound = k;
        meets = meets_heap b x [] m;
        best_falls = omega arith;
        still_settled = λ v t. t;
        still_label = λ v t. refl;
        fewer = omega arith;
      }
  turn_keeps floor b x (i ∷ q) k m =
      let up = pops_never_fall n h rules s es floor b.sum x i q k in
      on_test (x.settled i.node)
      (λ t.
      rw (turn_settled h s y b x i q t)
      (one_more floor b x i q _ up (turn_keeps i.weight b x q (pass_settled n h rules s es floor b.sum x i q k t) m)))
      (λ yet.
      on_test (ltb b.sum i.weight)
      (λ t.
      rw (turn_heavy h s y b x i q yet t)
      (record {
        last = i.weight;
        above = up;
        sound = pass_heavy n h rules s es floor b.sum x i q k t;
        meets = meets_heap b x q m;
        best_falls = omega arith;
        still_settled = λ v t. t;
        still_label = λ v t. refl;
        fewer = omega arith;
      }))
      (λ light.
      on_test (stalls (entries h (opposite s) i.node) x i)
      (λ t.
      rw (turn_stalled h s y b x i q yet light t)
      (one_more floor b x i q _ up (turn_keeps i.weight b x q (pass_stalled n h rules s es floor b.sum x i q k t) m)))
      (λ t.
      rw (turn_settles h s y b x i q yet light t)
      (settled_turn floor b x i q k m yet (ltb-false b.sum i.weight light) (stall_none h s x i t)))))

no_items : (p q : List Item) → both_empty p q ≡ true → (p ≡ []) × (q ≡ [])
unfolding both_empty
no_items [] [] e = (refl, refl)
no_items [] (i ∷ q) e = absurd (false≢true e)
no_items (i ∷ p) q e = absurd (false≢true e)

some_item : (p q : List Item) → both_empty p q ≡ false → 1 ≤ min 1 (length p) + min 1 (length q)
unfolding both_empty
some_item [] [] e = absurd (true≢false e)
some_item [] (i ∷ q) e = omega arith
some_item (i ∷ p) q e = omega arith

module _ (n : ℕ) (h : Hierarchy) (rules : TableRules n h) (ss ts : List End) where
  forward_turn : (q : Halves) → (k : Both n h ss ts q) →
      AfterTurn n h forward ss k.fwd_floor q.bwd q.best q.fwd (turn h forward q.bwd q.best q.fwd q.fwd.heap)
  unfolding with_heap
  forward_turn q k = turn_keeps n h rules forward ss q.bwd k.fwd_floor q.best q.fwd q.fwd.heap k.fwd k.meets

  backward_turn : (q : Halves) → (k : Both n h ss ts q) (f : Turned) →
      AfterTurn n h forward ss k.fwd_floor q.bwd q.best q.fwd f →
      AfterTurn n h backward ts k.bwd_floor f.half f.best q.bwd (turn h backward f.half f.best q.bwd q.bwd.heap)
  unfolding with_heap
  backward_turn q k f a =
      turn_keeps n h rules backward ts f.half k.bwd_floor f.best q.bwd q.bwd.heap
      (better a.best_falls k.bwd) (meets_swap a.meets)

  pub round_keeps : (q : Halves) → Both n h ss ts q → Both n h ss ts (round h q)
  unfolding round
  round_keeps q k =
      let f = forward_turn q k in
      let b = backward_turn q k _ f in
      record {
        fwd_floor = f.last;
        bwd_floor = b.last;
        fwd = better b.best_falls f.sound;
        bwd = b.sound;
        meets = meets_swap b.meets;
      }

  -- each round takes an item out
  pub round_fewer : (q : Halves) → Both n h ss ts q → both_empty q.fwd.heap q.bwd.heap ≡ false → both_loads n h (round h q) < both_loads n h q
  unfolding round
  round_fewer q k e =
      let f = forward_turn q k in
      let b = backward_turn q k _ f in
      omega (arith, f.fewer, b.fewer, some_item q.fwd.heap q.bwd.heap e)

  pub rounds_keep : (fuel : ℕ) (q : Halves) → Both n h ss ts q → Both n h ss ts (rounds h fuel q)
  unfolding rounds
  rounds_keep zero q k = k
  rounds_keep (suc fuel) q k =
      on_test (both_empty q.fwd.heap q.bwd.heap) (λ e. rw (e, rounds) k) (λ e. rw (e, rounds) (rounds_keep fuel (round h q) (round_keeps q k)))

  no_load : (q : Halves) → both_loads n h q ≤ 0 → (q.fwd.heap ≡ []) × (q.bwd.heap ≡ [])
  no_load q none = (empty_of_length q.fwd.heap (omega arith), empty_of_length q.bwd.heap (omega arith))

  -- fuel for all that may be taken out never runs out
  pub rounds_finish : (fuel : ℕ) (q : Halves) → Both n h ss ts q → both_loads n h q ≤ fuel →
      ((rounds h fuel q).fwd.heap ≡ []) × ((rounds h fuel q).bwd.heap ≡ [])
  unfolding rounds
  rounds_finish zero q k enough = no_load q enough
  rounds_finish (suc fuel) q k enough =
      on_test (both_empty q.fwd.heap q.bwd.heap) (λ e. rw (e, rounds) (no_items q.fwd.heap q.bwd.heap e))
      (λ e. rw (e, rounds) (rounds_finish fuel (round h q) (round_keeps q k) (omega (arith, round_fewer q k e))))
