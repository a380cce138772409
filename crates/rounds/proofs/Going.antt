-- Two turns make a round, and rounds go on until both heaps are empty.
use mathlib.Core.Bool.{true, false}
use mathlib.Core.List.{List, [], ◌∷◌}
use mathlib.Core.Path.{◌≡◌, refl, sym, ap, ◌∙◌}
use Prim.Native.Nat.{ℕ, zero, suc, ◌+◌, ◌-◌, ◌^◌, ◌<◌, ◌≤◌}
use native.Mathlib.Omega.{arith}
use lib.ListN.{length}
use Rattle.rules.specs.Numbers.{no_weight}
use Rattle.rules.specs.Heap.{Item}
use Rattle.rules.specs.Columns.{Hierarchy, Side, forward, backward, opposite}
use Rattle.rules.specs.TableRules.{TableRules}
use Rattle.rules.specs.Query.{End, Best, Label, Half, with_heap, turn, Halves, round, both_empty, rounds}
use Rattle.heap.specs.Items.{items, sorted}
use Rattle.heap.proofs.Laws.{holds_size}
use Rattle.query_laws.specs.Sound.{Sound, Both, both_loads}
use Rattle.query_laws.proofs.State.{better}
use Rattle.query_laws.proofs.Turns.{AfterTurn, turn_keeps, round_keeps, round_fewer}
use Rattle.query_laws.proofs.Bounds.{label_at_most}
use Rattle.halves.specs.Labels.{Keeps, seen, half}
use Rattle.halves.proofs.Labels.{label_in}
use Rattle.turns.specs.Turning.{View, Turning, Turns}
use Rattle.rounds.specs.Rounds.{halves, Heap, Rounding, Rounded, Running}

-- a labelled node's weight is far below the mark
low_label : (n : ℕ) (h : Hierarchy) → TableRules n h → (s : Side) (es : List End) (floor b base len : ℕ) (labels heap : List ℕ) →
    Sound n h s es floor b (half n base labels heap len) → (v : ℕ) → v < n → (seen labels base v).weight < no_weight →
    (seen labels base v).weight < 2 ^ 63
unfolding half
low_label n h rules s es floor b base len labels heap k v below light =
    let is = ap (λ (l : Label). l.weight) (label_in n base v labels below) in
    omega (arith, is, label_at_most n h rules s es floor b (half n base labels heap len) k v (omega (arith, is)))

-- what a side faces
faced : (n base len : ℕ) (labels heap : List ℕ) (v : ℕ) → v < n → ((half n base labels heap len).label v).weight ≡ (seen labels base v).weight
unfolding half
faced n base len labels heap v below = ap (λ (l : Label). l.weight) (label_in n base v labels below)

view_turned : {h : Hierarchy} {ranks fs fm fw bs bm bw : List ℕ} → View h forward ranks fs fm fw bs bm bw → View h backward ranks bs bm bw fs fm fw
unfolding opposite
view_turned v =
    record {
      ranks_are = v.ranks_are;
      starts_are = v.other_starts;
      neighbours_are = v.other_neighbours;
      weights_are = v.other_weights;
      other_starts = v.starts_are;
      other_neighbours = v.neighbours_are;
      other_weights = v.weights_are;
    }

module _ (n : ℕ) (ranks fs fm fw bs bm bw fl bl fh bh : List ℕ) (base f b : ℕ) (best : Best) where
  module _ (t : Rounding n ranks fs fm fw bs bm bw fl bl fh bh base f b best) where
    abbrev fwd : Half
    fwd = half n base fl fh f

    abbrev bwd : Half
    bwd = half n base bl bh b

    pub forward_turning : Turning n ranks fs fm fw bs bm bw fl fh bl base f best.sum
    forward_turning =
        record {
          h = t.h;
          s = forward;
          es = t.sources;
          floor = t.both.fwd_floor;
          rules = t.rules;
          view = t.view;
          sound = t.both.fwd;
          ordered = t.fwd.ordered;
          held = t.fwd.held;
          heap_room = t.fwd_room;
          label_room = t.fwd_labels;
          facing_room = t.bwd_labels;
          facing_low = low_label n t.h t.rules backward t.targets t.both.bwd_floor best.sum base b bl bh t.both.bwd;
          stamps = t.stamps;
        }

    -- after the forward turn
    module _ (fl' fh' : List ℕ) (f' : ℕ) (best' : Best) (long : length fl' ≡ length fl)
        (x : Turns n ranks fs fm fw bs bm bw fl fh bl base f best fl' fh' f' best') where
      first : turn t.h forward bwd best fwd fwd.heap ≡ record { half = half n base fl' fh' f'; best = best' }
      unfolding forward_turning
      first = x.turned forward_turning bwd (faced n base b bl bh)

      after : AfterTurn n t.h forward t.sources t.both.fwd_floor bwd best fwd (record { half = half n base fl' fh' f'; best = best' })
      unfolding with_heap
      after =
          rw first at
          (turn_keeps n t.h t.rules forward t.sources bwd t.both.fwd_floor best fwd fwd.heap t.both.fwd t.both.meets)

      pub backward_turning : Turning n ranks bs bm bw fs fm fw bl bh fl' base b best'.sum
      backward_turning =
          record {
            h = t.h;
            s = backward;
            es = t.targets;
            floor = t.both.bwd_floor;
            rules = t.rules;
            view = view_turned t.view;
            sound = better after.best_falls t.both.bwd;
            ordered = t.bwd.ordered;
            held = t.bwd.held;
            heap_room = t.bwd_room;
            label_room = t.bwd_labels;
            facing_room = omega (arith, t.fwd_labels, long);
            facing_low =
                low_label n t.h t.rules forward t.sources after.last best'.sum base f' fl' fh' after.sound;
            stamps = t.stamps;
          }

      pub round_is : (bl' bh' : List ℕ) (b' : ℕ) (best'' : Best) → Turns n ranks bs bm bw fs fm fw bl bh fl' base b best' bl' bh' b' best'' →
          round t.h (halves n base fl bl fh bh f b best) ≡ halves n base fl' bl' fh' bh' f' b' best''
      unfolding round backward_turning
      round_is bl' bh' b' best'' y =
          let second = y.turned backward_turning (half n base fl' fh' f') (faced n base f' fl' fh') in
          rw (first, second)

  pub rounded : (fl' bl' fh' bh' : List ℕ) (f' b' : ℕ) (best' best'' : Best) → length fl' ≡ length fl →
      Turns n ranks fs fm fw bs bm bw fl fh bl base f best fl' fh' f' best' →
      Turns n ranks bs bm bw fs fm fw bl bh fl' base b best' bl' bh' b' best'' →
      Rounded n ranks fs fm fw bs bm bw fl bl fh bh base f b best fl' bl' fh' bh' f' b' best''
  rounded fl' bl' fh' bh' f' b' best' best'' long x y =
      record {
        is = λ t. round_is t fl' fh' f' best' long x bl' bh' b' best'' y;
        fwd = record { ordered = x.ordered; held = x.held };
        bwd = record { ordered = y.ordered; held = y.held };
        fwd_stamps = x.stamps;
        bwd_stamps = y.stamps;
      }

-- Whether a heap is empty is whether it has no items.
heap_size : {heap : List ℕ} {len : ℕ} → Heap heap len → length (sorted (items heap len)) ≡ len
heap_size {heap} {len} k = holds_size heap len (sorted (items heap len)) (record { room = k.held; ordered = k.ordered; same = refl })

some_left : (p q : List Item) → 0 < length p + length q → both_empty p q ≡ false
unfolding both_empty
some_left [] [] some = absurd (omega arith)
some_left [] (i ∷ q) some = refl
some_left (i ∷ p) q some = refl

none_left : (p q : List Item) → length p + length q ≤ 0 → both_empty p q ≡ true
unfolding both_empty
none_left [] [] none = refl
none_left [] (i ∷ q) none = absurd (omega arith)
none_left (i ∷ p) q none = absurd (omega arith)

rounds_end : (h : Hierarchy) (fuel : ℕ) (q : Halves) → both_empty q.fwd.heap q.bwd.heap ≡ true → rounds h fuel q ≡ q
unfolding rounds
rounds_end h zero q e = refl
rounds_end h (suc fuel) q e = rw (e, rounds)

rounds_on : (h : Hierarchy) (fuel : ℕ) (q : Halves) → both_empty q.fwd.heap q.bwd.heap ≡ false →
    rounds h (suc fuel) q ≡ rounds h fuel (round h q)
unfolding rounds
rounds_on h fuel q e = rw (e, rounds)

module _ (n : ℕ) (ranks fs fm fw bs bm bw fl₀ bl₀ fh₀ bh₀ : List ℕ) (base f₀ b₀ : ℕ) (best₀ : Best) (fuel : ℕ)
    (t : Running n ranks fs fm fw bs bm bw fl₀ bl₀ fh₀ bh₀ base f₀ b₀ best₀ fuel) where
  abbrev h : Hierarchy
  h = t.rounding.h

  -- the rounds that are left, from here, are all of them from the start
  pub record Going (fl bl fh bh : List ℕ) (f b : ℕ) (best : Best) (left : ℕ) : Type 0 where
    pub both : Both n h t.rounding.sources t.rounding.targets (halves n base fl bl fh bh f b best)
    pub fwd : Heap fh f
    pub bwd : Heap bh b
    pub fl_long : length fl ≡ length fl₀
    pub bl_long : length bl ≡ length bl₀
    pub fh_long : length fh ≡ length fh₀
    pub bh_long : length bh ≡ length bh₀
    pub fwd_stamps : Keeps base fl₀ fl
    pub bwd_stamps : Keeps base bl₀ bl
    pub enough : both_loads n h (halves n base fl bl fh bh f b best) ≤ left
    pub same : rounds h left (halves n base fl bl fh bh f b best) ≡ rounds h fuel (halves n base fl₀ bl₀ fh₀ bh₀ f₀ b₀ best₀)

  pub going_first : Going fl₀ bl₀ fh₀ bh₀ f₀ b₀ best₀ fuel
  going_first =
      record {
        both = t.rounding.both;
        fwd = t.rounding.fwd;
        bwd = t.rounding.bwd;
        fl_long = refl;
        bl_long = refl;
        fh_long = refl;
        bh_long = refl;
        fwd_stamps = λ n before. before;
        bwd_stamps = λ n before. before;
        enough = t.enough;
        same = refl;
      }

  module _ (fl bl fh bh : List ℕ) (f b : ℕ) (best : Best) (left : ℕ) (g : Going fl bl fh bh f b best left) where
    pub rounding : Rounding n ranks fs fm fw bs bm bw fl bl fh bh base f b best
    rounding =
        record {
          h = h;
          sources = t.rounding.sources;
          targets = t.rounding.targets;
          rules = t.rounding.rules;
          view = t.rounding.view;
          both = g.both;
          fwd = g.fwd;
          bwd = g.bwd;
          fwd_room = omega (arith, t.rounding.fwd_room, g.fh_long);
          bwd_room = omega (arith, t.rounding.bwd_room, g.bh_long);
          fwd_labels = omega (arith, t.rounding.fwd_labels, g.fl_long);
          bwd_labels = omega (arith, t.rounding.bwd_labels, g.bl_long);
          stamps = t.rounding.stamps;
        }

    sizes : length (half n base fl fh f).heap + length (half n base bl bh b).heap ≡ f + b
    unfolding half
    sizes = omega (arith, heap_size g.fwd, heap_size g.bwd)

    module _ (some : 0 < f + b) where
      more : both_empty (half n base fl fh f).heap (half n base bl bh b).heap ≡ false
      more = some_left (half n base fl fh f).heap (half n base bl bh b).heap (omega (arith, sizes))

      fewer : both_loads n h (round h (halves n base fl bl fh bh f b best)) < left
      fewer =
          omega (
            arith,
            g.enough,
            round_fewer n h t.rounding.rules t.rounding.sources t.rounding.targets (halves n base fl bl fh bh f b best) g.both more,
          )

      pub some_fuel : 1 ≤ left
      some_fuel = omega (arith, fewer)

      fewer_fuel : both_loads n h (round h (halves n base fl bl fh bh f b best)) ≤ left - 1
      fewer_fuel = omega (arith, fewer)

      pub going_on : (fl' bl' fh' bh' : List ℕ) (f' b' : ℕ) (best' : Best) → length fl' ≡ length fl → length bl' ≡ length bl →
          length fh' ≡ length fh → length bh' ≡ length bh →
          Rounded n ranks fs fm fw bs bm bw fl bl fh bh base f b best fl' bl' fh' bh' f' b' best' →
          Going fl' bl' fh' bh' f' b' best' (left - 1)
      unfolding rounding
      going_on fl' bl' fh' bh' f' b' best' a c d e r =
          let is = r.is rounding in
          let one : left ≡ suc (left - 1) = omega (arith, some_fuel) in
          record {
            both = rw is at (round_keeps n h t.rounding.rules t.rounding.sources t.rounding.targets (halves n base fl bl fh bh f b best) g.both);
            fwd = r.fwd;
            bwd = r.bwd;
            fl_long = a ∙ g.fl_long;
            bl_long = c ∙ g.bl_long;
            fh_long = d ∙ g.fh_long;
            bh_long = e ∙ g.bh_long;
            fwd_stamps = λ n before. r.fwd_stamps n (g.fwd_stamps n before);
            bwd_stamps = λ n before. r.bwd_stamps n (g.bwd_stamps n before);
            enough = rw is at fewer_fuel;
            same =
                ap (rounds h (left - 1)) (sym is)
                ∙ sym (rounds_on h (left - 1) (halves n base fl bl fh bh f b best) more)
                ∙ ap (λ (k : ℕ). rounds h k (halves n base fl bl fh bh f b best)) (sym one)
                ∙ g.same;
          }

    pub done : f + b ≤ 0 →
        rounds h fuel (halves n base fl₀ bl₀ fh₀ bh₀ f₀ b₀ best₀) ≡ halves n base fl bl fh bh 0 0 best
    done none =
        let ef : f ≡ 0 = omega arith in
        let eb : b ≡ 0 = omega arith in
        sym g.same
        ∙ rounds_end h left (halves n base fl bl fh bh f b best)
        (none_left (half n base fl fh f).heap (half n base bl bh b).heap (omega (arith, sizes)))
        ∙ (λ j. halves n base fl bl fh bh (ef j) (eb j) best)
