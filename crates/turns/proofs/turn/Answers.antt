-- A turn. The outer invariant: labels and best are as at the start, since the item that changes them ends the turn, and what is
-- left of the turn, from here, is the whole of it. The inner one: what is left of the scan decides as all of it.
use mathlib.Core.Path.{refl, sym, ap, ◌∙◌}
use Prim.Native.Nat.{ℕ, ◌+◌, ◌-◌, ◌<◌}
use native.Mathlib.Omega.{arith}
use borrow.Author.Tests.{lt-ltb, le-ltb}
use lib.Dec.{ltb}
use lib.ListN.{length, get_or}
use Rattle.rules.specs.Lists.{range}
use Rattle.rules.specs.Query.{improve}
use Rattle.halves.specs.Labels.{stamp, seen, half}
use Rattle.halves.proofs.Slices.{kept_all, kept_on, heap_kept}
use Rattle.turns.specs.declared.Best.{Best as Held}
use Rattle.turns.specs.Turning.{of}
use Rattle.turns.proofs.Reading.{lower_by, hit, miss, none_left}
use Rattle.turns.proofs.Turning.{going_first, done_empty, starts_long, other_starts_long, ranks_long, scan_neighbour, scan_weight, scan_label, node_below, label_fits, facing_fits, node_small, meeting_fits, next_settled, done_heavy, next_stalled, settling, done_settles}
use Rattle.turns.proofs.Settling.{settled_stamps}
use Rattle.turns.proofs.turn.Goals as goal
use Rattle.turns.proofs.turn.Goals.{After-pop-top}

-- the node of the item is one
inside : (p : After-pop-top) → p.pop-top.result.node < p.args.t.now.num_nodes
inside p =
    node_below _ _ _ _ _ _ _ _ _ _ _ _ _ (of p.args.best) p.requires.1 _ _ (p.outer.invariant.3 p.requires.1) p.outer-test.true _ _ p.pop-top.ensures

pub outer-init : goal.outer-init
outer-init c = (refl, refl, kept_all _, λ t. going_first _ _ _ _ _ _ _ _ _ _ _ _ _ (of c.args.best) t)

pub pop-top-requires : goal.pop-top-requires
pop-top-requires c = let g = c.outer.invariant.3 c.requires.1 in (c.outer-test.true, g.held, g.ordered)

pub is_settled-requires : goal.is_settled-requires
is_settled-requires c = omega (arith, label_fits _ _ _ _ _ _ _ _ _ _ _ _ _ (of c.args.best) c.requires.1 _ _ (c.outer.invariant.3 c.requires.1) c.outer-test.true _ _ c.pop-top.ensures, ap length c.outer.invariant.0)

pub outer-preserved-then-is_settled : goal.outer-preserved-then-is_settled
outer-preserved-then-is_settled c = (c.outer.invariant.0, c.outer.invariant.1, heap_kept c.outer.invariant.2 refl refl c.pop-top.ensures.long refl, λ t. next_settled _ _ _ _ _ _ _ _ _ _ _ _ _ (of c.args.best) (t) _ _ (c.outer.invariant.3 (t)) c.outer-test.true _ _ c.pop-top.ensures ((λ j. ltb (sym c.outer.invariant.2.base j) (stamp (sym c.outer.invariant.0 j) c.pop-top.result.node)) ∙ sym c.is_settled.ensures ∙ c.if-is_settled.true))

pub offset_bounds-t-v : goal.offset_bounds-t-v
offset_bounds-t-v c = omega (arith, ranks_long _ _ _ _ _ _ _ _ _ _ _ _ _ (of c.args.best) c.requires.1 _ (inside (goal.at.offset_bounds-t-v c).After-pop-top))

pub bounds-t-v : goal.bounds-t-v
bounds-t-v c = ranks_long _ _ _ _ _ _ _ _ _ _ _ _ _ (of c.args.best) c.requires.1 _ (inside (goal.at.bounds-t-v c).After-pop-top)

pub bounds-t-r : goal.bounds-t-r
bounds-t-r c = omega (arith, other_starts_long _ _ _ _ _ _ _ _ _ _ _ _ _ (of c.args.best) c.requires.1 _ (inside (goal.at.bounds-t-r c).After-pop-top))

pub bounds-t-r-in-outer : goal.bounds-t-r-in-outer
bounds-t-r-in-outer c = other_starts_long _ _ _ _ _ _ _ _ _ _ _ _ _ (of c.args.best) c.requires.1 _ (inside (goal.at.bounds-t-r-in-outer c).After-pop-top)

pub loop-e-init : goal.loop-e-init
loop-e-init c = refl

pub bounds-t-e : goal.bounds-t-e
bounds-t-e c = scan_neighbour _ _ _ _ _ _ _ _ _ _ _ _ _ (of c.args.best) c.requires.1 _ (inside (goal.at.bounds-t-e c).After-pop-top) c.loop-e.e (omega arith) (omega arith)

pub get_weight-requires : goal.get_weight-requires
get_weight-requires c = omega (arith, scan_label _ _ _ _ _ _ _ _ _ _ _ _ _ (of c.args.best) c.requires.1 _ (inside (goal.at.get_weight-requires c).After-pop-top) c.loop-e.e (omega arith) (omega arith), ap length c.outer.invariant.0)

pub bounds-t-e-in-loop-e : goal.bounds-t-e-in-loop-e
bounds-t-e-in-loop-e c = scan_weight _ _ _ _ _ _ _ _ _ _ _ _ _ (of c.args.best) c.requires.1 _ (inside (goal.at.bounds-t-e-in-loop-e c).After-pop-top) c.loop-e.e (omega arith) (omega arith)

pub outer-preserved : goal.outer-preserved
outer-preserved c = (
  c.outer.invariant.0,
  c.outer.invariant.1,
  heap_kept c.outer.invariant.2 refl refl c.pop-top.ensures.long refl,
  λ t.
      next_stalled _ _ _ _ _ _ _ _ _ _ _ _ _ (of c.args.best) (t) _ _ (c.outer.invariant.3 (t)) c.outer-test.true _ _ c.pop-top.ensures ((λ j. ltb (sym c.outer.invariant.2.base j) (stamp (sym c.outer.invariant.0 j) c.pop-top.result.node)) ∙ sym c.is_settled.ensures ∙ c.if-is_settled.false) (le-ltb c.args.best.sum c.pop-top.result.weight (omega (arith, c.if-best-weight.false, ap (λ (x : Held). x.sum) c.outer.invariant.1)))
      ((λ j. lower_by (sym c.outer.invariant.0 j) (sym c.outer.invariant.2.base j) c.args.t.now.other.neighbours.now c.args.t.now.other.weights.now c.pop-top.result.weight (range (get_or c.args.t.now.other.starts.now (get_or c.args.t.now.ranks.now c.pop-top.result.node 0) 0) (get_or c.args.t.now.other.starts.now ((get_or c.args.t.now.ranks.now c.pop-top.result.node 0) + 1) 0))) ∙ sym c.loop-e.invariant ∙ hit _ _ _ _ _ _ _ (omega arith) (ap (λ (w : ℕ). ltb (w + get_or c.args.t.now.other.weights.now c.loop-e.e 0) c.pop-top.result.weight) (sym c.get_weight.ensures) ∙ sym c.less.ensures ∙ c.if-less.true)),
)

pub loop-e-preserved : goal.loop-e-preserved
loop-e-preserved c = miss _ _ _ _ _ _ _ (omega arith) (ap (λ (w : ℕ). ltb (w + get_or c.args.t.now.other.weights.now c.loop-e.e 0) c.pop-top.result.weight) (sym c.get_weight.ensures) ∙ sym c.less.ensures ∙ c.if-less.false) ∙ c.loop-e.invariant

pub bounds-t-r-in-outer-2 : goal.bounds-t-r-in-outer-2
bounds-t-r-in-outer-2 c = omega (arith, starts_long _ _ _ _ _ _ _ _ _ _ _ _ _ (of c.args.best) c.requires.1 _ (inside (goal.at.bounds-t-r-in-outer-2 c).After-pop-top))

pub bounds-t-r-in-outer-3 : goal.bounds-t-r-in-outer-3
bounds-t-r-in-outer-3 c = starts_long _ _ _ _ _ _ _ _ _ _ _ _ _ (of c.args.best) c.requires.1 _ (inside (goal.at.bounds-t-r-in-outer-3 c).After-pop-top)

pub settle-requires : goal.settle-requires
settle-requires c = rw (c.outer.invariant.0, c.outer.invariant.2.base) (settling _ _ _ _ _ _ _ _ _ _ _ _ _ (of c.args.best) c.requires.1 _ _ (c.outer.invariant.3 c.requires.1) c.outer-test.true _ _ c.pop-top.ensures ((λ j. ltb (sym c.outer.invariant.2.base j) (stamp (sym c.outer.invariant.0 j) c.pop-top.result.node)) ∙ sym c.is_settled.ensures ∙ c.if-is_settled.false) (le-ltb c.args.best.sum c.pop-top.result.weight (omega (arith, c.if-best-weight.false, ap (λ (x : Held). x.sum) c.outer.invariant.1))))

pub meet-best-requires : goal.meet-best-requires
meet-best-requires c = (facing_fits _ _ _ _ _ _ _ _ _ _ _ _ _ (of c.args.best) c.requires.1 _ _ (c.outer.invariant.3 c.requires.1) c.outer-test.true _ _ c.pop-top.ensures, node_small _ _ _ _ _ _ _ _ _ _ _ _ _ (of c.args.best) c.requires.1 _ _ (c.outer.invariant.3 c.requires.1) c.outer-test.true _ _ c.pop-top.ensures, rw c.requires.0 (meeting_fits _ _ _ _ _ _ _ _ _ _ _ _ _ (of c.args.best) c.requires.1 _ _ (c.outer.invariant.3 c.requires.1) c.outer-test.true _ _ c.pop-top.ensures))

pub returns-after-outer : goal.returns-after-outer
returns-after-outer c =
    record {
      turns = record {
        turned = λ t y a. done_empty _ _ _ _ _ _ _ _ _ _ _ _ _ (of c.args.best) t _ _ (c.outer.invariant.3 t) c.outer-test.false y ∙ (λ j. record { half = half c.args.t.now.num_nodes c.args.half.now.base (sym c.outer.invariant.0 j) c.outer.half.heap.now c.outer.half.len; best = of (sym c.outer.invariant.1 j) });
        ordered = (c.outer.invariant.3 c.requires.1).ordered;
        held = (c.outer.invariant.3 c.requires.1).held;
        stamps = rw c.outer.invariant.0 (λ n before. before);
      };
      kept = c.outer.invariant.2;
    }

pub returns-then-best-weight : goal.returns-then-best-weight
returns-then-best-weight c =
    let p = c.pop-top.ensures in
    record {
      turns = record {
        turned = λ t y a.
            done_heavy _ _ _ _ _ _ _ _ _ _ _ _ _ (of c.args.best) (t) _ _ (c.outer.invariant.3 (t)) c.outer-test.true _ _ c.pop-top.ensures ((λ j. ltb (sym c.outer.invariant.2.base j) (stamp (sym c.outer.invariant.0 j) c.pop-top.result.node)) ∙ sym c.is_settled.ensures ∙ c.if-is_settled.false) (lt-ltb c.args.best.sum c.pop-top.result.weight (omega (arith, c.if-best-weight.true, ap (λ (x : Held). x.sum) c.outer.invariant.1))) y
            ∙ (λ j. record { half = half c.args.t.now.num_nodes c.args.half.now.base (sym c.outer.invariant.0 j) c.pop-top.new.heap (c.outer.half.len - 1); best = of (sym c.outer.invariant.1 j) });
        ordered = p.ordered;
        held = omega (arith, p.long, (c.outer.invariant.3 c.requires.1).held);
        stamps = rw c.outer.invariant.0 (λ n before. before);
      };
      kept = heap_kept c.outer.invariant.2 refl refl c.pop-top.ensures.long refl;
    }

pub returns-after-loop-e : goal.returns-after-loop-e
returns-after-loop-e c =
    let room = (settling _ _ _ _ _ _ _ _ _ _ _ _ _ (of c.args.best) c.requires.1 _ _ (c.outer.invariant.3 c.requires.1) c.outer-test.true _ _ c.pop-top.ensures ((λ j. ltb (sym c.outer.invariant.2.base j) (stamp (sym c.outer.invariant.0 j) c.pop-top.result.node)) ∙ sym c.is_settled.ensures ∙ c.if-is_settled.false) (le-ltb c.args.best.sum c.pop-top.result.weight (omega (arith, c.if-best-weight.false, ap (λ (x : Held). x.sum) c.outer.invariant.1)))).relaxing.heap_room in
    let met = ap (λ (x : Held). improve (c.pop-top.result.weight + (seen c.args.facing.now.labels.now c.args.half.now.base c.pop-top.result.node).weight) c.pop-top.result.node (of x)) (sym c.outer.invariant.1) ∙ sym (rw c.requires.0 at c.meet-best.ensures) in
    record {
      turns = record {
        turned = λ t y a.
            done_settles _ _ _ _ _ _ _ _ _ _ _ _ _ (of c.args.best) (t) _ _ (c.outer.invariant.3 (t)) c.outer-test.true _ _ c.pop-top.ensures ((λ j. ltb (sym c.outer.invariant.2.base j) (stamp (sym c.outer.invariant.0 j) c.pop-top.result.node)) ∙ sym c.is_settled.ensures ∙ c.if-is_settled.false) (le-ltb c.args.best.sum c.pop-top.result.weight (omega (arith, c.if-best-weight.false, ap (λ (x : Held). x.sum) c.outer.invariant.1)))
            ((λ j. lower_by (sym c.outer.invariant.0 j) (sym c.outer.invariant.2.base j) c.args.t.now.other.neighbours.now c.args.t.now.other.weights.now c.pop-top.result.weight (range (get_or c.args.t.now.other.starts.now (get_or c.args.t.now.ranks.now c.pop-top.result.node 0) 0) (get_or c.args.t.now.other.starts.now ((get_or c.args.t.now.ranks.now c.pop-top.result.node 0) + 1) 0))) ∙ sym c.loop-e.invariant ∙ none_left _ _ _ _ _ _ _ (omega arith))
            c.outer.invariant.0 _ _ _ (rw c.outer.invariant.2.base at c.settle.ensures.settles) y a
            ∙ (λ j. record { half = half c.args.t.now.num_nodes c.args.half.now.base c.settle.new.half.labels.now c.settle.new.half.heap.now c.settle.new.half.len; best = met j });
        ordered = (rw c.outer.invariant.2.base at c.settle.ensures.settles).ordered;
        held = omega (arith, (rw c.outer.invariant.2.base at c.settle.ensures.settles).most, room, c.settle.ensures.kept.heap);
        stamps = settled_stamps c.outer.invariant.0 (rw c.outer.invariant.2.base at c.settle.ensures.settles);
      };
      kept = kept_on (heap_kept c.outer.invariant.2 refl refl c.pop-top.ensures.long refl) c.settle.ensures.kept;
    }
