-- A node is settled: its label stays while its entries are offered along.
use mathlib.Core.Bool.{false}
use mathlib.Core.List.{List}
use mathlib.Core.Path.{◌≡◌, sym, ap, ◌∙◌}
use Prim.Native.Nat.{ℕ, ◌+◌, ◌-◌, ◌<◌, ◌≤◌}
use native.Mathlib.Decide.{dec_lt}
use native.Mathlib.Omega.{arith}
use lib.Dec.{ltb}
use lib.ListN.{length}
use borrow.Author.Tests.{lt-ltb, le-ltb, ltb-true, ltb-false}
use Rattle.rules.specs.Numbers.{no_weight}
use Rattle.rules.specs.Lists.{range}
use Rattle.rules.specs.Columns.{Table}
use Rattle.rules.specs.Query.{Best, improve, Label, no_label, Half, mark_settled}
use Rattle.rules.proofs.Cases.{on_test}
use Rattle.heap.specs.Items.{pair}
use Rattle.query_laws.proofs.Offers.{falls, after_relax}
use Rattle.halves.specs.Labels.{stamp, Keeps, seen, half, put_settled}
use Rattle.halves.specs.Promises.{Reads, Relaxes}
use Rattle.halves.proofs.Labels.{label_in, settled_keeps, half_settled}
use Rattle.turns.specs.Turning.{best, Settling, Settles}

-- the code's two ways to say that a sum is less
pub less_not : (l e w : ℕ) → w ≤ l → false ≡ ltb (l + e) w
less_not l e w h = sym (le-ltb (l + e) w (omega arith))

pub less_by : (l e w : ℕ) → l < w → ltb e (w - l) ≡ ltb (l + e) w
less_by l e w h =
    on_test (ltb (l + e) w)
    (λ t. rw t (lt-ltb e (w - l) (omega (arith, ltb-true (l + e) w t))))
    (λ t. rw t (le-ltb e (w - l) (omega (arith, ltb-false (l + e) w t))))

pub improves : (sum v : ℕ) (b : Best) → sum < b.sum → best sum v ≡ improve sum v b
unfolding improve
improves sum v b h = rw (lt-ltb sum b.sum h, improve)

pub improves_not : (sum v : ℕ) (b : Best) → b.sum ≤ sum → b ≡ improve sum v b
unfolding improve
improves_not sum v b h = rw (le-ltb sum b.sum h, improve)

-- a label that is lighter than the mark is of this query
stamped : (labels : List ℕ) (base v : ℕ) → (seen labels base v).weight < no_weight → base ≤ stamp labels v
unfolding seen no_label
stamped labels base v light =
    elim (dec_lt (stamp labels v) base) [
      | yes h ↦ absurd (omega (arith, rw (lt-ltb (stamp labels v) base h, seen) at light))
      | no h ↦ omega arith
    ]

pub settles : (neighbours weights labels heap labels' heap' : List ℕ) (base len r v weight begin end : ℕ) →
    Settling neighbours weights labels heap base len v weight begin end → length labels' ≡ length labels →
    Relaxes neighbours weights labels heap labels' heap' base len r v weight begin end →
    Settles neighbours weights labels heap (put_settled labels' base v) heap' base len r v weight begin end
unfolding half
settles neighbours weights labels heap labels' heap' base len r v weight begin end s long a =
    record {
      half_is = λ n t below reads.
          half_settled n labels' heap' base r v below (omega (arith, s.label_room, long)) (stamped labels' base v (light n t below reads))
          ∙ ap (mark_settled v) (a.half_is n t reads);
      ordered = a.ordered;
      most = a.most;
      stamps = λ n before. settled_keeps labels' base v (omega (arith, s.label_room, long)) n (a.stamps n before);
    }
  where
    light : (n : ℕ) (t : Table) → v < n → Reads n t neighbours weights begin end → (seen labels' base v).weight < no_weight
    light n t below reads =
        let x = half n base labels heap len in
        let fall = falls (after_relax t (pair weight v) (range begin end) x) v in
        let now = ap (λ (q : Half). (q.label v).weight) (a.half_is n t reads) in
        let was = ap (λ (l : Label). l.weight) (label_in n base v labels below) in
        let is = ap (λ (l : Label). l.weight) (label_in n base v labels' below) in
        omega (arith, s.labelled, fall, now, was, is)

-- from labels that are those of the start
pub settled_stamps : {neighbours weights now labels heap labels' heap' : List ℕ} {base len r v weight begin end : ℕ} → now ≡ labels →
    Settles neighbours weights now heap labels' heap' base len r v weight begin end → Keeps base labels labels'
settled_stamps same a = rw same at a.stamps
