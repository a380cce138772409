-- Offers along a stretch of entries, one after the other.
use mathlib.Core.List.{List, [], ◌∷◌}
use mathlib.Core.Path.{◌≡◌, refl, sym, ap, ◌∙◌}
use Prim.Native.Nat.{ℕ, suc, ◌+◌, ◌-◌, ◌<◌, ◌≤◌}
use native.Mathlib.Numerals.{add-one}
use native.Mathlib.Omega.{arith}
use lib.ListN.{length, get_or}
use Rattle.rules.specs.Lists.{range, count_from}
use Rattle.rules.specs.Columns.{Table}
use Rattle.rules.specs.Query.{offer, relax}
use Rattle.heap.specs.Items.{pair, items}
use Rattle.heap.specs.Shape.{Ordered}
use Rattle.halves.specs.Labels.{label, Keeps, half}
use Rattle.halves.specs.Promises.{Offering, Offers, Relaxing, Reads, Relaxes}

pub range_on : (a b : ℕ) → a < b → range a b ≡ a ∷ range (a + 1) b
unfolding range count_from
range_on a b h =
    let e : b - a ≡ suc (b - (a + 1)) = omega arith in
    rw (e, add-one a)

pub range_done : (a b : ℕ) → b ≤ a → range a b ≡ []
unfolding range count_from
range_done a b h =
    let e : b - a ≡ 0 = omega arith in
    rw e

module _ (neighbours weights labels₀ heap₀ : List ℕ) (base len₀ node weight begin end : ℕ)
    (given : Relaxing neighbours weights labels₀ heap₀ len₀ weight begin end) where
  -- the offers from entry e on, from here, are those from the first on, from the start
  pub record Going (labels heap : List ℕ) (len e : ℕ) : Type 0 where
    pub low : begin ≤ e
    pub labels_long : length labels ≡ length labels₀
    pub heap_long : length heap ≡ length heap₀
    pub ordered : Ordered (items heap len)
    pub stamps : Keeps base labels₀ labels
    pub most : len + (end - e) ≤ len₀ + (end - begin)
    pub same : (n : ℕ) (t : Table) → Reads n t neighbours weights begin end →
        relax t (pair weight node) (range e end) (half n base labels heap len) ≡
        relax t (pair weight node) (range begin end) (half n base labels₀ heap₀ len₀)

  pub going_first : Going labels₀ heap₀ len₀ begin
  going_first =
      record {
        low = omega arith;
        labels_long = refl;
        heap_long = refl;
        ordered = given.ordered;
        stamps = λ n before. before;
        most = omega arith;
        same = λ n t r. refl;
      }

  module _ (labels heap : List ℕ) (len e : ℕ) (g : Going labels heap len e) (more : e < end) where
    pub offering : Offering labels heap len (get_or neighbours e 0)
    offering =
        record {
          label_room = omega (arith, given.label_room e g.low more, g.labels_long);
          heap_room = omega (arith, given.heap_room, g.heap_long, g.most);
          ordered = g.ordered;
        }

    pub going_on : (labels' heap' : List ℕ) (r : ℕ) → length labels' ≡ length labels → length heap' ≡ length heap →
        Offers labels heap labels' heap' base len r (get_or neighbours e 0) (label (weight + get_or weights e 0) node e) →
        Going labels' heap' r (e + 1)
    unfolding relax
    going_on labels' heap' r long long' o =
        record {
          low = omega (arith, g.low);
          labels_long = long ∙ g.labels_long;
          heap_long = long' ∙ g.heap_long;
          ordered = o.ordered;
          stamps = λ n before. o.stamps n (g.stamps n before);
          most = omega (arith, o.one_more, g.most);
          same = λ n t reads.
              let x = half n base labels heap len in
              let v = sym (reads.neighbour e g.low more) in
              let w = sym (reads.weight e g.low more) in
              let read : relax t (pair weight node) (range (e + 1) end)
              (offer (get_or neighbours e 0) (label (weight + get_or weights e 0) node e) x) ≡ relax t (pair weight node) (e ∷ range (e + 1) end) x =
              λ k. relax t (pair weight node) (range (e + 1) end) (offer (v k) (label (weight + w k) node e) x) in
              ap (relax t (pair weight node) (range (e + 1) end)) (o.half_is n (reads.below e g.low more))
              ∙ read
              ∙ ap (λ es. relax t (pair weight node) es x) (sym (range_on e end more))
              ∙ g.same n t reads;
        }

  pub relaxes : (labels heap : List ℕ) (len e : ℕ) → Going labels heap len e → end ≤ e →
      Relaxes neighbours weights labels₀ heap₀ labels heap base len₀ len node weight begin end
  unfolding relax
  relaxes labels heap len e g done =
      record {
        half_is = λ n t reads. rw (range_done e end done) at (g.same n t reads);
        ordered = g.ordered;
        stamps = g.stamps;
        most = omega (arith, g.most);
      }
