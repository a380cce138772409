-- Marks by which a number that is told twice is seen at its second place: what stands at a number's mark, and at whose turn.
use mathlib.Core.List.{List}
use mathlib.Core.Path.{◌≡◌, refl, sym, ◌∙◌}
use Prim.Native.Nat.{ℕ, zero, suc, ◌+◌, ◌≤◌, ◌<◌}
use native.Mathlib.Omega.{arith}
use native.Mathlib.Decide.{dec_lt, ℕ_discrete}
use lib.ListN.{get_or, set, replicate, length-set}
use lib.Seq.{get_or-set_same, get_or-set_other}
use Rattle.rules.specs.Lists.{TellsApart}
use Rattle.tables.specs.Shapes.{Earlier}

-- a mark that stands everywhere
pub everywhere : (k n u : ℕ) → get_or (replicate n k) u k ≡ k
everywhere k zero u = refl
everywhere k (suc n) zero = refl
everywhere k (suc n) (suc u) = everywhere k n u

-- Each place from a on tells a number, and the mark of this turn is k.
module _ (f : ℕ → ℕ) (k a : ℕ) where
  -- after the places before e: a number has the mark exactly if one of them tells it
  pub record Marked (e : ℕ) (marks : List ℕ) : Type 0 where
    pub most : Earlier (k + 1) marks
    pub marked : (d : ℕ) → a ≤ d → d < e → get_or marks (f d) 0 ≡ k
    pub told : (u : ℕ) → get_or marks u 0 ≡ k → (d : ℕ) × (a ≤ d) × (d < e) × (f d ≡ u)

  pub none_marked : (marks : List ℕ) → Earlier k marks → Marked a marks
  none_marked marks early =
      record {
        most = record { long = early.long; each = λ u. omega (arith, early.each u) };
        marked = λ d low high. absurd (omega arith);
        told = λ u is. absurd (omega (arith, early.each u));
      }

  module _ (e : ℕ) (marks : List ℕ) (low : a ≤ e) (m : Marked e marks) where
    pub twice : (b : ℕ) → e < b → get_or marks (f e) 0 ≡ k → TellsApart f a b → ⊥
    twice b high is apart =
        let w = m.told (f e) is in
        omega (arith, w.2, apart w.0 e w.1 (omega (arith, w.2)) low high w.3)

    pub one_more : (get_or marks (f e) 0 ≡ k → ⊥) → TellsApart f a e → TellsApart f a (e + 1)
    one_more other apart d c dl dh cl ch same =
        elim (dec_lt d e) [
          | yes before ↦
              elim (dec_lt c e) [
                | yes both ↦ apart d c dl before cl both same
                | no last ↦
                    let is : c ≡ e = omega arith in
                    absurd (other (rw is at (rw same at (m.marked d dl before))))
              ]
          | no after ↦
              elim (dec_lt c e) [
                | yes first ↦
                    let is : d ≡ e = omega arith in
                    absurd (other (rw is at (rw (sym same) at (m.marked c cl first))))
                | no both ↦ omega arith
              ]
        ]

    pub mark_more : f e < 1024 → Marked (e + 1) (set marks (f e) k)
    mark_more inside =
        record {
          most =
              record {
                long = length-set marks (f e) k ∙ m.most.long;
                each =
                    λ u.
                    elim (ℕ_discrete u (f e)) [
                      | yes is ↦ omega (arith, at_mark u is)
                      | no other ↦ omega (arith, beside u other, m.most.each u)
                    ];
              };
          marked =
              λ d dl dh.
              elim (ℕ_discrete (f d) (f e)) [
                | yes is ↦ at_mark (f d) is
                | no other ↦
                    beside (f d) other ∙
                    m.marked d dl (elim (dec_lt d e) [ yes before ↦ before | no after ↦ absurd (other (rw (same_place d dh after))) ])
              ];
          told =
              λ u is.
              elim (ℕ_discrete u (f e)) [
                | yes here ↦ (e, low, omega arith, sym here)
                | no other ↦ let w = m.told u (sym (beside u other) ∙ is) in (w.0, w.1, omega (arith, w.2), w.3)
              ];
        }
      where
        at_mark : (u : ℕ) → u ≡ f e → get_or (set marks (f e) k) u 0 ≡ k
        at_mark u is = rw is (get_or-set_same marks (f e) k 0 (omega (arith, m.most.long)))

        beside : (u : ℕ) → (u ≡ f e → ⊥) → get_or (set marks (f e) k) u 0 ≡ get_or marks u 0
        beside u other = get_or-set_other marks (f e) u k 0 other

        same_place : (d : ℕ) → d < e + 1 → (d < e → ⊥) → d ≡ e
        same_place d high not = omega arith
