-- What an accepted query brings; that its search starts sound, stays so, and ends with both heaps empty.
use mathlib.Core.Path.{◌≡◌, refl, ap}
use mathlib.Core.Logic.{◌⊎◌, inl, inr}
use mathlib.Core.Bool.{true, ◌&&◌}
use mathlib.Core.List.Memᴰ
use mathlib.Core.List.{List, [], ◌∷◌}
use Prim.Native.Nat.{ℕ, ◌+◌, ◌≤◌, ◌<◌}
use native.Mathlib.Omega.{arith}
use lib.Dec.{eqb, ltb, leb}
use lib.ListN.{length}
use borrow.Author.Tests.{ltb-true, ltb-false, leb-true, eqb-true, not-false}
use Rattle.rules.specs.Numbers.{max_ends, max_weight, no_weight}
use Rattle.rules.specs.Lists.{In, all}
use Rattle.rules.specs.Columns.{forward, backward, table, Ends}
use Rattle.rules.specs.Refusals.{QueryCall, ends_fit, offset_fits, check_rows, end_rows, query_refusal, short, query_scratch}
use Rattle.rules.specs.Query.{End, zip_ends, end_list, counts, Best, coincide, coincide_all, first_step, Half, untouched, enter, query_fuel, entered, searched}
use Rattle.rules.proofs.Decides.{and_both, or_either}
use Rattle.rules.proofs.TablesDecided.{tables_decided}
use Rattle.rules.proofs.Cases.{on_test, not_both, neither}
use Rattle.rules.proofs.Members.{all_each}
use Rattle.rules.proofs.Rows.{not_met}
use Rattle.query_laws.specs.Accepted.{EndsRules, Accepted}
use Rattle.query_laws.specs.Sound.{weight_at, Sound, Met, no_best, Both}
use Rattle.query_laws.proofs.State.{first_sound, enter_unsettled}
use Rattle.query_laws.proofs.Turns.{improve_cases, rounds_keep, rounds_finish}

zipped_in : (vs os : List ℕ) (e : End) → In e (zip_ends vs os) → In e.node vs × In e.offset os
unfolding zip_ends
zipped_in [] os e m = absurd (Memᴰ.not-nil m)
zipped_in (v ∷ vs) [] e m = absurd (Memᴰ.not-nil m)
zipped_in (v ∷ vs) (o ∷ os) e m =
    elim (Memᴰ.cases_cons m) [
      | inl here ↦ (Memᴰ.head (ap (λ (x : End). x.node) here), Memᴰ.head (ap (λ (x : End). x.offset) here))
      | inr later ↦ let r = zipped_in vs os e later in (Memᴰ.tail r.0, Memᴰ.tail r.1)
    ]

zipped_length : (vs os : List ℕ) → length (zip_ends vs os) ≤ length vs
unfolding zip_ends
zipped_length [] os = omega arith
zipped_length (v ∷ vs) [] = omega arith
zipped_length (v ∷ vs) (o ∷ os) = omega (arith, zipped_length vs os)

offset_fitting : (w : ℕ) → offset_fits w ≡ true → (w ≤ max_weight) ⊎ (w ≡ no_weight)
unfolding offset_fits
offset_fitting w t =
    elim (or_either (leb w max_weight) (eqb w no_weight) t) [
      | inl low ↦ inl (leb-true w max_weight low)
      | inr mark ↦ inr (eqb-true w no_weight mark)
    ]

ends_rules : (n : ℕ) (e : Ends) → ends_fit e ≡ true → all (λ v. ltb v n) e.nodes ≡ true → all offset_fits e.offsets ≡ true → EndsRules n e
unfolding ends_fit end_list
ends_rules n e fit below fits =
    let three = and_both (leb 1 (length e.nodes) && leb (length e.nodes) max_ends) (eqb (length e.offsets) (length e.nodes)) fit in
    let two = and_both (leb 1 (length e.nodes)) (leb (length e.nodes) max_ends) three.0 in
    record {
      some = leb-true 1 (length e.nodes) two.0;
      few = leb-true (length e.nodes) max_ends two.1;
      columns = eqb-true (length e.offsets) (length e.nodes) three.1;
      each = λ x m.
          let z = zipped_in e.nodes e.offsets x m in
          record {
            node_below = ltb-true x.node n (all_each (λ v. ltb v n) e.nodes below x.node z.0);
            fits = offset_fitting x.offset (all_each offset_fits e.offsets fits x.offset z.1);
          };
      listed = zipped_length e.nodes e.offsets;
    }

pub accepted : (q : QueryCall) → query_refusal q ≡ 0 → Accepted q
unfolding query_refusal check_rows end_rows
accepted q e =
    let p20 = not_met 19 _ _ e in
    let p21 = not_met 20 _ _ p20.1 in
    let p22 = not_met 21 _ _ p21.1 in
    let p23 = not_met 22 _ _ p22.1 in
    let p24 = not_met 23 _ _ p23.1 in
    let fit = and_both (ends_fit q.sources) (ends_fit q.targets) (not-false _ p21.0) in
    let below = and_both (all (λ v. ltb v q.nodes) q.sources.nodes) (all (λ v. ltb v q.nodes) q.targets.nodes) (not-false _ p22.0) in
    let fits = and_both (all offset_fits q.sources.offsets) (all offset_fits q.targets.offsets) (not-false _ p23.0) in
    let lent = neither (ltb (length q.path) q.nodes) (short (query_scratch q.nodes q.hierarchy) q.scratch) p24.0 in
    record {
      rules = (tables_decided q.nodes q.hierarchy).0 (not-false _ p20.0);
      sources = ends_rules q.nodes q.sources fit.0 below.0 fits.0;
      targets = ends_rules q.nodes q.targets fit.1 below.1 fits.1;
      path_room = ltb-false (length q.path) q.nodes lent.0;
      scratch_room = lent.1;
    }

-- The first step's best sum is no less than what the entering labels of its node make.
module _ (n : ℕ) (x y : Half) where
  abbrev Real : Best → Type 0
  Real b = (b ≡ no_best) ⊎ Met n x y b

  real_at_most : (b : Best) → Real b → b.sum ≤ no_weight
  real_at_most b r = elim r [ inl mark ↦ omega (arith, ap (λ (c : Best). c.sum) mark) | inr m ↦ omega (arith, m.set) ]

  coincide_real : (s t : End) (b : Best) → t.node < n → weight_at x s.node ≤ s.offset → weight_at y t.node ≤ t.offset → Real b →
      Real (coincide s t b)
  unfolding coincide
  coincide_real s t b below cs ct r =
      on_test (eqb s.node t.node && counts s && counts t)
      (λ e.
      let same = eqb-true s.node t.node (and_both (eqb s.node t.node) (counts s) (and_both (eqb s.node t.node && counts s) (counts t) e).0).0 in
      rw (e, coincide)
      (elim (improve_cases (s.offset + t.offset) t.node b) [
        | inl new ↦
            rw new.1
            (inr
            (record {
              node_below = below;
              set = omega (arith, new.0, real_at_most b r);
              enough = omega (arith, ct, rw same at cs);
            }))
        | inr old ↦ rw old.1 r
      ]))
      (λ e. rw (e, coincide) r)

  coincide_all_real : (s : End) (ts : List End) (b : Best) → weight_at x s.node ≤ s.offset →
      ((t : End) → In t ts → (t.node < n) × (weight_at y t.node ≤ t.offset)) → Real b → Real (coincide_all s ts b)
  unfolding coincide_all
  coincide_all_real s [] b cs ct r = r
  coincide_all_real s (t ∷ ts) b cs ct r =
      let f = ct t (Memᴰ.head refl) in
      coincide_all_real s ts (coincide s t b) cs (λ u m. ct u (Memᴰ.tail m)) (coincide_real s t b f.0 cs f.1 r)

  first_step_real : (ss ts : List End) (b : Best) → ((s : End) → In s ss → weight_at x s.node ≤ s.offset) →
      ((t : End) → In t ts → (t.node < n) × (weight_at y t.node ≤ t.offset)) → Real b → Real (first_step ss ts b)
  unfolding first_step
  first_step_real [] ts b cs ct r = r
  first_step_real (s ∷ ss) ts b cs ct r =
      first_step_real ss ts (coincide_all s ts b) (λ u m. cs u (Memᴰ.tail m)) ct
      (coincide_all_real s ts b (cs s (Memᴰ.head refl)) ct r)

module _ (c : QueryCall) (a : Accepted c) where
  pub entered_both : Both c.nodes c.hierarchy (end_list c.sources) (end_list c.targets) (entered c)
  unfolding entered
  entered_both =
      record {
        fwd_floor = 0;
        bwd_floor = 0;
        fwd = fwd;
        bwd = bwd;
        meets =
            record {
              low = λ v p q. absurd (not_both _ p (enter_unsettled (end_list c.sources) v));
              real =
                  first_step_real c.nodes (enter (end_list c.sources) untouched) (enter (end_list c.targets) untouched)
                  (end_list c.sources) (end_list c.targets) no_best fwd.covers
                  (λ t m. ((a.targets.each t m).node_below, bwd.covers t m)) (inl refl);
            };
      }
    where
      fwd : Sound c.nodes c.hierarchy forward (end_list c.sources) 0 (entered c).best.sum (enter (end_list c.sources) untouched)
      fwd = first_sound c.nodes c.hierarchy a.rules forward (end_list c.sources) a.sources.each _

      bwd : Sound c.nodes c.hierarchy backward (end_list c.targets) 0 (entered c).best.sum (enter (end_list c.targets) untouched)
      bwd = first_sound c.nodes c.hierarchy a.rules backward (end_list c.targets) a.targets.each _

  pub searched_both : Both c.nodes c.hierarchy (end_list c.sources) (end_list c.targets) (searched c)
  unfolding searched
  searched_both = rounds_keep c.nodes c.hierarchy a.rules (end_list c.sources) (end_list c.targets) (query_fuel c) (entered c) entered_both

  pub searched_empty : ((searched c).fwd.heap ≡ []) × ((searched c).bwd.heap ≡ [])
  unfolding searched query_fuel table
  searched_empty =
      rounds_finish c.nodes c.hierarchy a.rules (end_list c.sources) (end_list c.targets) (query_fuel c) (entered c)
      entered_both (omega (arith, entered_both.fwd.room, entered_both.bwd.room, a.sources.listed, a.targets.listed))
