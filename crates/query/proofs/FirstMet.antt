-- Which row is met first.
use mathlib.Core.Bool.{Bool, true, false, ◌&&◌, ◌||◌}
use mathlib.Core.List.{List, [], ◌∷◌}
use mathlib.Core.Path.{◌≡◌, refl, sym, ◌∙◌}
use Prim.Native.Nat.{ℕ, ◌+◌, ◌*◌, ◌<◌, ◌≤◌}
use native.Mathlib.Omega.{arith}
use lib.Dec.{ltb}
use lib.ListN.{length, get_or}
use borrow.Author.Tests.{lt-ltb, le-ltb}
use Rattle.rules.specs.Numbers.{max_ends}
use Rattle.rules.specs.Lists.{all}
use Rattle.rules.specs.Columns.{Hierarchy, Ends, begin}
use Rattle.rules.specs.TableRules.{used, TableRules, table_test}
use Rattle.rules.specs.Refusals.{QueryCall, first_met, short, ends_fit, offset_fits, check_rows, end_rows, query_scratch, check_refusal, query_refusal}
use Rattle.rules.proofs.Cases.{on_test}
use Rattle.rules.proofs.TablesDecided.{tables_decided}
use Rattle.path_calculator.specs.Searching.{call}
use Rattle.query.specs.Rows.{ends_refusal, room_short}

module _ (n : ℕ) (s t : Ends) where
  pub row_21 : ends_fit s ≡ false → 21 ≡ ends_refusal n s t
  unfolding ends_refusal first_met
  row_21 f = rw f

  module _ (fit : ends_fit s ≡ true) where
    pub row_21_targets : ends_fit t ≡ false → 21 ≡ ends_refusal n s t
    unfolding ends_refusal first_met
    row_21_targets f = rw (fit, f)

    module _ (fit_t : ends_fit t ≡ true) where
      pub row_22 : all (λ v. ltb v n) s.nodes ≡ false → 22 ≡ ends_refusal n s t
      unfolding ends_refusal first_met
      row_22 f = rw (fit, fit_t, f)

      module _ (low : all (λ v. ltb v n) s.nodes ≡ true) where
        pub row_22_targets : all (λ v. ltb v n) t.nodes ≡ false → 22 ≡ ends_refusal n s t
        unfolding ends_refusal first_met
        row_22_targets f = rw (fit, fit_t, low, f)

        module _ (low_t : all (λ v. ltb v n) t.nodes ≡ true) where
          pub row_23 : all offset_fits s.offsets ≡ false → 23 ≡ ends_refusal n s t
          unfolding ends_refusal first_met
          row_23 f = rw (fit, fit_t, low, low_t, f)

          module _ (fits : all offset_fits s.offsets ≡ true) where
            pub row_23_targets : all offset_fits t.offsets ≡ false → 23 ≡ ends_refusal n s t
            unfolding ends_refusal first_met
            row_23_targets f = rw (fit, fit_t, low, low_t, fits, f)

            pub ends_good : all offset_fits t.offsets ≡ true → 0 ≡ ends_refusal n s t
            unfolding ends_refusal first_met
            ends_good f = rw (fit, fit_t, low, low_t, fits, f)

pub or_none : (b : Bool) → b ≡ (b || false)
or_none true = refl
or_none false = refl

module _ (n f b path fl bl fh bh : ℕ) where
  pub path_short : path < n → true ≡ room_short n f b path fl bl fh bh
  unfolding room_short short
  path_short p = rw (lt-ltb path n p)

  module _ (p : n ≤ path) where
    pub fl_short : fl < 4 * n → true ≡ room_short n f b path fl bl fh bh
    unfolding room_short short
    fl_short q = rw (le-ltb path n p, lt-ltb fl (4 * n) q)

    module _ (q : 4 * n ≤ fl) where
      pub bl_short : bl < 4 * n → true ≡ room_short n f b path fl bl fh bh
      unfolding room_short short
      bl_short r = rw (le-ltb path n p, le-ltb fl (4 * n) q, lt-ltb bl (4 * n) r)

      module _ (r : 4 * n ≤ bl) where
        pub fh_short : fh < 2 * (f + max_ends) → true ≡ room_short n f b path fl bl fh bh
        unfolding room_short short
        fh_short u = rw (le-ltb path n p, le-ltb fl (4 * n) q, le-ltb bl (4 * n) r, lt-ltb fh (2 * (f + max_ends)) u)

        pub bh_short : 2 * (f + max_ends) ≤ fh → ltb bh (2 * (b + max_ends)) ≡ room_short n f b path fl bl fh bh
        unfolding room_short short
        bh_short u =
            rw (le-ltb path n p, le-ltb fl (4 * n) q, le-ltb bl (4 * n) r, le-ltb fh (2 * (f + max_ends)) u)
            (or_none (ltb bh (2 * (b + max_ends))))

test_passes : (n : ℕ) (h : Hierarchy) (r : ℕ) → r ≡ check_refusal n h → r ≡ 0 → table_test n h ≡ true
unfolding check_refusal check_rows first_met
test_passes n h r is none = on_test (table_test n h) (λ t. t) (λ f. absurd (omega (arith, rw f at is)))

pub table_rules : (n : ℕ) (h : Hierarchy) (r : ℕ) → r ≡ check_refusal n h → r ≡ 0 → TableRules n h
table_rules n h r is none = (tables_decided n h).0 (test_passes n h r is none)

module _ (n : ℕ) (h : Hierarchy) (sources so targets to path : List ℕ) (fl bl fh bh : ℕ) where
  abbrev c : QueryCall
  c = call n h sources so targets to path (fl ∷ bl ∷ fh ∷ bh ∷ [])

  pub tables_broken : (r : ℕ) → r ≡ check_refusal n h → (r ≡ 0 → ⊥) → r ≡ query_refusal c
  unfolding check_refusal query_refusal check_rows first_met
  tables_broken r is some =
      on_test (table_test n h)
      (λ t. absurd (some (is ∙ rw t)))
      (λ f. is ∙ rw f)

  module _ (r : ℕ) (is : r ≡ check_refusal n h) (none : r ≡ 0) where
    passes : table_test n h ≡ true
    passes = test_passes n h r is none

    pub ends_bad : (k : ℕ) → k ≡ ends_refusal n c.sources c.targets → (k ≡ 0 → ⊥) → k ≡ query_refusal c
    unfolding query_refusal check_rows end_rows ends_refusal first_met
    ends_bad k e some =
        on_test (ends_fit c.sources && ends_fit c.targets)
        (λ p.
        on_test (all (λ v. ltb v n) sources && all (λ v. ltb v n) targets)
        (λ q.
        on_test (all offset_fits so && all offset_fits to)
        (λ u. absurd (some (e ∙ rw (p, q, u))))
        (λ u. e ∙ rw (passes, p, q, u)))
        (λ q. e ∙ rw (passes, p, q)))
        (λ p. e ∙ rw (passes, p))

    module _ (good : 0 ≡ ends_refusal n c.sources c.targets) where
      rest : (x : Bool) → room_short n (get_or h.forward.starts n 0) (get_or h.backward.starts n 0) (length path) fl bl fh bh ≡ x →
          query_refusal c ≡ elim x as (λ _. ℕ) [ true ↦ 24 | false ↦ 0 ]
      unfolding query_refusal check_rows end_rows ends_refusal first_met room_short query_scratch used begin
      rest x e =
          on_test (ends_fit c.sources && ends_fit c.targets)
          (λ p.
          on_test (all (λ v. ltb v n) sources && all (λ v. ltb v n) targets)
          (λ q.
          on_test (all offset_fits so && all offset_fits to)
          (λ u. rw (passes, p, q, u, e))
          (λ u. absurd (omega (arith, rw (p, q, u) at good))))
          (λ q. absurd (omega (arith, rw (p, q) at good))))
          (λ p. absurd (omega (arith, rw p at good)))

      pub room_bad : room_short n (get_or h.forward.starts n 0) (get_or h.backward.starts n 0) (length path) fl bl fh bh ≡ true → 24 ≡ query_refusal c
      room_bad e = sym (rest true e)

      pub room_good : room_short n (get_or h.forward.starts n 0) (get_or h.backward.starts n 0) (length path) fl bl fh bh ≡ false → 0 ≡ query_refusal c
      room_good e = sym (rest false e)
