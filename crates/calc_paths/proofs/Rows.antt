-- Which row the whole call meets first.
use mathlib.Core.Bool.{Bool, true, false}
use mathlib.Core.List.{List, [], ◌∷◌}
use mathlib.Core.Path.{◌≡◌, refl, sym, ap, ◌∙◌}
use Prim.Native.Nat.{ℕ, zero, suc, ◌*◌, ◌/◌, ◌<◌, ◌≤◌}
use native.Mathlib.Nat.{mul-zero, div-lt_iff_lt-mul}
use native.Mathlib.Omega.{arith}
use lib.Dec.{ltb}
use lib.ListN.{length, get_or}
use borrow.Author.Tests.{lt-ltb, le-ltb, ltb-true, ltb-false, eq-eqb, ne_eqb, eqb-true, not-false}
use Rattle.rules.specs.Columns.{Hierarchy, begin}
use Rattle.rules.specs.TableRules.{used, table_test}
use Rattle.rules.specs.Refusals.{first_met, short, check_rows, query_scratch, check_refusal}
use Rattle.rules.proofs.Cases.{on_test, neither}
use Rattle.rules.proofs.Rows.{not_met}
use Rattle.rules.proofs.TablesDecided.{tables_decided}
use Rattle.query.specs.Rows.{room_short}
use Rattle.halves.specs.Labels.{Before}
use Rattle.query.proofs.FirstMet.{or_none, table_rules}
use Rattle.query.proofs.Found.{rooms}
use Rattle.path_calculator.specs.Searching.{Earlier}
use Rattle.calc_paths.specs.Many.{Answers, PathsCall, many_rows, paths_refusal, lengths_of, answers, unless_refused, calc_paths}
use Rattle.calc_paths.specs.Filling.{paths_call, answered, Fillable}

-- Places for the answers of p pairs.
module _ (n p a b c d : ℕ) where
  abbrev falls_short : Bool
  falls_short = short (p ∷ p ∷ p ∷ p * n ∷ []) (a ∷ b ∷ c ∷ d ∷ [])

  pub numbers_short : a < p → true ≡ falls_short
  unfolding short
  numbers_short x = rw (lt-ltb a p x)

  module _ (x : p ≤ a) where
    pub weights_short : b < p → true ≡ falls_short
    unfolding short
    weights_short y = rw (le-ltb a p x, lt-ltb b p y)

    module _ (y : p ≤ b) where
      pub lengths_short : c < p → true ≡ falls_short
      unfolding short
      lengths_short z = rw (le-ltb a p x, le-ltb b p y, lt-ltb c p z)

      module _ (z : p ≤ c) where
        paths_short : falls_short ≡ ltb d (p * n)
        unfolding short
        paths_short = rw (le-ltb a p x, le-ltb b p y, le-ltb c p z) (sym (or_none (ltb d (p * n))))

        -- without nodes there are no places to ask for
        pub none_asked : n ≡ 0 → false ≡ falls_short
        none_asked e = sym (paths_short ∙ rw (e, mul-zero p) (le-ltb d 0 (omega arith)))

        pub places_divided : (n ≡ 0 → ⊥) → ltb (d / n) p ≡ falls_short
        places_divided some =
            let by = div-lt_iff_lt-mul {k = n} {x = d} {y = p} (omega (arith, some)) in
            on_test (ltb (d / n) p)
            (λ t. t ∙ sym (paths_short ∙ lt-ltb d (p * n) (by.0 (ltb-true (d / n) p t))))
            (λ f.
            f ∙ sym
            (paths_short
            ∙ on_test (ltb d (p * n))
            (λ t. absurd (omega (arith, by.1 (ltb-true d (p * n) t), ltb-false (d / n) p f)))
            (λ g. g)))

-- a path of n places is long enough for one pair
pub scratch_alone : (n : ℕ) (h : Hierarchy) (fl bl fh bh : ℕ) →
    room_short n (get_or h.forward.starts n 0) (get_or h.backward.starts n 0) n fl bl fh bh ≡
    short (query_scratch n h) (fl ∷ bl ∷ fh ∷ bh ∷ [])
unfolding room_short query_scratch used begin
scratch_alone n h fl bl fh bh = rw (le-ltb n n (omega arith))

module _ (n : ℕ) (h : Hierarchy) (s t : ℕ) (lent scratch : List ℕ) where
  abbrev met : ℕ
  met = first_met (many_rows n h s t lent scratch)

  pub tables_broken : (r : ℕ) → r ≡ check_refusal n h → (r ≡ 0 → ⊥) → r ≡ met
  unfolding many_rows check_refusal check_rows first_met
  tables_broken r is some = on_test (table_test n h) (λ t. absurd (some (is ∙ rw t))) (λ f. is ∙ rw f)

  module _ (r : ℕ) (is : r ≡ check_refusal n h) (none : r ≡ 0) where
    passes : table_test n h ≡ true
    passes = (tables_decided n h).1 (table_rules n h r is none)

    pub columns_differ : (s ≡ t → ⊥) → 21 ≡ met
    unfolding many_rows check_rows first_met
    columns_differ d = rw (passes, ne_eqb s t d)

    module _ (same : s ≡ t) where
      abbrev asked : List ℕ
      asked = s ∷ s ∷ s ∷ s * n ∷ []

      pub answers_lack : short asked lent ≡ true → 24 ≡ met
      unfolding many_rows check_rows first_met
      answers_lack e = rw (passes, eq-eqb s t same, e)

      module _ (fit : short asked lent ≡ false) where
        pub scratch_lacks : short (query_scratch n h) scratch ≡ true → 24 ≡ met
        unfolding many_rows check_rows first_met
        scratch_lacks e = rw (passes, eq-eqb s t same, fit, e)

        pub none_met : short (query_scratch n h) scratch ≡ false → 0 ≡ met
        unfolding many_rows check_rows first_met
        none_met e = rw (passes, eq-eqb s t same, fit, e)

-- No row is met, by lengths.
module _ (n : ℕ) (h : Hierarchy) (s t : ℕ) (lent scratch : List ℕ) (fine : first_met (many_rows n h s t lent scratch) ≡ 0) where
  passed : (table_test n h ≡ true) × (s ≡ t) × (short (s ∷ s ∷ s ∷ s * n ∷ []) lent ≡ false) × (short (query_scratch n h) scratch ≡ false)
  unfolding many_rows check_rows
  passed =
      let p20 = not_met 19 _ _ fine in
      let p21 = not_met 20 _ _ p20.1 in
      let p24 = not_met 23 _ _ p21.1 in
      let room = neither (short (s ∷ s ∷ s ∷ s * n ∷ []) lent) _ p24.0 in
      (not-false _ p20.0, eqb-true s t (not-false _ p21.0), room.0, room.1)

pub labels_room : (n : ℕ) (h : Hierarchy) (s t : ℕ) (lent : List ℕ) (kf kb jf jb : ℕ) →
    first_met (many_rows n h s t lent (kf ∷ kb ∷ jf ∷ jb ∷ [])) ≡ 0 → (4 * n ≤ kf) × (4 * n ≤ kb)
labels_room n h s t lent kf kb jf jb fine =
    let r = rooms n h kf kb jf jb (passed n h s t lent (kf ∷ kb ∷ jf ∷ jb ∷ []) fine).3 in
    (r.0, r.1)

-- A call that meets no row.
module _ (n : ℕ) (h : Hierarchy) (sources targets : List ℕ) (lent : Answers) (scratch : List ℕ) where
  abbrev c : PathsCall
  c = paths_call n h sources targets lent scratch

  module _ (fine : paths_refusal c ≡ 0) where
    rows : (table_test n h ≡ true) × (length sources ≡ length targets) ×
        (short (length sources ∷ length sources ∷ length sources ∷ length sources * n ∷ []) (lengths_of lent) ≡ false) ×
        (short (query_scratch n h) scratch ≡ false)
    unfolding paths_refusal
    rows = passed n h (length sources) (length targets) (lengths_of lent) scratch fine

    pub fillable : {fl bl : List ℕ} → Earlier n 1 fl bl → Fillable c fl bl
    unfolding short
    fillable earlier =
        let p = length sources in
        let a = neither (ltb (length lent.numbers) p) _ rows.2 in
        let b = neither (ltb (length lent.weights) p) _ a.1 in
        let d = neither (ltb (length lent.lengths) p) _ b.1 in
        let e = neither (ltb (length lent.paths) (p * n)) _ d.1 in
        record {
          checked = record { tables = rows.0; room = rows.3 };
          even = sym rows.1;
          number_room = ltb-false (length lent.numbers) p a.0;
          weight_room = ltb-false (length lent.weights) p b.0;
          length_room = ltb-false (length lent.lengths) p d.0;
          path_room = ltb-false (length lent.paths) (p * n) e.0;
          earlier = earlier;
        }

    answered_all : answered 0 (answers c) ≡ calc_paths c
    unfolding calc_paths unless_refused
    answered_all = rw fine

  refused_by : (r : ℕ) → (r ≡ 0 → ⊥) → answered r lent ≡ unless_refused c r
  unfolding unless_refused
  refused_by zero some = absurd (some refl)
  refused_by (suc r) some = refl

  pub refused_whole : (r : ℕ) → r ≡ paths_refusal c → (r ≡ 0 → ⊥) → answered r lent ≡ calc_paths c
  unfolding calc_paths
  refused_whole r is some = rw (← is) (refused_by r some)

-- Labels that are cleared first are as long as they were, so that the call is the same.
module _ (n : ℕ) (h : Hierarchy) (sources targets : List ℕ) (lent : Answers) (kf kb jf jb : ℕ) where
  abbrev of_lengths : PathsCall
  of_lengths = paths_call n h sources targets lent (kf ∷ kb ∷ jf ∷ jb ∷ [])

  module _ (fine : paths_refusal of_lengths ≡ 0) where
    module _ (kf' kb' : ℕ) (ef : kf' ≡ kf) (eb : kb' ≡ kb) where
      abbrev cleared : PathsCall
      cleared = paths_call n h sources targets lent (kf' ∷ kb' ∷ jf ∷ jb ∷ [])

      is_call : cleared ≡ of_lengths
      is_call i = paths_call n h sources targets lent (ef i ∷ eb i ∷ jf ∷ jb ∷ [])

      pub cleared_fillable : {fl bl : List ℕ} → Before n 1 fl → Before n 1 bl → Fillable cleared fl bl
      cleared_fillable f b =
          fillable n h sources targets lent (kf' ∷ kb' ∷ jf ∷ jb ∷ []) (ap paths_refusal is_call ∙ fine) (record { fwd = f; bwd = b })

      pub filled_whole : {after : Answers} → after ≡ answers cleared → answered 0 after ≡ calc_paths of_lengths
      filled_whole e = ap (answered 0) (e ∙ ap answers is_call) ∙ answered_all n h sources targets lent (kf ∷ kb ∷ jf ∷ jb ∷ []) fine
