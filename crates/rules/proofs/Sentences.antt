-- Each row's test decides its sentence, so the number that comes before any work is that of the lowest sentence that holds.
use mathlib.Core.Path.{◌≡◌, refl, sym, ◌∙◌}
use mathlib.Core.Logic.{◌↔◌, ◌⊎◌, inl, inr}
use mathlib.Core.Bool.{Bool, false≢true}
use mathlib.Core.List.{List, [], ◌∷◌, ◌++◌}
use Prim.Native.Nat.{ℕ, zero, suc, ◌+◌, ◌-◌, ◌*◌, ◌^◌, ◌≤◌, ◌<◌}
use native.Mathlib.Omega.{arith}
use native.Mathlib.Numerals.{add-one}
use lib.Dec.{eqb, ltb, leb}
use lib.ListN.{length, get_or}
use borrow.Author.Tests.{ltb-true, lt-ltb, leb-false, lt-leb}
use Rattle.rules.specs.Lists.{Decides, all}
use Rattle.rules.specs.Columns.{Links, Link, zip_links, link_list, Table, Hierarchy, Ends, begin}
use Rattle.rules.specs.TableRules.{used, TableRules}
use Rattle.rules.specs.Refusals.{Row, first_met, short, BuildCall, build_scratch, names_none_above, loop, ascending, columns_fit, table_short, lent_short, graph_rows, order_rows, build_refusal, QueryCall, query_scratch, ends_fit, offset_fits, check_rows, end_rows, check_refusal, query_refusal}
use Rattle.rules.specs.FirstDemand.{Sentence, ◌says◌, Lowest, At, IsLink, ALink, Ascending, Short, TableShort, build_table, EndsUnfit, OffsetUnfit, query_table}
use Rattle.rules.proofs.Cases.{on_test}
use Rattle.rules.proofs.Decides.{ltb_decides, eqb_decides, or_decides, decides_as, denied}
use Rattle.rules.proofs.Refutes.{Refutes, refutes_as, not_decides, refuted, not_below, not_within, and_refutes, or_refutes, regrouped, any_decides, all_refutes, distinct_refutes}
use Rattle.rules.proofs.Ascending.{ascending_decides}
use Rattle.rules.proofs.TablesDecided.{columns_decided, tables_decided}

infixr 5 ◌then◌
-- Tests that decide sentences, row by row.
pub data Tested : List Row → List Sentence → Type 1 where
  done : Tested [] []
  ◌then◌ : {n : ℕ} {b : Bool} {P : Type 0} {rs : List Row} {ss : List Sentence} → Decides b P → Tested rs ss →
      Tested (record { number = n; met = b } ∷ rs) (record { number = n; holds = P } ∷ ss)

first_lowest : {rs : List Row} {ss : List Sentence} → Tested rs ss → Lowest ss (first_met rs)
unfolding first_met
first_lowest done = refl
first_lowest (◌then◌ {b = b} d t) =
    on_test b
    (λ e. rw (e, first_met) (inl (d.0 e, refl)))
    (λ e. rw (e, first_met) (inr (denied d e, first_lowest t)))

lowest_one : (ss : List Sentence) (r k : ℕ) → Lowest ss r → Lowest ss k → r ≡ k
lowest_one [] r k p q = p ∙ sym q
lowest_one (s ∷ ss) r k (inl p) (inl q) = p.1 ∙ sym q.1
lowest_one (s ∷ ss) r k (inl p) (inr q) = absurd (q.0 p.0)
lowest_one (s ∷ ss) r k (inr p) (inl q) = absurd (p.0 q.0)
lowest_one (s ∷ ss) r k (inr p) (inr q) = lowest_one ss r k p.1 q.1

first_decided : {rs : List Row} {ss : List Sentence} → Tested rs ss → (r : ℕ) → (first_met rs ≡ r) ↔ Lowest ss r
first_decided {rs} {ss} t r = (λ e. rw e at (first_lowest t), lowest_one ss (first_met rs) r (first_lowest t))

-- Links, by their columns.
abbrev no_link : Link
no_link = record { tail = 0; head = 0; weight = 0 }

zip_long : (ts hs ws : List ℕ) (i : ℕ) → (i < length (zip_links ts hs ws)) ↔ ((i < length ts) × (i < length hs) × (i < length ws))
unfolding zip_links
zip_long [] hs ws i = (λ h. absurd (omega arith), λ h. h.0)
zip_long (t ∷ ts) [] ws i = (λ h. absurd (omega arith), λ h. h.1)
zip_long (t ∷ ts) (h ∷ hs) [] i = (λ x. absurd (omega arith), λ x. x.2)
zip_long (t ∷ ts) (h ∷ hs) (w ∷ ws) zero = (λ _. (omega arith, omega arith, omega arith), λ _. omega arith)
zip_long (t ∷ ts) (h ∷ hs) (w ∷ ws) (suc i) =
    let r = zip_long ts hs ws i in (
      λ x. let y = r.0 (omega arith) in (omega (arith, y.0), omega (arith, y.1), omega (arith, y.2)),
      λ x. omega (arith, r.1 (omega (arith, x.0), omega (arith, x.1), omega (arith, x.2))),
    )

zip_at : (ts hs ws : List ℕ) (i : ℕ) → i < length (zip_links ts hs ws) →
    get_or (zip_links ts hs ws) i no_link ≡ record { tail = get_or ts i 0; head = get_or hs i 0; weight = get_or ws i 0 }
unfolding zip_links
zip_at [] hs ws i h = absurd (omega arith)
zip_at (t ∷ ts) [] ws i h = absurd (omega arith)
zip_at (t ∷ ts) (h ∷ hs) [] i x = absurd (omega arith)
zip_at (t ∷ ts) (h ∷ hs) (w ∷ ws) zero x = refl
zip_at (t ∷ ts) (h ∷ hs) (w ∷ ws) (suc i) x = zip_at ts hs ws i (omega arith)

module _ (l : Links) where
  abbrev link_at : ℕ → Link
  link_at i = record { tail = get_or l.tails i 0; head = get_or l.heads i 0; weight = get_or l.weights i 0 }

  is_link : (i : ℕ) → (i < length (link_list l)) ↔ IsLink l i
  unfolding link_list
  is_link i = zip_long l.tails l.heads l.weights i

  listed_at : (i : ℕ) → i < length (link_list l) → get_or (link_list l) i no_link ≡ link_at i
  unfolding link_list
  listed_at i h = zip_at l.tails l.heads l.weights i h

  -- some link of the list is some link of the columns
  by_columns : (P : Link → Type 0) →
      ((i : ℕ) × (i < length (link_list l)) × P (get_or (link_list l) i no_link)) ↔ ALink l (λ t h w. P (record { tail = t; head = h; weight = w }))
  by_columns P = (
    λ s. (s.0, (is_link s.0).0 s.1, rw (listed_at s.0 s.1) at s.2),
    λ s. let h = (is_link s.0).1 s.1 in (s.0, h, rw (listed_at s.0 h) s.2),
  )

  ascending_decided : Decides (ascending (link_list l)) (Ascending l)
  ascending_decided =
      decides_as (ascending_decides no_link (link_list l)) (
        λ f i j less k.
            let hj = (is_link j).1 k in
            rw (listed_at i (omega arith), listed_at j hj) at (f i j less hj),
        λ f i j less h. rw (listed_at i (omega arith), listed_at j h) (f i j less ((is_link j).0 h)),
      )

-- scratch: some slice is missing or below
short_decides : (asked lent : List ℕ) → Decides (short asked lent) (Short asked lent)
unfolding short
short_decides [] lent = (λ e. absurd (false≢true e), λ s. absurd (omega (arith, s.1)))
short_decides (a ∷ as') [] = (λ _. (0, omega arith, inl (omega arith)), λ _. refl)
short_decides (a ∷ as') (l ∷ ls) =
    decides_as (or_decides (ltb_decides l a) (short_decides as' ls)) (
      λ x.
          elim x [
            | inl less ↦ (0, omega arith, inr less)
            | inr later ↦ (suc later.0, omega (arith, later.1), elim later.2 [ inl none ↦ inl (omega arith) | inr less ↦ inr less ])
          ],
      λ s. cases s.0 s.1 s.2,
    )
  where
    cases : (i : ℕ) → i < length (a ∷ as') → (length (l ∷ ls) ≤ i) ⊎ (get_or (l ∷ ls) i 0 < get_or (a ∷ as') i 0) → (l < a) ⊎ Short as' ls
    cases zero h (inl none) = absurd (omega arith)
    cases zero h (inr less) = inl less
    cases (suc i) h (inl none) = inr (i, omega arith, inl (omega arith))
    cases (suc i) h (inr less) = inr (i, omega arith, inr less)

below_suc : (a n : ℕ) → Decides (ltb a (suc n)) (a < n + 1)
below_suc a n = (λ e. omega (arith, ltb-true a (suc n) e), λ h. lt-ltb a (suc n) (omega arith))

table_short_decides : (n : ℕ) (t : Table) → Decides (table_short n t) (TableShort n t)
unfolding table_short
table_short_decides n t = or_decides (below_suc (length t.starts) n) (not_decides (refuted (columns_decided t)))

module _ (c : BuildCall) where
  lent_decided : Decides (lent_short c)
      ((length c.lent.ranks < c.nodes) ⊎ TableShort c.nodes c.lent.forward ⊎ TableShort c.nodes c.lent.backward ⊎
      Short (6 * c.pool ∷ c.pool ∷ 4 * c.nodes ∷ 2 * c.nodes ∷ 2 * (c.pool + 1) ∷ []) c.scratch)
  unfolding lent_short build_scratch
  lent_decided =
      rw (add-one c.pool)
      (decides_as
      (decides_as
      (or_decides
      (or_decides
      (or_decides (ltb_decides (length c.lent.ranks) c.nodes) (table_short_decides c.nodes c.lent.forward))
      (table_short_decides c.nodes c.lent.backward))
      (short_decides (build_scratch c.nodes c.pool) c.scratch))
      regrouped)
      regrouped)

  build_tested : Tested (graph_rows c.nodes c.links ++ order_rows c) (build_table c)
  unfolding graph_rows order_rows columns_fit names_none_above loop build_scratch
  build_tested =
      ltb_decides 1024 c.nodes then
      not_decides
      (refutes_as
      (and_refutes
      (and_refutes
      (refuted (eqb_decides (length c.links.heads) (length c.links.tails)))
      (refuted (eqb_decides (length c.links.weights) (length c.links.tails))))
      (not_within (length c.links.tails) 16384))
      regrouped) then
      decides_as
      (not_decides
      (all_refutes no_link (λ k. (c.nodes ≤ k.tail) ⊎ (c.nodes ≤ k.head)) (names_none_above c.nodes) (link_list c.links)
      (λ k. and_refutes (not_below k.tail c.nodes) (not_below k.head c.nodes))))
      (by_columns c.links (λ k. (c.nodes ≤ k.tail) ⊎ (c.nodes ≤ k.head))) then
      decides_as
      (any_decides no_link (λ k. k.tail ≡ k.head) loop (link_list c.links) (λ k. eqb_decides k.tail k.head))
      (by_columns c.links (λ k. k.tail ≡ k.head)) then
      decides_as
      (any_decides no_link (λ k. k.weight ≡ 0) (λ k. eqb k.weight 0) (link_list c.links) (λ k. eqb_decides k.weight 0))
      (by_columns c.links (λ k. k.weight ≡ 0)) then
      not_decides (refuted (ascending_decided c.links)) then
      not_decides (refuted (eqb_decides (length c.order) c.nodes)) then
      not_decides
      (and_refutes
      (all_refutes 0 (λ v. c.nodes ≤ v) (λ v. ltb v c.nodes) c.order (λ v. not_below v c.nodes))
      (distinct_refutes c.order)) then
      lent_decided then
      done

  -- rows 1 to 9 of a build
  pub build_lowest : (r : ℕ) → (build_refusal c ≡ r) ↔ Lowest (build_table c) r
  unfolding build_refusal
  build_lowest = first_decided build_tested

unfit_ends : (e : Ends) → Refutes (ends_fit e) (EndsUnfit e)
unfolding ends_fit
unfit_ends e =
    refutes_as
    (and_refutes
    (and_refutes (none (length e.nodes)) (not_within (length e.nodes) 16))
    (refuted (eqb_decides (length e.offsets) (length e.nodes))))
    regrouped
  where
    none : (n : ℕ) → Refutes (leb 1 n) (n ≡ 0)
    none n = (λ e. omega (arith, leb-false 1 n e), λ e. lt-leb 1 n (omega arith))

unfit_offset : (o : ℕ) → Refutes (offset_fits o) (OffsetUnfit o)
unfolding offset_fits
unfit_offset o = or_refutes (not_within o (2 ^ 40)) (refuted (eqb_decides o (2 ^ 64 - 1)))

module _ (q : QueryCall) where
  somewhere_not_below : (vs : List ℕ) → Refutes (all (λ v. ltb v q.nodes) vs) (At vs (λ v. q.nodes ≤ v))
  somewhere_not_below vs = all_refutes 0 (λ v. q.nodes ≤ v) (λ v. ltb v q.nodes) vs (λ v. not_below v q.nodes)

  somewhere_unfit : (os : List ℕ) → Refutes (all offset_fits os) (At os OffsetUnfit)
  somewhere_unfit os = all_refutes 0 OffsetUnfit offset_fits os unfit_offset

  query_tested : Tested (check_rows q.nodes q.hierarchy ++ end_rows q) (query_table q)
  unfolding check_rows end_rows query_scratch used begin
  query_tested =
      not_decides (refuted (tables_decided q.nodes q.hierarchy)) then
      not_decides (and_refutes (unfit_ends q.sources) (unfit_ends q.targets)) then
      not_decides (and_refutes (somewhere_not_below q.sources.nodes) (somewhere_not_below q.targets.nodes)) then
      not_decides (and_refutes (somewhere_unfit q.sources.offsets) (somewhere_unfit q.targets.offsets)) then
      or_decides (ltb_decides (length q.path) q.nodes) (short_decides (query_scratch q.nodes q.hierarchy) q.scratch) then
      done

  -- rows 20 to 24 of a query
  pub query_lowest : (r : ℕ) → (query_refusal q ≡ r) ↔ Lowest (query_table q) r
  unfolding query_refusal
  query_lowest = first_decided query_tested

module _ (n : ℕ) (h : Hierarchy) where
  pub check_decided : (r : ℕ) → (check_refusal n h ≡ r) ↔ Lowest (20 says (TableRules n h → ⊥) ∷ []) r
  unfolding check_refusal check_rows
  check_decided = first_decided (not_decides (refuted (tables_decided n h)) then done)
