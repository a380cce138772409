-- With which numbers a build's steps can end.
use mathlib.Core.Path.{◌≡◌, refl, sym, ◌∙◌, ap}
use mathlib.Core.Logic.{◌↔◌, ◌⊎◌}
use mathlib.Core.Bool.{Bool, true, false, ◌&&◌}
use mathlib.Core.List.{List, [], ◌∷◌, ◌++◌}
use Prim.Native.Nat.{ℕ, ◌+◌, ◌≤◌, ◌<◌}
use native.Mathlib.Omega.{arith}
use lib.Dec.{leb}
use lib.ListN.{length}
use borrow.Author.Tests.{leb-true, leb-false, lt-leb}
use Rattle.rules.specs.Columns.{forward, backward}
use Rattle.rules.specs.Refusals.{Row, first_met, BuildCall, graph_rows, order_rows, build_refusal, QueryCall, check_rows, end_rows, query_refusal}
use Rattle.rules.specs.Graph.{Arc, outs, ins}
use Rattle.rules.specs.Search.{Search, init}
use Rattle.rules.specs.Build.{Step, went, refused, and_then, in_pool, from_links, Contracting, shortcut, add, pair, pairs_of, handle_shortcuts, contract_node, Level, raws, in_tables, Building, rank_step, rank_steps, contraction}
use Rattle.rules.specs.FirstDemand.{SumExceeded}
use Rattle.rules.proofs.Arcs.{kept_in, in_kept}
use Rattle.rules.proofs.Pairs.{dropped, witness, unwitnessed, there, too_large, new, pair_goes}
use Rattle.rules.proofs.Cases.{on_test, not_both}
use Rattle.rules.proofs.Steps.{refused_not_went}
use Rattle.rules.proofs.Refutes.{not_within, and_refutes}

-- rows of numbers up to k
abbrev pub UpTo : ℕ → List Row → Type 0
UpTo k [] = Unit {0}
UpTo k (r ∷ rs) = (r.number ≤ k) × UpTo k rs

pub first_up_to : (k : ℕ) (rs : List Row) → UpTo k rs → first_met rs ≤ k
unfolding first_met
first_up_to k [] h = omega arith
first_up_to k (r ∷ rs) h =
    on_test r.met (λ t. rw (t, first_met) h.0) (λ t. rw (t, first_met) (first_up_to k rs h.1))

-- rows of numbers from k on
abbrev From : ℕ → List Row → Type 0
From k [] = Unit {0}
From k (r ∷ rs) = (k ≤ r.number) × From k rs

first_from : (k : ℕ) (rs : List Row) → From k rs → 1 ≤ first_met rs → k ≤ first_met rs
unfolding first_met
first_from k [] h low = absurd (omega arith)
first_from k (r ∷ rs) h low =
    on_test r.met
    (λ t. rw (t, first_met) h.0)
    (λ t. rw (t, first_met) (first_from k rs h.1 (rw (t, first_met) at low)))

pub query_refusal_least : (q : QueryCall) → 1 ≤ query_refusal q → 20 ≤ query_refusal q
unfolding query_refusal check_rows end_rows
query_refusal_least q low = first_from 20 (check_rows q.nodes q.hierarchy ++ end_rows q) (omega arith) low

pub build_refusal_most : (c : BuildCall) → build_refusal c ≤ 9
unfolding build_refusal graph_rows order_rows
build_refusal_most c = first_up_to 9 (graph_rows c.nodes c.links ++ order_rows c) (omega arith)

pub query_refusal_most : (q : QueryCall) → query_refusal q ≤ 24
unfolding query_refusal check_rows end_rows
query_refusal_most q = first_up_to 24 (check_rows q.nodes q.hierarchy ++ end_rows q) (omega arith)

-- Whatever number a step ends with passes P.
module _ (P : ℕ → Type 0) where
  module _ {A : Type 0} where
    abbrev pub Only : Step A → Type 0
    Only m = (r : ℕ) → m ≡ refused r → P r

    pub went_only : (a : A) → Only (went a)
    went_only a r e = absurd (refused_not_went (sym e))

    pub refused_only : (k : ℕ) → P k → Only (refused k)
    refused_only k p r e = let same : k ≡ r = cc in rw same at p

  pub then_only : {A B : Type 0} (m : Step A) (f : A → Step B) → Only m → ((a : A) → m ≡ went a → Only (f a)) → Only (and_then m f)
  unfolding and_then
  then_only (went a) f p q = q a refl
  then_only (refused k) f p q = λ r e. p r (let same : k ≡ r = cc in ap refused same)

  -- whichever way a test turns
  pub either_only : {A : Type 0} {x y : Step A} (b : Bool) → Only x → Only y → Only {A = A} (elim b as (λ _. Step A) [ true ↦ x | false ↦ y ])
  either_only true p q = p
  either_only false p q = q

  -- A leaf's own number is all that it can end with.
  pub pool_leaf : P 10 → (pool : ℕ) (g : List Arc) → Only (in_pool pool g)
  unfolding in_pool
  pool_leaf ten pool g = either_only (leb (length g) pool) (went_only g) (refused_only 10 ten)

  pub tables_leaf : P 11 → (fwd bwd : ℕ) (levels : List Level) → Only (in_tables fwd bwd levels)
  unfolding in_tables
  tables_leaf eleven fwd bwd levels =
      either_only (leb (length (raws forward levels)) fwd && leb (length (raws backward levels)) bwd) (went_only levels) (refused_only 11 eleven)

  add_leaf : P 10 → (pool limit v : ℕ) (s : Arc) (g : List Arc) (found : Search) → Only (add pool limit v s g found)
  unfolding add
  add_leaf ten pool limit v s g found = then_only _ _ (pool_leaf ten _ _) (λ m _. went_only _)

  -- The steps, where 10, 11 and 12 pass.
  module _ (ten : P 10) (eleven : P 11) (twelve : P 12) where
    module _ (pool limit v : ℕ) where
      pair_leaf : (a b : Arc) (c : Contracting) → Only (pair pool limit v a b c)
      pair_leaf a b c =
          elim (pair_goes limit v a b c) [
            | dropped _ is ↦ rw (is pool) (went_only _)
            | witness _ _ is ↦ rw (is pool) (went_only _)
            | unwitnessed _ _ u ↦
                elim u [
                  | there _ _ is ↦ rw (is pool) (went_only _)
                  | too_large _ _ is ↦ rw (is pool) (refused_only 12 twelve)
                  | new _ is ↦ rw (is pool) (add_leaf ten pool limit v _ _ _)
                ]
          ]

      pairs_leaf : (a : Arc) (bs : List Arc) (c : Contracting) → Only (pairs_of pool limit v a bs c)
      unfolding pairs_of
      pairs_leaf a [] c = went_only c
      pairs_leaf a (b ∷ bs) c = then_only _ _ (pair_leaf a b c) (λ k _. pairs_leaf a bs k)

      shortcuts_leaf : (xs bs : List Arc) (g : List Arc) → Only (handle_shortcuts pool limit v xs bs g)
      unfolding handle_shortcuts
      shortcuts_leaf [] bs g = went_only g
      shortcuts_leaf (a ∷ xs) bs g =
          then_only _ _ (pairs_leaf a bs (record { graph = g; search = init a.tail })) (λ c _. shortcuts_leaf xs bs c.graph)

      contract_leaf : (g : List Arc) → Only (contract_node pool limit v g)
      unfolding contract_node
      contract_leaf g = then_only _ _ (shortcuts_leaf (ins g v) (outs g v) g) (λ k _. went_only _)

    steps_leaf : (c : BuildCall) (vs : List ℕ) (b : Building) → Only (rank_steps c vs b)
    unfolding rank_steps rank_step
    steps_leaf c [] b = went_only b
    steps_leaf c (v ∷ vs) b =
        then_only _ _
        (then_only _ _ (tables_leaf eleven _ _ _)
        (λ levels _. then_only _ _ (contract_leaf c.pool c.limit v b.graph) (λ g _. went_only _)))
        (λ k _. steps_leaf c vs k)

    pub contraction_leaf : (c : BuildCall) → Only (contraction c)
    unfolding contraction from_links
    contraction_leaf c = then_only _ _ (pool_leaf ten _ _) (λ g _. steps_leaf c c.order _)

pub contraction_numbers : (c : BuildCall) (r : ℕ) → contraction c ≡ refused r → (10 ≤ r) × (r ≤ 12)
contraction_numbers c = contraction_leaf (λ r. (10 ≤ r) × (r ≤ 12)) (omega arith) (omega arith) (omega arith) c

-- Each number comes exactly where its step meets it.
went_not_refused : {A : Type 0} {a : A} {r : ℕ} → ◌≡◌ {A = Step A} (went a) (refused r) → ⊥
went_not_refused e = refused_not_went (sym e)

pub pool_exceeded : (pool : ℕ) (g : List Arc) → (in_pool pool g ≡ refused 10) ↔ (pool < length g)
unfolding in_pool
pool_exceeded pool g = (
  λ e. on_test (leb (length g) pool) (λ t. absurd (went_not_refused (rw (t, in_pool) at e))) (leb-false (length g) pool),
  λ h. rw (lt-leb (length g) pool h, in_pool),
)

pub table_exceeded : (fwd bwd : ℕ) (ls : List Level) → (in_tables fwd bwd ls ≡ refused 11) ↔ ((fwd < length (raws forward ls)) ⊎ (bwd < length (raws backward ls)))
unfolding in_tables
table_exceeded fwd bwd ls =
    let unfit = and_refutes (not_within (length (raws forward ls)) fwd) (not_within (length (raws backward ls)) bwd) in (
      λ e.
          on_test (leb (length (raws forward ls)) fwd && leb (length (raws backward ls)) bwd)
          (λ t. absurd (went_not_refused (rw (t, in_tables) at e))) unfit.0,
      λ h. rw (unfit.1 h, in_tables),
    )

-- 12 comes where no test before it turned the pair away.
pub sum_exceeded : (pool limit v : ℕ) (a b : Arc) (k : Contracting) → (pair pool limit v a b k ≡ refused 12) ↔ SumExceeded limit v a b k
unfolding shortcut
sum_exceeded pool limit v a b k =
    elim (pair_goes limit v a b k) [
      | dropped same is ↦ (λ e. absurd (went_not_refused (sym (is pool) ∙ e)), λ x. absurd (x.ends_differ same))
      | witness _ found is ↦ (λ e. absurd (went_not_refused (sym (is pool) ∙ e)), λ x. absurd (omega (arith, x.no_witness)))
      | unwitnessed differ unseen u ↦
          elim u [
            | there _ test is ↦
                let y = kept_in (shortcut v a b) k.graph test in (
                  λ e. absurd (went_not_refused (sym (is pool) ∙ e)),
                  λ x. absurd (omega (arith, x.no_arc y.0 y.1 y.2 y.3, y.4)),
                )
            | too_large large test is ↦ (
              λ _.
                  record {
                    ends_differ = differ;
                    above = large;
                    no_witness = unseen;
                    no_arc =
                        λ y m p q.
                        on_test (leb y.weight (a.weight + b.weight))
                        (λ t. absurd (not_both _ (in_kept (shortcut v a b) k.graph y m p q (leb-true y.weight (a.weight + b.weight) t)) test))
                        (leb-false y.weight (a.weight + b.weight));
                  },
              λ _. is pool,
            )
            | new small is ↦ (
              λ e. absurd (omega (arith, add_leaf (λ r. r ≡ 10) refl pool limit v _ _ _ 12 (sym (is pool) ∙ e))),
              λ x. absurd (omega (arith, x.above)),
            )
          ]
    ]
