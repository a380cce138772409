-- The first demand, proved.
use mathlib.Core.Path.{◌≡◌, refl, ap}
use mathlib.Core.Logic.Iff
use mathlib.Core.Logic.{◌↔◌, ◌⊎◌, inl, inr}
use mathlib.Core.List.Memᴰ
use mathlib.Core.List.{List, [], ◌∷◌, map}
use Prim.Native.Nat.{ℕ, ◌-◌, ◌^◌, ◌≤◌, ◌<◌}
use native.Mathlib.Omega.{arith}
use lib.ListN.{length}
use Rattle.rules.specs.Lists.{In}
use Rattle.rules.specs.Columns.{Hierarchy, begin}
use Rattle.rules.specs.TableRules.{TableRules, used, table_test}
use Rattle.rules.specs.Refusals.{BuildCall, QueryCall, build_scratch, query_scratch, build_refusal, query_refusal, check_refusal}
use Rattle.rules.specs.Search.{init}
use Rattle.rules.specs.Build.{Built, build}
use Rattle.rules.specs.Query.{Answered, searched, walk, no_route, query}
use Rattle.rules.specs.FirstDemand.{Lowest, build_table, query_table, FilledAll, BeyondAll, Nothing, Handed, PaperRules, Twins, Linear, Modest, value, last_start, FirstDemand}
use Rattle.rules.proofs.Cases.{on_test}
use Rattle.rules.proofs.Decides.{denied}
use Rattle.rules.proofs.TablesDecided.{tables_decided}
use Rattle.rules.proofs.Twins.{twins_break, twins_found, paper_weaker, twins_there}
use Rattle.rules.proofs.Numbers.{query_refusal_least, pool_exceeded, table_exceeded, sum_exceeded}
use Rattle.rules.proofs.Sentences.{build_lowest, query_lowest, check_decided}
use Rattle.rules.proofs.Outcomes.{early, late, whole, ended, marked_fills, built_beyond}
use Rattle.rules.proofs.Answers as answers
use Rattle.rules.proofs.Settles.{stands, search_settles}

-- A build's number, beside that of its rows.
module _ (c : BuildCall) where
  abbrev number_of : (o : Built) → build c ≡ o → (build c).number ≡ o.number
  number_of o e = ap (λ b. b.number) e

  build_number : (r : ℕ) → 1 ≤ r → r ≤ 9 → ((build c).number ≡ r) ↔ (build_refusal c ≡ r)
  build_number r low high =
      elim (ended c) [
        | early k p a b e ↦ (λ x. omega (arith, number_of _ e), λ x. omega (arith, number_of _ e))
        | late k p m a b e ↦ (λ x. absurd (omega (arith, number_of _ e)), λ x. absurd (omega arith))
        | whole k p a e ↦ (λ x. absurd (omega (arith, number_of _ e)), λ x. absurd (omega arith))
      ]

  build_numbers : (build c).number ≤ 12
  build_numbers =
      elim (ended c) [
        | early k p a b e ↦ omega (arith, number_of _ e)
        | late k p m a b e ↦ omega (arith, number_of _ e)
        | whole k p a e ↦ omega (arith, number_of _ e)
      ]

  build_works : Lowest (build_table c) 0 ↔ (((build c).number ≡ 0) ⊎ ((10 ≤ (build c).number) × ((build c).number ≤ 12)))
  build_works =
      elim (ended c) [
        | early k p a b e ↦ (
          λ x. absurd (omega (arith, (build_lowest c 0).1 x)),
          λ x. elim x [ inl y ↦ absurd (omega (arith, number_of _ e)) | inr y ↦ absurd (omega (arith, y.0, number_of _ e)) ],
        )
        | late k p m a b e ↦ (λ _. inr (omega (arith, number_of _ e), omega (arith, number_of _ e)), λ _. (build_lowest c 0).0 p)
        | whole k p a e ↦ (λ _. inl (number_of _ e), λ _. (build_lowest c 0).0 p)
      ]

  untouched : 1 ≤ (build c).number → (build c).number ≤ 9 → (build c).hierarchy ≡ c.lent
  untouched low high =
      elim (ended c) [
        | early k p a b e ↦ ap (λ b. b.hierarchy) e
        | late k p m a b e ↦ absurd (omega (arith, number_of _ e))
        | whole k p a e ↦ absurd (omega (arith, number_of _ e))
      ]

  filled : 10 ≤ (build c).number → FilledAll c.lent (build c).hierarchy
  filled high =
      elim (ended c) [
        | early k p a b e ↦ absurd (omega (arith, number_of _ e))
        | late k p m a b e ↦ rw e (marked_fills c.lent)
        | whole k p a e ↦ absurd (omega (arith, number_of _ e))
      ]

  beyond : (build c).number ≡ 0 → BeyondAll c.nodes c.lent (build c).hierarchy
  beyond done =
      elim (ended c) [
        | early k p a b e ↦ absurd (omega (arith, number_of _ e))
        | late k p m a b e ↦ absurd (omega (arith, number_of _ e))
        | whole k p a e ↦ rw e (built_beyond c k p a)
      ]

-- A query's number, likewise.
module _ (q : QueryCall) where
  abbrev answered_number : (o : Answered) → query q ≡ o → (query q).number ≡ o.number
  answered_number o e = ap (λ a. a.number) e

  refused_number : (r : ℕ) → query q ≡ no_route q r → (query q).number ≡ r
  unfolding no_route
  refused_number r e = ap (λ a. a.number) e

  query_number : (r : ℕ) → 1 ≤ r → r ≤ 24 → ((query q).number ≡ r) ↔ (query_refusal q ≡ r)
  query_number r low high =
      elim (answers.replied q) [
        | answers.early k p a b e ↦ (λ x. omega (arith, refused_number k e), λ x. omega (arith, refused_number k e))
        | answers.none p a e ↦ (λ x. absurd (omega (arith, refused_number 0 e)), λ x. absurd (omega arith))
        | answers.longer p a b e ↦ (λ x. absurd (omega (arith, refused_number 25 e)), λ x. absurd (omega arith))
        | answers.found p a b e ↦ (λ x. absurd (omega (arith, answered_number _ e)), λ x. absurd (omega arith))
      ]

  query_numbers : ((query q).number ≡ 0) ⊎ ((20 ≤ (query q).number) × ((query q).number ≤ 25))
  query_numbers =
      elim (answers.replied q) [
        | answers.early k p a b e ↦
            let low = query_refusal_least q (omega arith) in
            inr (omega (arith, refused_number k e), omega (arith, refused_number k e))
        | answers.none p a e ↦ inl (refused_number 0 e)
        | answers.longer p a b e ↦ inr (omega (arith, refused_number 25 e), omega (arith, refused_number 25 e))
        | answers.found p a b e ↦ inl (answered_number _ e)
      ]

  query_works : Lowest (query_table q) 0 ↔ (((query q).number ≡ 0) ⊎ ((query q).number ≡ 25))
  query_works =
      elim (answers.replied q) [
        | answers.early k p a b e ↦ (
          λ x. absurd (omega (arith, (query_lowest q 0).1 x)),
          λ x. elim x [ inl y ↦ absurd (omega (arith, refused_number k e)) | inr y ↦ absurd (omega (arith, refused_number k e)) ],
        )
        | answers.none p a e ↦ (λ _. inl (refused_number 0 e), λ _. (query_lowest q 0).0 p)
        | answers.longer p a b e ↦ (λ _. inr (refused_number 25 e), λ _. (query_lowest q 0).0 p)
        | answers.found p a b e ↦ (λ _. inl (answered_number _ e), λ _. (query_lowest q 0).0 p)
      ]

  too_long : ((query q).number ≡ 25) ↔
      (Lowest (query_table q) 0 × ((searched q).best.node ≡ 2 ^ 32 - 1 → ⊥) ×
      (length q.path < length (walk q.hierarchy q.nodes (searched q) (searched q).best.node)))
  too_long =
      elim (answers.replied q) [
        | answers.early k p a b e ↦ (λ x. absurd (omega (arith, refused_number k e)), λ x. absurd (omega (arith, (query_lowest q 0).1 x.0)))
        | answers.none p a e ↦ (λ x. absurd (omega (arith, refused_number 0 e)), λ x. absurd (x.1 a))
        | answers.longer p a b e ↦ (λ _. ((query_lowest q 0).0 p, a, b), λ _. refused_number 25 e)
        | answers.found p a b e ↦ (λ x. absurd (omega (arith, answered_number _ e)), λ x. absurd (omega (arith, x.2)))
      ]

  refused_nothing : 1 ≤ (query q).number → Nothing q (query q)
  refused_nothing low =
      elim (answers.replied q) [
        | answers.early k p a b e ↦ answers.nothing q k e
        | answers.none p a e ↦ answers.nothing q 0 e
        | answers.longer p a b e ↦ answers.nothing q 25 e
        | answers.found p a b e ↦ absurd (omega (arith, answered_number _ e))
      ]

  answered : (query q).number ≡ 0 → Nothing q (query q) ⊎ Handed q (query q)
  answered done =
      elim (answers.replied q) [
        | answers.early k p a b e ↦ inl (answers.nothing q k e)
        | answers.none p a e ↦ inl (answers.nothing q 0 e)
        | answers.longer p a b e ↦ inl (answers.nothing q 25 e)
        | answers.found p a b e ↦ inr (answers.handed q b e)
      ]

-- The table check: its one row.
module _ (n : ℕ) (h : Hierarchy) where
  check_refused : (check_refusal n h ≡ 20) ↔ (TableRules n h → ⊥)
  check_refused = (
    λ e. elim ((check_decided n h 20).0 e) [ inl broken ↦ broken.0 | inr more ↦ absurd (omega (arith, more.1)) ],
    λ broken. (check_decided n h 20).1 (inl (broken, refl)),
  )

  check_passes : (check_refusal n h ≡ 0) ↔ TableRules n h
  check_passes = (
    λ e. on_test (table_test n h) (tables_decided n h).0 (λ f. absurd (omega (arith, e, check_refused.1 (denied (tables_decided n h) f)))),
    λ rules. (check_decided n h 0).1 (inr (λ broken. broken rules, refl)),
  )

  only_twins : PaperRules n h → (check_refusal n h ≡ 20) ↔ Twins n h
  only_twins paper = (λ e. twins_found n h paper (check_refused.0 e), λ t. check_refused.1 (twins_break n h t))

-- The scratch formulas.
abbrev linear : ℕ → ℕ → ℕ → ℕ → Linear
linear a b c constant = record { a = a; b = b; c = c; constant = constant }

AllModest : List Linear → Type 0
AllModest [] = Unit {0}
AllModest (f ∷ fs) = Modest f × AllModest fs

all_modest : (fs : List Linear) → AllModest fs → (f : Linear) → In f fs → Modest f
unfolding AllModest
all_modest [] m f i = absurd (Memᴰ.not-nil i)
all_modest (g ∷ fs) m f i = elim (Memᴰ.cases_cons i) [ inl here ↦ rw here m.0 | inr later ↦ all_modest fs m.1 f later ]

build_forms : List Linear
build_forms = linear 0 6 0 0 ∷ linear 0 1 0 0 ∷ linear 4 0 0 0 ∷ linear 2 0 0 0 ∷ linear 0 2 0 2 ∷ []

query_forms : List Linear
query_forms = linear 4 0 0 0 ∷ linear 4 0 0 0 ∷ linear 0 2 0 32 ∷ linear 0 0 2 32 ∷ []

build_modest : AllModest build_forms
unfolding AllModest build_forms
build_modest = omega arith

query_modest : AllModest query_forms
unfolding AllModest query_forms
query_modest = omega arith

-- one number after the other is the same
next : {x y : ℕ} {xs ys : List ℕ} → x ≡ y → xs ≡ ys → x ∷ xs ≡ y ∷ ys
next p q = λ i. p i ∷ q i

build_is : (n pool : ℕ) → build_scratch n pool ≡ map (value n pool 0) build_forms
unfolding build_scratch build_forms
build_is n pool = next (omega arith) (next (omega arith) (next (omega arith) (next (omega arith) (next (omega arith) refl))))

query_is : (n : ℕ) (h : Hierarchy) → query_scratch n h ≡ map (value n (last_start n h.forward) (last_start n h.backward)) query_forms
unfolding query_scratch query_forms used begin
query_is n h = next (omega arith) (next (omega arith) (next (omega arith) (next (omega arith) refl)))

pub first_demand : FirstDemand
unfolding init
first_demand =
    record {
      nodes = refl;
      links = refl;
      ends = refl;
      link_weight = refl;
      weight = refl;
      weight_mark = refl;
      mark = refl;
      program_input = refl;
      nodes_of_program = refl;
      links_of_program = refl;
      build_numbers = build_numbers;
      build_refused = λ c r low high. Iff.trans (build_number c r low high) (build_lowest c r);
      build_works = build_works;
      untouched = untouched;
      filled = filled;
      beyond = beyond;
      pool_exceeded = pool_exceeded;
      table_exceeded = table_exceeded;
      sum_exceeded = sum_exceeded;
      check_refused = check_refused;
      check_passes = check_passes;
      only_twins = only_twins;
      paper_weaker = paper_weaker;
      twins_there = twins_there;
      query_numbers = query_numbers;
      query_refused = λ q r low high. Iff.trans (query_number q r low high) (query_lowest q r);
      query_works = query_works;
      too_long = too_long;
      refused_nothing = refused_nothing;
      answered = answered;
      settles = λ g avoid limit target sum s low. search_settles limit s g avoid target sum s (stands limit s low);
      none_settled = λ a v. (refl, refl);
      build_linear = (build_forms, all_modest build_forms build_modest, build_is);
      query_linear = (query_forms, all_modest query_forms query_modest, query_is);
    }
