-- The record program's room is always enough: its builds are never refused for want of it, and its queries not at all but for a
-- node that there is not.
use mathlib.Core.Path.{◌≡◌, refl, sym, ◌∙◌, ap, subst}
use mathlib.Core.Logic.{◌⊎◌, inl, inr}
use mathlib.Core.Bool.{Bool, true, false, not, ◌&&◌}
use mathlib.Core.List.{List, [], ◌∷◌, ◌++◌}
use Prim.Native.Nat.{ℕ, suc, ◌-◌, ◌*◌, ◌≤◌}
use native.Mathlib.Omega.{arith}
use native.Mathlib.Nat.{mul-le-mul}
use lib.Dec.{ltb}
use lib.ListN.{take}
use borrow.Author.Tests.{le-ltb}
use Rattle.rules.specs.Numbers.{max_link_weight}
use Rattle.rules.specs.Lists.{In, all}
use Rattle.rules.specs.Columns.{Link, link_list, equally_long, room}
use Rattle.rules.specs.Refusals.{Row, row, first_met, short, BuildCall, table_short, lent_short, graph_rows, order_rows, build_refusal, build_scratch, QueryCall, query_scratch, ends_fit, offset_fits, check_rows, end_rows, query_refusal}
use Rattle.rules.specs.TableRules.{table_test}
use Rattle.rules.specs.Build.{build}
use Rattle.rules.specs.Query.{query, no_route}
use Rattle.rules.specs.Program.{blank_table, program_call, query_call}
use Rattle.rules.proofs.Cases.{on_test}
use Rattle.rules.proofs.Members.{in_map}
use Rattle.rules.proofs.TablesDecided.{tables_decided}
use Rattle.rules.proofs.Accepted.{accepted_build}
use Rattle.rules.proofs.Numbers.{first_up_to}
use Rattle.rules.proofs.Outcomes.{early, late, whole, ended}
use Rattle.rules.proofs.Answers as answers
use Rattle.build_laws.proofs.Refused.{build_half}
use Rattle.build_laws.proofs.Enough.{never_10, never_11}
use Rattle.query_laws.specs.LeastWalk.{Answered}
use Rattle.routes.specs.Demand.{OnBuilt}
use Rattle.routes.specs.Demands.{IsBuilt}
use Rattle.routes.proofs.ThirdDemand.{third_demand}

-- as much as is asked is not short of it
short_self : (ns : List ℕ) → short ns ns ≡ false
unfolding short
short_self [] = refl
short_self (n ∷ ns) = rw (le-ltb n n (omega arith)) (short_self ns)

-- a last row that is not met
unmet_last : (rs : List Row) (k : ℕ) → first_met (rs ++ (row k false ∷ [])) ≡ first_met rs
unfolding first_met
unmet_last [] k = refl
unmet_last (r ∷ rs) k = on_test r.met (λ t. rw (t, first_met)) (λ t. rw (t, first_met) (unmet_last rs k))

module _ (n : ℕ) (ls : List Link) (order : List ℕ) (limit : ℕ) (few : n ≤ 32) (small : (l : Link) → In l ls → l.weight ≤ max_link_weight) where
  abbrev pub call : BuildCall
  call = program_call n ls order limit

  pub weights_small : (w : ℕ) → In w call.links.weights → w ≤ max_link_weight
  unfolding program_call
  weights_small w m = let i = in_map (λ (l : Link). l.weight) w ls m in rw i.2 (small i.0 i.1)

  lent_enough : lent_short call ≡ false
  unfolding lent_short table_short program_call blank_table equally_long room
  lent_enough = rw (le-ltb 32 n few, le-ltb 33 (suc n) (omega arith), short_self (build_scratch n 992)) refl

  not_9 : build_refusal call ≤ 8
  unfolding build_refusal graph_rows order_rows
  not_9 =
      let eight : List Row = take 8 (graph_rows call.nodes call.links ++ order_rows call) in
      rw lent_enough (subst (λ r. r ≤ 8) (sym (unmet_last eight 9)) (first_up_to 8 eight (omega arith)))

  pub build_numbers : (r : ℕ) → (build call).number ≡ r → (r ≤ 8) ⊎ (r ≡ 12)
  unfolding program_call blank_table room
  build_numbers r e =
      elim (ended call) [
        | early k p low high o ↦ inl (omega (arith, not_9, ap (λ x. x.number) o))
        | whole b p q o ↦ inl (omega (arith, ap (λ x. x.number) o))
        | late k p q low high o ↦
            let ok = accepted_build call p in
            let fewer : n - 1 ≤ 31 = omega arith in
            let pairs : n * (n - 1) ≤ 992 = mul-le-mul few fewer in
            inr
            (omega (
              arith,
              ap (λ x. x.number) o,
              never_10 call ok weights_small pairs k q,
              never_11 call ok weights_small pairs pairs k q,
            ))
      ]

  -- A query on what was built.
  module _ (built : (build call).number ≡ 0) (s t : ℕ) where
    abbrev pub asked : QueryCall
    asked = query_call n (build call).hierarchy s t

    pub is_built : IsBuilt call
    is_built = record { weights = weights_small; number = built }

    passes : table_test n (build call).hierarchy ≡ true
    unfolding program_call
    passes = (tables_decided n (build call).hierarchy).1 (build_half call weights_small built).rules

    -- but for row 22 nothing is amiss
    nodes_there : Bool
    nodes_there = all (λ v. ltb v n) (s ∷ []) && all (λ v. ltb v n) (t ∷ [])

    only_22 : query_refusal asked ≡ first_met (row 22 (not nodes_there) ∷ [])
    unfolding query_refusal check_rows end_rows query_call ends_fit offset_fits first_met all nodes_there
    only_22 = rw (passes, le-ltb 32 n few, short_self (query_scratch n (build call).hierarchy))

    refused_or_not : (query_refusal asked ≡ 0) ⊎ (query_refusal asked ≡ 22)
    unfolding first_met
    refused_or_not = on_test nodes_there (λ t. inl (only_22 ∙ rw (t, first_met))) (λ t. inr (only_22 ∙ rw (t, first_met)))

    on_built : query_refusal asked ≡ 0 → OnBuilt call asked
    unfolding query_call program_call
    on_built fine =
        record {
          weights = weights_small;
          built = built;
          nodes = refl;
          tables = record { ranks = λ v h. refl; starts = λ s r h. refl; entries = λ s e h. refl };
          accepted = fine;
        }

    pub answered : ((query_refusal asked ≡ 0) × Answered (link_list call.links) asked) ⊎ ((query asked).number ≡ 22)
    unfolding no_route
    answered =
        elim refused_or_not [
          | inl fine ↦ inl (fine, third_demand call asked (on_built fine))
          | inr amiss ↦
              inr
              (elim (answers.replied asked) [
                | answers.early r p low high e ↦ ap (λ a. a.number) e ∙ sym p ∙ amiss
                | answers.none p m e ↦ absurd (omega arith)
                | answers.longer p m l e ↦ absurd (omega arith)
                | answers.found p m l e ↦ absurd (omega arith)
              ])
        ]

    pub query_numbers : ((query asked).number ≡ 0) ⊎ ((query asked).number ≡ 22)
    query_numbers =
        elim answered [
          | inl fine ↦ inl (elim fine.1 [ inl a ↦ a.number | inr a ↦ a.number ])
          | inr amiss ↦ inr amiss
        ]
