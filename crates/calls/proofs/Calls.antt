-- What a call leaves is what its definition says, of which the demands hold.
use mathlib.Core.List.{List}
use mathlib.Core.Logic.{◌⊎◌, inl, inr}
use mathlib.Core.Path.{◌≡◌, sym, ap, ◌∙◌, subst}
use Prim.Native.Nat.{ℕ}
use native.Mathlib.Omega.{arith}
use lib.ListN.{length}
use Rattle.rules.specs.Lists.{over}
use Rattle.rules.specs.Columns.{link_list, Hierarchy}
use Rattle.rules.specs.Refusals.{BuildCall, QueryCall}
use Rattle.rules.specs.Build.{build}
use Rattle.rules.specs.Query.{Answered, query}
use Rattle.walks.specs.Agreement.{Agree}
use Rattle.query_laws.specs.LeastWalk.{LeastWalk}
use Rattle.routes.proofs.ThirdDemand.{third_demand}
use Rattle.fast_graph_builder.proofs.Outcome as build_outcome
use Rattle.query.specs.Answers.{Answer}
use Rattle.query.proofs.Outcome as query_outcome
use Rattle.calc_paths.proofs.Outcome as many_outcome
use Rattle.calc_paths.proofs.Each.{each_pair}
use Rattle.calls.specs.Calls.{Asked, ToldNone, ToldWalk, Calls}

module _ (c : BuildCall) (r : ℕ) (h : Hierarchy) (q : QueryCall) (a : Answer) (path : List ℕ) (o : Asked c r h q a path) where
  built : (build c).number ≡ 0
  built = sym (ap (λ b. b.number) o.build_left) ∙ o.built

  tables : Agree c.nodes (build c).hierarchy q.hierarchy
  tables = rw (ap (λ b. b.hierarchy) o.build_left) at o.tables

  number_is : a.number ≡ (query q).number
  number_is = ap (λ (b : Answered). b.number) o.query_left.is

  told : ToldNone (link_list c.links) q a path ⊎ ToldWalk (link_list c.links) q a path
  told =
      let e = o.query_left.is in
      let count = o.query_left.count in
      elim (third_demand c q (record { weights = o.weights; built = built; nodes = o.nodes; tables = tables; accepted = o.accepted })) [
        | inl none ↦
            inl
            (record {
              number = number_is ∙ none.number;
              weight = ap (λ b. b.weight) e ∙ none.weight;
              count = count ∙ ap length none.walk;
              path_is = ap (λ b. b.path) e ∙ none.path;
              unreachable = none.unreachable;
            })
        | inr walk ↦
            inr
            (record {
              number = number_is ∙ walk.number;
              least_walk = subst (λ b. LeastWalk (link_list c.links) q.sources q.targets b.weight b.walk) (sym e) walk.least_walk;
              fits = omega (arith, count, walk.fits);
              path_is = ap (λ b. b.path) e ∙ walk.path ∙ ap (λ b. over q.path b.walk) (sym e);
            })
      ]

pub calls : Calls
calls =
    record {
      third_demand = told;
      each_pair = each_pair;
      one_build = build_outcome.one_outcome;
      one_check = λ n h r s p q. p ∙ sym q;
      one_query = query_outcome.one_outcome;
      one_many = many_outcome.one_outcome;
      one_record_answer = λ input out r s out' out'' p q. (p.end ∙ sym q.end, p.is ∙ sym q.is);
    }
