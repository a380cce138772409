-- Any two outcomes that the contract of a build allows coincide.
use mathlib.Core.Path.{◌≡◌, sym, ◌∙◌, ap}
use Prim.Native.Nat.{ℕ}
use Rattle.rules.specs.Columns.{Table, Hierarchy}
use Rattle.rules.specs.Refusals.{BuildCall}
use Rattle.fast_graph_builder.specs.Promises.{answer}
use Rattle.fast_graph_builder.specs.Outcome.{Outcome, SameTable, Same}

same_table : (t u : Table) → t ≡ u → SameTable t u
same_table t u e =
    record {
      starts = ap (λ x. x.starts) e;
      bases = ap (λ x. x.bases) e;
      neighbours = ap (λ x. x.neighbours) e;
      weights = ap (λ x. x.weights) e;
      in_numbers = ap (λ x. x.in_numbers) e;
      out_numbers = ap (λ x. x.out_numbers) e;
    }

pub one_outcome : (c : BuildCall) (r s : ℕ) (h k : Hierarchy) → Outcome c r h → Outcome c s k → Same r s h k
one_outcome c r s h k o p =
    let e : answer r h ≡ answer s k = o ∙ sym p in
    record {
      number = ap (λ b. b.number) e;
      ranks = ap (λ b. b.hierarchy.ranks) e;
      forward = same_table _ _ (ap (λ b. b.hierarchy.forward) e);
      backward = same_table _ _ (ap (λ b. b.hierarchy.backward) e);
    }
