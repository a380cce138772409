-- Any two outcomes that the contract of a query allows coincide.
use mathlib.Core.List.{List}
use mathlib.Core.Path.{◌≡◌, sym, ap, ◌∙◌}
use Prim.Native.Nat.{ℕ}
use Rattle.rules.specs.Refusals.{QueryCall}
use Rattle.query.specs.Answers.{Answer, told}
use Rattle.query.specs.Outcome.{Outcome, Same}

pub one_outcome : (c : QueryCall) (r s : Answer) (p q : List ℕ) → Outcome c r p → Outcome c s q → Same r s p q
one_outcome c r s p q o u =
    let e : told r p ≡ told s q = o.is ∙ sym u.is in
    record {
      number = ap (λ a. a.number) e;
      weight = ap (λ a. a.weight) e;
      count = o.count ∙ sym u.count;
      path_is = ap (λ a. a.path) e;
    }
