-- Any two outcomes that the contract allows coincide.
use mathlib.Core.Path.{◌≡◌, sym, ap, ◌∙◌}
use Prim.Native.Nat.{ℕ}
use Rattle.calc_paths.specs.Many.{Answers, PathsCall, PathsAnswered}
use Rattle.calc_paths.specs.Filling.{answered}
use Rattle.calc_paths.specs.Outcome.{Outcome, Same}

pub one_outcome : (c : PathsCall) (r s : ℕ) (x y : Answers) → Outcome c r x → Outcome c s y → Same r s x y
one_outcome c r s x y a b =
    let e : answered r x ≡ answered s y = a ∙ sym b in
    record {
      number = ap (λ (z : PathsAnswered). z.number) e;
      numbers = ap (λ (z : PathsAnswered). z.after.numbers) e;
      weights = ap (λ (z : PathsAnswered). z.after.weights) e;
      lengths = ap (λ (z : PathsAnswered). z.after.lengths) e;
      paths = ap (λ (z : PathsAnswered). z.after.paths) e;
    }
