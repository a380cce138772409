-- What the code answers: a refusal, no route, or a route.
use Rattle.std.specs.Prelude.{Option, None, Some, Result, Ok, Err, List, [], ◌∷◌, ℕ}
use Rattle.rules.specs.Numbers.{no_weight}
use Rattle.rules.specs.declared.Refusal.{Refusal}
use Rattle.rules.specs.Refused.{number_of}
use Rattle.query.specs.declared.ShortestPath.{ShortestPath}
use Rattle.halves.specs.declared.Half.{Half}
use Rattle.halves.specs.declared.Lengths.{Lengths}
use Rattle.halves.specs.Slices.{lengths_of, Kept}
use Rattle.rules.specs.Refusals.{QueryCall}
use Rattle.query.specs.Answers.{Answer, answer, Routing, Routed}

-- "a refusal, or none": the no-weight mark and no walk
abbrev pub answer_of : Result (Option ShortestPath) Refusal → Answer
answer_of (Ok (Some r)) = answer 0 r.weight r.count
answer_of (Ok None) = answer 0 no_weight 0
answer_of (Err r) = answer (number_of r) no_weight 0

-- The slices of both sides are a query's scratch, of which only the lengths matter.
abbrev pub lengths_lent : Lengths → Lengths → List ℕ
lengths_lent x y = x.labels ∷ y.labels ∷ x.heap ∷ y.heap ∷ []

abbrev pub scratch_of : Half → Half → List ℕ
scratch_of x y = lengths_lent (lengths_of x) (lengths_of y)

abbrev pub RoutingOn : (List ℕ → QueryCall) → Half → Half → Type 0
RoutingOn c x y = Routing (c (scratch_of x y)) x.labels.now y.labels.now x.base

pub record RoutedOn (c : List ℕ → QueryCall) (x y : Half) (r : Answer) (path : List ℕ) (x' y' : Half) : Type 0 where
  pub routed : Routed (c (scratch_of x y)) r path x'.labels.now y'.labels.now x.base
  pub fwd_kept : Kept x x'
  pub bwd_kept : Kept y y'
