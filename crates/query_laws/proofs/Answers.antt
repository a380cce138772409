-- What a query answers, way by way.
use mathlib.Core.Path.{◌≡◌, refl}
use mathlib.Core.Bool.{true, false}
use mathlib.Core.List.{List}
use Prim.Native.Nat.{ℕ, zero, suc, ◌≤◌, ◌<◌}
use lib.Dec.{eqb}
use lib.ListN.{length}
use borrow.Author.Tests.{lt-ltb, le-ltb}
use Rattle.rules.specs.Numbers.{invalid}
use Rattle.rules.specs.Lists.{over}
use Rattle.rules.specs.Refusals.{QueryCall, query_refusal}
use Rattle.rules.specs.Query.{Halves, walk, no_route, handed_back, searched, route, unless_refused, query}

pub accepted_query : (q : QueryCall) → query_refusal q ≡ 0 → query q ≡ route q (searched q)
unfolding query unless_refused
accepted_query q fine = rw fine

refused : (q : QueryCall) (r : ℕ) → (r ≡ 0 → ⊥) → unless_refused q r ≡ no_route q r
unfolding unless_refused
refused q zero some = absurd (some refl)
refused q (suc r) some = refl

pub refused_query : (q : QueryCall) (r : ℕ) → r ≡ query_refusal q → (r ≡ 0 → ⊥) → query q ≡ no_route q r
unfolding query
refused_query q r is some = rw (← is) (refused q r some)

module _ (q : QueryCall) (x : Halves) where
  pub route_none : eqb x.best.node invalid ≡ true → route q x ≡ no_route q 0
  unfolding route
  route_none t = rw (t, route)

  pub route_found : eqb x.best.node invalid ≡ false → route q x ≡ handed_back q x.best.sum (walk q.hierarchy q.nodes x x.best.node)
  unfolding route
  route_found t = rw (t, route)

module _ (q : QueryCall) (w : ℕ) (vs : List ℕ) where
  -- a walk that fits the path buffer is handed back
  pub handed_fits : length vs ≤ length q.path → handed_back q w vs ≡ record { number = 0; weight = w; walk = vs; path = over q.path vs }
  unfolding handed_back
  handed_fits fits = rw (le-ltb (length q.path) (length vs) fits, handed_back)

  -- a longer one is refused
  pub handed_long : length q.path < length vs → handed_back q w vs ≡ no_route q 25
  unfolding handed_back
  handed_long long = rw (lt-ltb (length q.path) (length vs) long, handed_back)
