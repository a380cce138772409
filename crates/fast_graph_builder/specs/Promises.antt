-- What the functions ask and promise.
use Rattle.std.specs.Prelude.{List, [], ◌∷◌, ◌⊎◌, ◌≡◌, ℕ, ◌*◌, ◌-◌, ◌≤◌, length, Result}
use Rattle.rules.specs.Numbers.{max_link_weight}
use Rattle.rules.specs.Lists.{In}
use Rattle.rules.specs.Columns.{Hierarchy, marked}
use Rattle.rules.specs.Refusals.{BuildCall, build_refusal}
use Rattle.rules.specs.Build.{Step, Building, Built, contraction, built}
use Rattle.rules.specs.declared.Refusal.{Refusal}
use Rattle.search.specs.Searching.{Lent}
use Rattle.contraction.specs.Ranks.{Stage}
use Rattle.contraction.specs.Ranks.{parts_of}
use Rattle.contraction.specs.Promises.{Accepted, Came}

-- what a call answers, and what every lent place then holds
abbrev pub answer : ℕ → Hierarchy → Built
answer r h = record { number = r; hierarchy = h }

-- rules 1 to 5 of a call
abbrev pub run : BuildCall → Built
run c = built c (contraction c)

-- of scratch only the lengths matter
abbrev pub lengths : (arcs weights nodes labels heap : List ℕ) → List ℕ
lengths a w n l h = length a ∷ length w ∷ length n ∷ length l ∷ length h ∷ []

-- the pool's size, or n(n - 1) where it is larger
pub record Inside (n pool r : ℕ) : Type 0 where
  pub most : r ≤ pool
  pub small : r ≤ 1048576
  pub enough : (r ≡ pool) ⊎ ((n * (n - 1) ≤ pool) × (n * (n - 1) ≤ r))

-- the ranks are laid into h, or a refusal was met; what the ranks do not write is as it was lent
pub record Closing (c : BuildCall) (s : Step Building) (m : Lent) (n : ℕ) (order : List ℕ) (ranked : Result Stage Refusal) (h : Hierarchy) : Type 0 where
  pub ok : Accepted c
  pub steps : s ≡ contraction c
  pub nodes_are : c.nodes ≡ n
  pub order_is : c.order ≡ order
  pub came : Came c s (parts_of h) m ranked
  pub ranks_are : h.ranks ≡ c.lent.ranks
  pub fwd_outs : h.forward.out_numbers ≡ c.lent.forward.out_numbers
  pub bwd_outs : h.backward.out_numbers ≡ c.lent.backward.out_numbers
  pub marks : marked h ≡ marked c.lent

-- rows 1 to 9 are not met
pub record Passed (c : BuildCall) : Type 0 where
  pub accepted : build_refusal c ≡ 0
  pub weights : (w : ℕ) → In w c.links.weights → w ≤ max_link_weight
