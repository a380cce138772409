-- The four ends of a query, and what it then hands back.
use mathlib.Core.Path.{◌≡◌, refl, ◌∙◌, ap}
use mathlib.Core.List.{List, [], ◌∷◌, ◌++◌, reverse}
use Prim.Native.Nat.{ℕ, zero, suc, ◌≤◌, ◌<◌}
use native.Mathlib.Omega.{arith}
use lib.Dec.{eqb, ltb}
use lib.ListN.{length, length-append}
use borrow.Author.Tests.{eqb-true, eqb-false, ltb-true, ltb-false}
use Rattle.rules.specs.Numbers.{invalid}
use Rattle.rules.specs.Lists.{over, flat_map}
use Rattle.rules.specs.Columns.{Hierarchy, forward, backward}
use Rattle.rules.specs.Refusals.{QueryCall, query_refusal}
use Rattle.rules.specs.Unpack.{unpacked}
use Rattle.rules.specs.Query.{Halves, Answered, climb, root, walk, no_route, handed_back, searched, route, unless_refused, query}
use Rattle.rules.specs.FirstDemand.{Nothing, Handed}
use Rattle.rules.proofs.Cases.{on_test}
use Rattle.rules.proofs.Prefixes.{over_at}
use Rattle.rules.proofs.Outcomes.{over_beyond}
use Rattle.rules.proofs.Numbers.{query_refusal_most}

module _ (q : QueryCall) where
  -- the walk that the steps find
  abbrev pub found_walk : List ℕ
  found_walk = walk q.hierarchy q.nodes (searched q) (searched q).best.node

  abbrev pub found_answer : Answered
  found_answer = record { number = 0; weight = (searched q).best.sum; walk = found_walk; path = over q.path found_walk }

  pub data Replied : Type 0 where
    early : (r : ℕ) → query_refusal q ≡ r → 1 ≤ r → r ≤ 24 → query q ≡ no_route q r → Replied
    none : query_refusal q ≡ 0 → (searched q).best.node ≡ invalid → query q ≡ no_route q 0 → Replied
    longer : query_refusal q ≡ 0 → ((searched q).best.node ≡ invalid → ⊥) → length q.path < length found_walk → query q ≡ no_route q 25 → Replied
    found : query_refusal q ≡ 0 → ((searched q).best.node ≡ invalid → ⊥) → length found_walk ≤ length q.path → query q ≡ found_answer → Replied

  pub replied : Replied
  unfolding query unless_refused route handed_back
  replied = go (query_refusal q) refl
    where
      go : (k : ℕ) → query_refusal q ≡ k → Replied
      go (suc k) p = early (suc k) p (omega arith) (omega (arith, query_refusal_most q)) (ap (unless_refused q) p)
      go zero p =
          on_test (eqb (searched q).best.node invalid)
          (λ t. none p (eqb-true (searched q).best.node invalid t) (ap (unless_refused q) p ∙ rw (t, route)))
          (λ t.
          let away = eqb-false (searched q).best.node invalid t in
          on_test (ltb (length q.path) (length found_walk))
          (λ u.
          longer p away (ltb-true (length q.path) (length found_walk) u)
          (ap (unless_refused q) p ∙ rw (t, route, u, handed_back)))
          (λ u.
          found p away (ltb-false (length q.path) (length found_walk) u)
          (ap (unless_refused q) p ∙ rw (t, route, u, handed_back))))

  pub nothing : (r : ℕ) → query q ≡ no_route q r → Nothing q (query q)
  unfolding no_route
  nothing r e = rw e (record { weight = refl; part = refl; path = refl })

  -- a walk has at least its last node
  walk_some : (h : Hierarchy) (n : ℕ) (x : Halves) (m : ℕ) → 1 ≤ length (walk h n x m)
  unfolding walk
  walk_some h n x m =
      let up = flat_map (unpacked h forward) (climb n x.fwd m) in
      let down = flat_map (unpacked h backward) (reverse (climb n x.bwd m)) in
      let last : List ℕ = root n x.bwd m ∷ [] in
      omega (arith, length-append up (down ++ last), length-append down last)

  pub handed : length found_walk ≤ length q.path → query q ≡ found_answer → Handed q (query q)
  handed fits e =
      rw e
      (record {
        some = walk_some q.hierarchy q.nodes (searched q) (searched q).best.node;
        front = λ i d h. over_at q.path found_walk i d h;
        beyond = over_beyond q.path found_walk (length found_walk) refl fits;
      })
