-- Rule 3 for one pair: what its steps come to, by what they find; and the ways that a pair can go, its tests taken once for all that is
-- proved of it, and whatever the pool.
use mathlib.Core.Path.{◌≡◌, ◌∙◌}
use mathlib.Core.Bool.{true, false}
use mathlib.Core.List.{List}
use Prim.Native.Nat.{ℕ, ◌+◌, ◌≤◌, ◌<◌}
use lib.Dec.{eqb, ltb, leb}
use borrow.Author.Tests.{eqb-true, eqb-false, leb-true, leb-false, le-leb, lt-leb, ltb-true, ltb-false, le-ltb, lt-ltb}
use Rattle.rules.specs.Numbers.{max_weight}
use Rattle.rules.specs.Graph.{Arc, kept}
use Rattle.rules.specs.Search.{Search, Found, find_max_weight}
use Rattle.rules.specs.Build.{went, refused, Contracting, shortcut, add, unless_kept, within_sum, unless_witness, ask, pair}
use Rattle.rules.proofs.Cases.{on_test}

-- Without a witness.
module _ (pool limit v : ℕ) (s : Arc) (g : List Arc) (found : Search) where
  pub light_added : s.weight ≤ max_weight → within_sum pool limit v s g found ≡ add pool limit v s g found
  unfolding within_sum
  light_added small = rw (le-ltb max_weight s.weight small, within_sum)

  module _ (large : max_weight < s.weight) where
    pub heavy_kept_out : kept s g ≡ true → within_sum pool limit v s g found ≡ went (record { graph = g; search = found })
    unfolding within_sum unless_kept
    heavy_kept_out there = rw (lt-ltb max_weight s.weight large, within_sum, there, unless_kept)

    pub heavy_refused : kept s g ≡ false → within_sum pool limit v s g found ≡ refused 12
    unfolding within_sum unless_kept
    heavy_refused none = rw (lt-ltb max_weight s.weight large, within_sum, none, unless_kept)

-- The search of a shortcut, and what comes of its answer.
module _ (limit v : ℕ) (s : Arc) (c : Contracting) where
  abbrev pub found_for : Found
  found_for = find_max_weight c.graph v limit s.head s.weight c.search

  module _ (pool : ℕ) where
    pub witness_drops : found_for.weight ≤ s.weight → ask pool limit v s c ≡ went (record { graph = c.graph; search = found_for.search })
    unfolding ask unless_witness
    witness_drops h = rw (le-leb found_for.weight s.weight h, unless_witness)

    pub none_goes_on : s.weight < found_for.weight → ask pool limit v s c ≡ within_sum pool limit v s c.graph found_for.search
    unfolding ask unless_witness
    none_goes_on h = rw (lt-leb found_for.weight s.weight h, unless_witness)

module _ (limit v : ℕ) (a b : Arc) (c : Contracting) where
  -- what the search of the pair answers
  abbrev pub sought : Found
  sought = find_max_weight c.graph v limit b.head (a.weight + b.weight) c.search

  -- the graph as it was, and the search as it then is
  abbrev pub searched : Contracting
  searched = record { graph = c.graph; search = sought.search }

  -- No witness: an arc keeps a sum above 2^40 out, or it is refused, or the shortcut is added.
  pub data Unwitnessed : Type 0 where
    there : max_weight < a.weight + b.weight → kept (shortcut v a b) c.graph ≡ true → ((pool : ℕ) → pair pool limit v a b c ≡ went searched) → Unwitnessed
    too_large : max_weight < a.weight + b.weight → kept (shortcut v a b) c.graph ≡ false → ((pool : ℕ) → pair pool limit v a b c ≡ refused 12) → Unwitnessed
    new : a.weight + b.weight ≤ max_weight → ((pool : ℕ) → pair pool limit v a b c ≡ add pool limit v (shortcut v a b) c.graph sought.search) → Unwitnessed

  pub data Goes : Type 0 where
    dropped : a.tail ≡ b.head → ((pool : ℕ) → pair pool limit v a b c ≡ went c) → Goes
    witness : (a.tail ≡ b.head → ⊥) → sought.weight ≤ a.weight + b.weight → ((pool : ℕ) → pair pool limit v a b c ≡ went searched) → Goes
    unwitnessed : (a.tail ≡ b.head → ⊥) → a.weight + b.weight < sought.weight → Unwitnessed → Goes

  pub pair_goes : Goes
  unfolding pair shortcut
  pair_goes =
      let s = shortcut v a b in
      on_test (eqb a.tail b.head)
      (λ t. dropped (eqb-true a.tail b.head t) (λ _. rw (t, pair)))
      (λ t.
      let differ = eqb-false a.tail b.head t in
      on_test (leb sought.weight (a.weight + b.weight))
      (λ w.
      let found = leb-true sought.weight (a.weight + b.weight) w in
      witness differ found (λ pool. rw (t, pair) (witness_drops limit v s c pool found)))
      (λ w.
      let unseen = leb-false sought.weight (a.weight + b.weight) w in
      unwitnessed differ unseen
      (on_test (ltb max_weight (a.weight + b.weight))
      (λ u.
      let large = ltb-true max_weight (a.weight + b.weight) u in
      on_test (kept s c.graph)
      (λ k.
      there large k
      (λ pool. rw (t, pair) (none_goes_on limit v s c pool unseen ∙ heavy_kept_out pool limit v s c.graph sought.search large k)))
      (λ k.
      too_large large k
      (λ pool. rw (t, pair) (none_goes_on limit v s c pool unseen ∙ heavy_refused pool limit v s c.graph sought.search large k))))
      (λ u.
      let small = ltb-false max_weight (a.weight + b.weight) u in
      new small
      (λ pool. rw (t, pair) (none_goes_on limit v s c pool unseen ∙ light_added pool limit v s c.graph sought.search small))))))
