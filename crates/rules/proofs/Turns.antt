-- A search by its turns: what its first turn can be, and what every turn keeps.
use mathlib.Core.Path.{◌≡◌, refl}
use mathlib.Core.Bool.{false, ◌||◌}
use mathlib.Core.List.{List, [], ◌∷◌}
use Prim.Native.Nat.{ℕ, zero, suc}
use lib.Dec.{ltb, leb}
use Rattle.rules.specs.Heap.{Item}
use Rattle.rules.specs.Graph.{Arc}
use Rattle.rules.specs.Search.{Search, with_heap, settle, reached, run, search_fuel, answer, find_max_weight}
use Rattle.rules.proofs.Cases.{on_test}

-- Two runs from one search, by their first turn: both stop, or both go on with the fuel that is left to them.
module _ (g : List Arc) (avoid limit target sum : ℕ) (R : Search → Search → Type 0) where
  pub first_turn : (j k : ℕ) (s : Search) → R s s →
      ((i : Item) (q : List Item) → s.heap ≡ i ∷ q →
      R (run g avoid limit target sum j (with_heap q s)) (run g avoid limit target sum k (with_heap q s))) →
      ((i : Item) (q : List Item) → s.heap ≡ i ∷ q → leb limit s.count ≡ false → s.settled i.node ≡ false →
      R (settle g avoid i (with_heap q s)) (settle g avoid i (with_heap q s)) ×
      R (run g avoid limit target sum j (settle g avoid i (with_heap q s))) (run g avoid limit target sum k (settle g avoid i (with_heap q s)))) →
      R (run g avoid limit target sum (suc j) s) (run g avoid limit target sum (suc k) s)
  unfolding run
  first_turn j k s stops passes settles = go s.heap refl
    where
      go : (q : List Item) → s.heap ≡ q → R (run g avoid limit target sum (suc j) s) (run g avoid limit target sum (suc k) s)
      go [] e = rw (e, run) stops
      go (i ∷ q) e =
          rw (e, run)
          (on_test (leb limit s.count) (λ t. rw t stops)
          (λ below.
          rw below
          (on_test (ltb sum i.weight) (λ t. rw t stops)
          (λ t.
          rw t
          (on_test (s.settled i.node)
          (λ t. rw t (passes i q e))
          (λ t.
          let on = settles i q e below t in
          rw t
          (on_test (reached g avoid limit target sum i (settle g avoid i (with_heap q s)))
          (λ t. rw t on.0)
          (λ t. rw t on.1))))))))

-- What passing over an entry keeps, and settling one, a whole search keeps.
module _ (g : List Arc) (avoid limit target sum : ℕ) (P : Search → Type 0)
    (passed : (i : Item) (q : List Item) (s : Search) → s.heap ≡ i ∷ q → P s → P (with_heap q s))
    (settles : (i : Item) (q : List Item) (s : Search) → s.heap ≡ i ∷ q → leb limit s.count ≡ false → s.settled i.node ≡ false → P s →
    P (settle g avoid i (with_heap q s))) where
  pub run_keeps : (k : ℕ) (s : Search) → P s → P (run g avoid limit target sum k s)
  unfolding run
  run_keeps zero s x = x
  run_keeps (suc k) s x =
      first_turn g avoid limit target sum (λ r _. P r) k k s x
      (λ i q e. run_keeps k (with_heap q s) (passed i q s e x))
      (λ i q e low t.
      let y = settles i q s e low t x in
      (y, run_keeps k (settle g avoid i (with_heap q s)) y))

  pub search_keeps : (s : Search) → P s → P (find_max_weight g avoid limit target sum s).search
  unfolding find_max_weight answer
  search_keeps s x =
      on_test (s.settled target || leb (s.label target) sum)
      (λ t. rw (t, find_max_weight) x)
      (λ t. rw (t, find_max_weight) (run_keeps (search_fuel g avoid limit target sum s) s x))
