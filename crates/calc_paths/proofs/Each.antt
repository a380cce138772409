-- Pair by pair, what the definition leaves is an outcome of the pair's single query.
use mathlib.Core.List.{List, [], ◌++◌, map, append_assoc}
use mathlib.Core.Path.{◌≡◌, refl, sym, ap, ◌∙◌}
use Prim.Native.Nat.{ℕ, zero, suc, ◌+◌, ◌*◌, ◌-◌, ◌<◌, ◌≤◌}
use native.Mathlib.Nat.{zero-mul, suc-mul, mul-le-mul_right}
use native.Mathlib.Omega.{arith}
use lib.Dec.{eqb, ltb}
use lib.ListN.{length, get_or, take, drop, length-map, length-drop}
use lib.Seq.{take_at, take-append_seam, drop-append-add, length-take-le}
use borrow.Author.Tests.{ltb-false}
use Rattle.rules.specs.Numbers.{invalid}
use Rattle.rules.specs.Lists.{count_from, range, over, flat_map}
use Rattle.rules.specs.Refusals.{QueryCall, query_refusal}
use Rattle.rules.specs.Query.{Answered, Halves, no_route, handed_back, searched, walk, query, route as query_route, unless_refused as query_unless_refused}
use Rattle.rules.proofs.Cases.{on_test}
use Rattle.rules.proofs.Prefixes.{over_at, over_length, counted_length}
use Rattle.query.specs.Answers.{answer, Tells}
use Rattle.calc_paths.specs.Many.{Answers, PathsCall, PathsAnswered, own_places, single, paths_refusal, answers_of, answers, unless_refused, calc_paths}
use Rattle.calc_paths.specs.Outcome.{Outcome, EachPair}
use Rattle.calc_paths.proofs.Rows.{fillable}

-- What a query leaves of its path: as many places, and the walk in their front.
pub record Left (q : QueryCall) (a : Answered) : Type 0 where
  pub long : length a.path ≡ length q.path
  pub front : take (length a.walk) a.path ≡ a.walk

left_none : (q : QueryCall) (number : ℕ) → Left q (no_route q number)
unfolding no_route
left_none q number = record { long = refl; front = refl }

left_walk : (q : QueryCall) (weight : ℕ) (w : List ℕ) → Left q (handed_back q weight w)
unfolding handed_back over
left_walk q weight w =
    on_test (ltb (length q.path) (length w))
    (λ t. rw (t, handed_back) (left_none q 25))
    (λ f.
    rw (f, handed_back)
    (record { long = over_length q.path w (ltb-false (length q.path) (length w) f); front = take-append_seam w (drop (length w) q.path) }))

left_route : (q : QueryCall) (x : Halves) → Left q (query_route q x)
unfolding query_route
left_route q x =
    on_test (eqb x.best.node invalid)
    (λ t. rw (t, query_route) (left_none q 0))
    (λ f. rw (f, query_route) (left_walk q x.best.sum (walk q.hierarchy q.nodes x x.best.node)))

left_unless : (q : QueryCall) (r : ℕ) → Left q (query_unless_refused q r)
unfolding query_unless_refused
left_unless q zero = left_route q (searched q)
left_unless q (suc r) = left_none q (suc r)

left : (q : QueryCall) → Left q (query q)
unfolding query
left q = left_unless q (query_refusal q)

tells_own : (q : QueryCall) → Tells (query q) (answer (query q).number (query q).weight (length (query q).walk)) (query q).path
tells_own q =
    record {
      is = λ i. record { number = (query q).number; weight = (query q).weight; walk = (left q).front i; path = (query q).path };
      count = refl;
    }

-- A column of numbers, and of blocks of n.
mapped_at : (f : ℕ → ℕ) (a m k : ℕ) → k < m → get_or (map f (count_from a m)) k 0 ≡ f (a + k)
unfolding count_from
mapped_at f a zero k h = absurd (omega arith)
mapped_at f a (suc m) zero h =
    let e : a ≡ a + zero = omega arith in
    ap f e
mapped_at f a (suc m) (suc k) h =
    let e : suc a + k ≡ a + suc k = omega arith in
    mapped_at f (suc a) m k (omega arith) ∙ ap f e

number_at : (f : ℕ → ℕ) (lent : List ℕ) (p k : ℕ) → k < p → get_or (over lent (map f (range 0 p))) k 0 ≡ f k
unfolding range
number_at f lent p k h =
    let z : 0 + k ≡ k = omega arith in
    over_at lent (map f (range 0 p)) k 0 (omega (arith, length-map (range 0 p) f, counted_length 0 (p - 0)))
    ∙ mapped_at f 0 (p - 0) k (omega arith)
    ∙ ap f z

module _ (n : ℕ) (g : ℕ → List ℕ) (rest : List ℕ) where
  block_at : (a m k : ℕ) → ((j : ℕ) → j < a + m → length (g j) ≡ n) → k < m →
      take n (drop (k * n) (flat_map g (count_from a m) ++ rest)) ≡ g (a + k)
  unfolding count_from flat_map
  block_at a zero k long h = absurd (omega arith)
  block_at a (suc m) zero long h =
      let e : a ≡ a + zero = omega arith in
      ap (λ j. take n (drop j ((g a ++ flat_map g (count_from (suc a) m)) ++ rest))) (zero-mul n)
      ∙ ap (take n) (append_assoc (g a) (flat_map g (count_from (suc a) m)) rest)
      ∙ take_at (g a) (flat_map g (count_from (suc a) m) ++ rest) n (long a (omega arith))
      ∙ ap g e
  block_at a (suc m) (suc k) long h =
      let e : suc a + k ≡ a + suc k = omega arith in
      let x = flat_map g (count_from (suc a) m) ++ rest in
      let d : suc k * n ≡ length (g a) + k * n = omega (arith, suc-mul k n, long a (omega arith)) in
      (λ i. take n (drop (d i) (append_assoc (g a) (flat_map g (count_from (suc a) m)) rest i)))
      ∙ ap (take n) (drop-append-add (g a) x (k * n))
      ∙ block_at (suc a) m k (λ j below. long j (omega arith)) (omega arith)
      ∙ ap g e

  blocks_at : (p k : ℕ) → ((j : ℕ) → j < p → length (g j) ≡ n) → k < p → take n (drop (k * n) (flat_map g (range 0 p) ++ rest)) ≡ g k
  unfolding range
  blocks_at p k long h =
      let z : 0 + k ≡ k = omega arith in
      block_at 0 (p - 0) k (λ j below. long j (omega arith)) (omega arith) ∙ ap g z

-- the number is that of the first row, so that 0 means that none is met
number_is : (c : PathsCall) (r : ℕ) → (unless_refused c r).number ≡ r
unfolding unless_refused
number_is c zero = refl
number_is c (suc r) = refl

module _ (c : PathsCall) (r : ℕ) (after : Answers) (o : Outcome c r after) (none : r ≡ 0) where
  fine : paths_refusal c ≡ 0
  unfolding calc_paths
  fine = sym (number_is c (paths_refusal c)) ∙ sym (ap (λ (z : PathsAnswered). z.number) o) ∙ none

  after_is : after ≡ answers c
  unfolding calc_paths unless_refused
  after_is = ap (λ (z : PathsAnswered). z.after) o ∙ rw fine

  room : length c.sources * c.nodes ≤ length c.lent.paths
  room = (fillable c.nodes c.hierarchy c.sources c.targets c.lent c.scratch fine {fl = []} {bl = []} (record { fwd = λ v below. omega arith; bwd = λ v below. omega arith })).path_room

  own_long : (j : ℕ) → j < length c.sources → length (query (single c j)).path ≡ c.nodes
  unfolding single own_places
  own_long j below =
      let n = c.nodes in
      let most = mul-le-mul_right {m = suc j} {n = length c.sources} n (omega arith) in
      (left (single c j)).long
      ∙ length-take-le n (drop (j * n) c.lent.paths) (omega (arith, length-drop (j * n) c.lent.paths, most, suc-mul j n, room))

  pub each_pair : EachPair c after
  unfolding answers_of own_places over
  each_pair k below =
      let q = single c k in
      let ks = flat_map (λ j. (query (single c j)).path) (range 0 (length c.sources)) in
      rw (
        after_is,
        number_at (λ j. (query (single c j)).number) c.lent.numbers (length c.sources) k below,
        number_at (λ j. (query (single c j)).weight) c.lent.weights (length c.sources) k below,
        number_at (λ j. length (query (single c j)).walk) c.lent.lengths (length c.sources) k below,
        blocks_at c.nodes (λ j. (query (single c j)).path) (drop (length ks) c.lent.paths) (length c.sources) k own_long below,
      )
      (tells_own q)
