-- Refusals that cannot come: a pool of n(n - 1) never meets 10, tables of n(n - 1)/2 never meet 11.
use mathlib.Core.Path.{◌≡◌, refl, sym, ◌∙◌, ap}
use mathlib.Core.List.{List, [], ◌∷◌, ◌++◌, map, append-nil}
use Prim.Native.Nat.{ℕ, zero, suc, ◌+◌, ◌-◌, ◌*◌, ◌≤◌}
use native.Mathlib.Omega.{arith}
use native.Mathlib.Nat.{mul-suc, suc-mul}
use native.Mathlib.Numerals.{add-one}
use lib.ListN.{length, length-append, length-map}
use borrow.Author.Tests.{le-leb}
use Rattle.rules.specs.Numbers.{max_link_weight}
use Rattle.rules.specs.Lists.{In, flat_map}
use Rattle.rules.specs.Columns.{Link, link_list, Side, forward, backward, room}
use Rattle.rules.specs.Refusals.{BuildCall}
use Rattle.rules.specs.Graph.{Arc}
use Rattle.rules.specs.Build.{refused, in_pool, Level, arcs_of, neighbour_of, level_raws, raws, in_tables, Building, contraction}
use Rattle.rules.proofs.Decides.{both_and}
use Rattle.rules.proofs.Ranges.{Differ, distinct_decides}
use Rattle.rules.proofs.Members.{in_map}
use Rattle.rules.proofs.Positions.{same_position}
use Rattle.rules.proofs.Pigeonhole.{at_most}
use Rattle.rules.proofs.Prefixes.{flat_map_append}
use Rattle.rules.proofs.Ranks.{level_of, with_level, level_size}
use Rattle.rules.proofs.Numbers.{went_only, pool_leaf, tables_leaf}
use Rattle.rules.specs.Accepted.{AcceptedBuild}
use Rattle.build_laws.specs.Runs.{rank_of, LevelOk, RunOk}
use Rattle.build_laws.proofs.Levels.{level_ok}
use Rattle.build_laws.proofs.Runs.{next_rank, next_inside}
use Rattle.build_laws.proofs.Room.{codes_distinct, live_most}
use Rattle.build_laws.proofs.BuiltTables.{ends_by_side}
use Rattle.build_laws.proofs.Refused.{contraction_only}

-- 0 + 1 + .. + (n - 1), which is n(n - 1)/2
unfoldable pub triangle : ℕ → ℕ
triangle zero = 0
triangle (suc n) = n + triangle n

triangle_next : (n : ℕ) → 2 * triangle (suc n) ≡ suc n * n
unfolding triangle
triangle_next zero = refl
triangle_next (suc n) = omega (arith, triangle_next n, suc-mul (suc n) (suc n), mul-suc (suc n) n)

triangle_step : (n : ℕ) → triangle (suc n) ≡ n + triangle n
unfolding triangle
triangle_step n = refl

triangle_twice : (n : ℕ) → 2 * triangle n ≡ n * (n - 1)
unfolding triangle
triangle_twice zero = refl
triangle_twice (suc n) = triangle_next n ∙ ap (λ k. suc n * k) (omega arith)

-- a level of rank r has at most n - 1 - r arcs a side: the neighbours' ranks are higher, and differ
pub level_short : (order : List ℕ) (ls : List Link) (levels : List Level) (l : Level) → LevelOk order ls levels l → (s : Side) →
    length (arcs_of s l) ≤ length order - suc (rank_of order l.node)
level_short order ls levels l ok s =
    omega (
      arith,
      length-map (arcs_of s l) code,
      at_most (length order - suc r) (map code (arcs_of s l)) (codes_distinct code (arcs_of s l) (ok.apart s) told)
          (λ k m.
          let x = in_map code k (arcs_of s l) m in
          let h = ok.higher s x.0 x.1 in
          rw x.2 (omega (arith, h.0, h.1))),
    )
  where
    r : ℕ
    r = rank_of order l.node

    code : Arc → ℕ
    code x = rank_of order (neighbour_of s x) - suc r

    told : (x y : Arc) → In x (arcs_of s l) → In y (arcs_of s l) → code x ≡ code y → (x.tail ≡ y.tail) × (x.head ≡ y.head)
    told x y mx my e =
        let hx = ok.higher s x mx in
        let hy = ok.higher s y my in
        ends_by_side s x y (ok.own s x mx ∙ sym (ok.own s y my))
        (same_position order (neighbour_of s x) (neighbour_of s y) (omega (arith, hx.0, hy.0, e)) hx.1)

module _ (c : BuildCall) (ok : AcceptedBuild c) (small : (w : ℕ) → In w c.links.weights → w ≤ max_link_weight) where
  abbrev n : ℕ
  n = c.nodes

  pub never_10 : n * (n - 1) ≤ c.pool → (r : ℕ) → contraction c ≡ refused r → r ≡ 10 → ⊥
  unfolding in_pool
  never_10 enough =
      contraction_only (λ r. r ≡ 10 → ⊥) c ok small (λ e. omega (arith, e))
      (λ levels r t g k.
      let most : length g ≤ c.pool =
      omega (arith, live_most c.order (link_list c.links) levels r t g k, ap (λ m. m * (m - 1)) ok.order_length)
      in
      rw (le-leb (length g) c.pool most, in_pool) (went_only (λ r. r ≡ 10 → ⊥) g))
      (λ _. Unit {0})
      (λ v vs b _ _. tables_leaf (λ r. r ≡ 10 → ⊥) (λ e. omega (arith, e)) (room c.lent.forward) (room c.lent.backward) _)
      (λ v vs b k _ _ x. x)
      tt

  -- what the levels so far leave of the triangle
  abbrev Left : List Level → Type 0
  Left levels = (s : Side) → length (raws s levels) + triangle (length c.order - length levels) ≤ triangle (length c.order)

  abbrev differ : Differ c.order 0
  differ = (distinct_decides c.order 0).0 ok.order_distinct

  left_next : (v : ℕ) (vs : List ℕ) (b : Building) → RunOk c (link_list c.links) (v ∷ vs) b → Left b.levels → Left (with_level b.levels v b.graph)
  unfolding raws flat_map
  left_next v vs b run x s =
      let inside = next_inside c (link_list c.links) 0 differ v vs b run in
      let at = next_rank c (link_list c.links) 0 differ v vs b run in
      let l = level_of v b.graph in
      let long : length (with_level b.levels v b.graph) ≡ suc (length b.levels) =
      length-append b.levels (l ∷ []) ∙ add-one (length b.levels)
      in
      let entries : length (raws s (with_level b.levels v b.graph)) ≡ length (raws s b.levels) + length (arcs_of s l) =
      ap length (flat_map_append (level_raws s) b.levels (l ∷ [])) ∙ length-append (raws s b.levels) (level_raws s l ++ []) ∙
      ap (λ k. length (raws s b.levels) + k) (ap length (append-nil (level_raws s l)) ∙ level_size s l)
      in
      let short =
      level_short c.order (link_list c.links) _ l
      (level_ok c.order (link_list c.links) v (length b.levels) at inside b.levels b.graph run.graph)
      s
      in
      let m : ℕ = length c.order - suc (length b.levels) in
      let down : triangle (length c.order - length b.levels) ≡ m + triangle m = ap triangle (omega arith) ∙ triangle_step m in
      omega (arith, x s, long, entries, short, at, down, ap (λ k. triangle (length c.order - k)) long)

  pub never_11 : n * (n - 1) ≤ 2 * room c.lent.forward → n * (n - 1) ≤ 2 * room c.lent.backward → (r : ℕ) → contraction c ≡ refused r → r ≡ 11 → ⊥
  unfolding in_tables raws flat_map
  never_11 fwd bwd =
      contraction_only (λ r. r ≡ 11 → ⊥) c ok small (λ e. omega (arith, e))
      (λ levels r t g _. pool_leaf (λ r. r ≡ 11 → ⊥) (λ e. omega (arith, e)) c.pool g)
      (λ b. Left b.levels)
      (λ v vs b run x.
      let levels = with_level b.levels v b.graph in
      let y = left_next v vs b run x in
      let twice = triangle_twice (length c.order) in
      let nodes = ap (λ m. m * (m - 1)) ok.order_length in
      let f = le-leb (length (raws forward levels)) (room c.lent.forward) (omega (arith, y forward, twice, nodes)) in
      let g = le-leb (length (raws backward levels)) (room c.lent.backward) (omega (arith, y backward, twice, nodes)) in
      rw (both_and _ _ f g, in_tables) (went_only (λ r. r ≡ 11 → ⊥) levels))
      (λ v vs b k run s x. rw s.levels (left_next v vs b run x))
      (λ s. let whole : length c.order - 0 ≡ length c.order = omega arith in omega (arith, ap triangle whole))
