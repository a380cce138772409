-- The run over the order, rank by rank: one level more each time, and all of them within the tables.
use mathlib.Core.Path.{◌≡◌, sym, ◌∙◌, ap, ap₂, refl}
use mathlib.Core.Bool.{◌&&◌}
use mathlib.Core.List.{List, [], ◌∷◌, ◌++◌, map}
use Prim.Native.Nat.{ℕ, ◌+◌, ◌≤◌, zero-le}
use native.Mathlib.Omega.{arith}
use lib.Dec.{leb}
use lib.ListN.{length, length-append, length-map}
use borrow.Author.Tests.{leb-true}
use Rattle.rules.specs.Lists.{flat_map}
use Rattle.rules.specs.Columns.{Side, forward, backward, room, link_list}
use Rattle.rules.specs.Refusals.{BuildCall}
use Rattle.rules.specs.Graph.{Arc, outs, ins}
use Rattle.rules.specs.Build.{went, from_links, in_tables, contract_node, Level, arcs_of, level_raws, raws, Building, rank_step, rank_steps, contraction}
use Rattle.rules.proofs.Cases.{on_test}
use Rattle.rules.proofs.Decides.{and_both}
use Rattle.rules.proofs.Steps.{went_same, refused_not_went, both_went}
use Rattle.rules.proofs.Prefixes.{sizes}

-- the level that rule 2 writes for v, and the levels with it
abbrev pub level_of : ℕ → List Arc → Level
level_of v g = record { node = v; outs = outs g v; ins = ins g v }

abbrev pub with_level : List Level → ℕ → List Arc → List Level
with_level levels v g = levels ++ (level_of v g ∷ [])

pub level_size : (s : Side) (l : Level) → length (level_raws s l) ≡ length (arcs_of s l)
unfolding level_raws
level_size s l = length-map (arcs_of s l) _

pub same_sizes : (s : Side) (ls : List Level) → sizes (level_raws s) ls ≡ map (λ l. length (arcs_of s l)) ls
same_sizes s [] = refl
same_sizes s (l ∷ ls) = ap₂ (λ x xs. x ∷ xs) (level_size s l) (same_sizes s ls)

module _ (c : BuildCall) where
  -- levels whose entries the tables hold
  pub record Fit (ls : List Level) : Type 0 where
    pub fwd : length (raws forward ls) ≤ room c.lent.forward
    pub bwd : length (raws backward ls) ≤ room c.lent.backward

  tables_held : (ls ks : List Level) → in_tables (room c.lent.forward) (room c.lent.backward) ls ≡ went ks → (ks ≡ ls) × Fit ls
  unfolding in_tables
  tables_held ls ks e =
      on_test (leb (length (raws forward ls)) (room c.lent.forward) && leb (length (raws backward ls)) (room c.lent.backward))
      (λ t.
      let b = and_both _ _ t in (
        sym (went_same (rw (t, in_tables) at e)),
        record { fwd = leb-true _ _ b.0; bwd = leb-true _ _ b.1 },
      ))
      (λ t. absurd (refused_not_went (rw (t, in_tables) at e)))

  -- A rank's step that went.
  pub record Stepped (v : ℕ) (b k : Building) : Type 0 where
    pub levels : k.levels ≡ with_level b.levels v b.graph
    pub contracts : contract_node c.pool c.limit v b.graph ≡ went k.graph
    pub fit : Fit k.levels

  pub rank_stepped : (v : ℕ) (b k : Building) → rank_step c v b ≡ went k → Stepped v b k
  unfolding rank_step
  rank_stepped v b k e =
      let s = both_went (in_tables (room c.lent.forward) (room c.lent.backward) (with_level b.levels v b.graph)) _ k e in
      let held = tables_held (with_level b.levels v b.graph) s.0 s.1 in
      let t = both_went (contract_node c.pool c.limit v b.graph) _ k s.2 in
      let same = sym (went_same t.2) in
      let levels = ap (λ x. x.levels) same ∙ held.0 in
      record {
        levels = levels;
        contracts = t.1 ∙ ap went (sym (ap (λ x. x.graph) same));
        fit = rw levels held.1;
      }

pub levels_fit : (c : BuildCall) (vs : List ℕ) (b k : Building) → rank_steps c vs b ≡ went k → Fit c b.levels → Fit c k.levels
unfolding rank_steps
levels_fit c [] b k e f = rw (← (went_same e)) f
levels_fit c (v ∷ vs) b k e f =
    let s = both_went (rank_step c v b) _ k e in
    levels_fit c vs s.0 k s.2 (rank_stepped c v b s.0 s.1).fit

-- a level for each node of the order
pub levels_many : (c : BuildCall) (vs : List ℕ) (b k : Building) → rank_steps c vs b ≡ went k → length k.levels ≡ length b.levels + length vs
unfolding rank_steps
levels_many c [] b k e = ap (λ x. length x.levels) (sym (went_same e)) ∙ omega arith
levels_many c (v ∷ vs) b k e =
    let s = both_went (rank_step c v b) _ k e in
    let more = ap length (rank_stepped c v b s.0 s.1).levels ∙ length-append b.levels (level_of v b.graph ∷ []) in
    omega (arith, more, levels_many c vs s.0 k s.2)

-- what a contraction that went leaves of levels
pub contraction_levels : (c : BuildCall) (b : Building) → contraction c ≡ went b → (length b.levels ≡ length c.order) × Fit c b.levels
unfolding contraction raws flat_map
contraction_levels c b e =
    let s = both_went (from_links c.pool (link_list c.links)) _ b e in
    let first : Building = record { graph = s.0; levels = [] } in (
      levels_many c c.order first b s.2 ∙ omega arith,
      levels_fit c c.order first b s.2 (record { fwd = zero-le; bwd = zero-le }),
    )
