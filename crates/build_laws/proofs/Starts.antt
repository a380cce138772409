-- The links as the first graph, and the whole contraction of an accepted build.
use mathlib.Core.Path.{◌≡◌, refl, sym, ◌∙◌, ap}
use mathlib.Core.Logic.{inl, inr}
use mathlib.Core.Bool.{true}
use mathlib.Core.List.Memᴰ
use mathlib.Core.List.{List, [], ◌∷◌, map}
use Prim.Native.Nat.{ℕ, ◌≤◌, ◌<◌, zero-le}
use native.Mathlib.Omega.{arith}
use lib.Dec.{eqb}
use lib.ListN.{length}
use borrow.Author.Tests.{eq-eqb}
use Rattle.rules.specs.Numbers.{max_link_weight, invalid}
use Rattle.rules.specs.Lists.{In, flat_map}
use Rattle.rules.specs.Columns.{Link, link_list}
use Rattle.rules.specs.Refusals.{BuildCall, ascending}
use Rattle.rules.specs.Graph.{joins, Apart}
use Rattle.rules.specs.Build.{went, link_arc, from_links, raws, Building, rank_steps, contraction}
use Rattle.rules.proofs.Arcs.{joined_ends}
use Rattle.rules.proofs.Ranges.{distinct_decides}
use Rattle.rules.proofs.Cases.{on_test}
use Rattle.rules.proofs.Steps.{both_went}
use Rattle.rules.proofs.Members.{in_map, map_in, weight_in}
use Rattle.rules.proofs.Positions.{position_below}
use Rattle.rules.proofs.Pigeonhole.{every_below}
use Rattle.rules.proofs.Ascending.{Before, ascending_before}
use Rattle.rules.proofs.Ranks.{Fit, levels_fit}
use Rattle.rules.specs.Accepted.{AcceptedBuild}
use Rattle.walks.specs.Paths.{Path}
use Rattle.walks.specs.Walks.{Linked}
use Rattle.walks.proofs.Paths.{Lighter, lighter_path}
use Rattle.search_laws.proofs.Graphs.{Arcs}
use Rattle.build_laws.proofs.Contraction.{pool_held}
use Rattle.build_laws.specs.Runs.{rank_of, GraphOk, RunOk}
use Rattle.build_laws.proofs.Runs.{LevelUpDown, up_down}

-- ascending links have no ends in common
links_apart : (ls : List Link) → ascending ls ≡ true → Apart (map link_arc ls)
unfolding link_arc
links_apart [] e = tt
links_apart (k ∷ ls) e =
    let a = ascending_before k ls e in (
      λ y m.
          on_test (joins (link_arc k) y)
          (λ t.
          let i = in_map link_arc y ls m in
          let ends = joined_ends (link_arc k) y t in
          absurd (clash k i.0 (a.0 i.0 i.1) (sym (ap (λ x. x.tail) i.2) ∙ ends.0) (sym (ap (λ x. x.head) i.2) ∙ ends.1)))
          (λ t. t),
      links_apart ls a.1,
    )
  where
    clash : (k l : Link) → Before k l → l.tail ≡ k.tail → l.head ≡ k.head → ⊥
    clash k l (inl p) s t = omega arith
    clash k l (inr p) s t = omega (arith, p.1)

module _ (c : BuildCall) (ok : AcceptedBuild c) (small : (w : ℕ) → In w c.links.weights → w ≤ max_link_weight) where
  abbrev links : List Link
  links = link_list c.links

  -- every node is in the order
  pub ranked : (u : ℕ) → u < c.nodes → rank_of c.order u < length c.order
  ranked u below =
      position_below (eqb u) c.order u
      (every_below c.nodes c.order ok.order_distinct ok.order_below ok.order_length u below)
      (eq-eqb u u refl)

  pub links_ok : GraphOk c.order links [] 0 0 (map link_arc links)
  unfolding link_arc link_list
  links_ok =
      record {
        loopless = λ x m. let i = in_map link_arc x links m in rw i.2 (ok.loopless i.0 i.1);
        apart = links_apart links ok.links_ascend;
        tails = λ x m. let i = in_map link_arc x links m in rw i.2 (zero-le, ranked i.0.tail (ok.below i.0 i.1).0);
        heads = λ x m. let i = in_map link_arc x links m in rw i.2 (zero-le, ranked i.0.head (ok.below i.0 i.1).1);
        arcs =
            λ x m.
            let i = in_map link_arc x links m in
            rw i.2
            (record {
              low = ok.positive i.0 i.1;
              high = omega (arith, small i.0.weight (weight_in c.links.tails c.links.heads c.links.weights i.0 i.1));
              centred = inl (refl, i.1);
            });
      }

  -- a link is an arc of the first graph
  links_arcs : Lighter (Linked links) (Arcs (map link_arc links))
  unfolding link_arc
  links_arcs u v w m = (w, (invalid, map_in link_arc _ links m), omega arith)

  abbrev pub first_building : Building
  first_building = record { graph = map link_arc links; levels = [] }

  pub first_run : RunOk c links c.order first_building
  first_run = record { nodes = refl; levels = λ l m. absurd (Memᴰ.not-nil m); graph = links_ok }

  -- What a contraction that went leaves: levels, and every path over links up and down by them.
  pub record Contracted (b : Building) : Type 0 where
    pub run : RunOk c links [] b
    pub fit : Fit c b.levels
    pub goes : (a e w : ℕ) → a < c.nodes → e < c.nodes → Path (Linked links) e a w → LevelUpDown b.levels a e w

  pub contraction_went : (b : Building) → contraction c ≡ went b → Contracted b
  unfolding contraction from_links raws flat_map
  contraction_went b e =
      let s = both_went (from_links c.pool links) _ b e in
      let held = pool_held c.pool (map link_arc links) s.0 s.1 in
      let steps : rank_steps c c.order first_building ≡ went b = rw held.0 at s.2 in
      let differ = (distinct_decides c.order 0).0 ok.order_distinct in
      let u =
      up_down c links 0 differ c.order first_building b steps
      first_run
      in
      record {
        run = u.1;
        fit = levels_fit c c.order first_building b steps (record { fwd = zero-le; bwd = zero-le });
        goes =
            λ a e w ha he p.
            let q = lighter_path links_arcs p in
            let r = u.2 a e q.0 (inside a ha) (inside e he) q.1 in
            (r.0, r.1, r.2, r.3, r.4, omega (arith, r.5, q.2));
      }
    where
      inside : (v : ℕ) → v < c.nodes → In v c.order
      inside v h = every_below c.nodes c.order ok.order_distinct ok.order_below ok.order_length v h
