-- The run over the order: every level is as it should be, and what the graph reaches goes up and down by levels.
use mathlib.Core.Path.{◌≡◌, refl, sym, ◌∙◌, ap}
use mathlib.Core.Logic.{inl, inr}
use mathlib.Core.List.Memᴰ
use mathlib.Core.List.{List, [], ◌∷◌, ◌++◌, map, map-append, append_assoc}
use Prim.Native.Nat.{ℕ, suc, ◌+◌, ◌-◌, ◌≤◌, ◌<◌, zero-le}
use native.Mathlib.Omega.{arith}
use native.Mathlib.Numerals.{add-one}
use native.Mathlib.Nat.{add-sub_of_le}
use native.Mathlib.Decide.{ℕ_discrete}
use lib.Dec.{eqb}
use lib.ListN.{length, get_or, length-append, length-map}
use lib.Seq.{get_or-append_seam, get_or-append-add}
use borrow.Author.Tests.{eq-eqb}
use Rattle.rules.specs.Lists.{In}
use Rattle.rules.specs.Columns.{Link, Side, forward, backward}
use Rattle.rules.specs.Refusals.{BuildCall}
use Rattle.rules.specs.Graph.{Arc}
use Rattle.rules.specs.Build.{went, Level, arcs_of, neighbour_of, Building, rank_step, rank_steps}
use Rattle.rules.proofs.Ranges.{Differ}
use Rattle.rules.proofs.Steps.{went_same, both_went}
use Rattle.rules.proofs.Members.{get_d_in, in_rest}
use Rattle.rules.proofs.Positions.{position_is, position_first}
use Rattle.rules.proofs.Ranks.{level_of, with_level, Stepped, rank_stepped}
use Rattle.walks.specs.Paths.{Edges, Path, stay, step}
use Rattle.walks.proofs.Paths.{last_edge}
use Rattle.search_laws.proofs.Graphs.{Arcs, outs_in, ins_in}
use Rattle.build_laws.specs.Runs.{rank_of, Later, LevelOk, RunOk}
use Rattle.build_laws.proofs.Contraction.{contraction_keeps}
use Rattle.build_laws.proofs.Levels.{level_ok, level_more, contracted_ok}

-- the levels' edges, by side
abbrev pub LevelEdges : List Level → Side → Edges
LevelEdges ls s u v w =
    (l : Level) × In l ls × (l.node ≡ u) × (x : Arc) × In x (arcs_of s l) × (neighbour_of s x ≡ v) × (x.weight ≡ w)

abbrev pub LevelUpDown : List Level → ℕ → ℕ → ℕ → Type 0
LevelUpDown ls a b w =
    (m : ℕ) × (x : ℕ) × (y : ℕ) × Path (LevelEdges ls forward) m a x × Path (LevelEdges ls backward) m b y × (x + y ≤ w)

module _ (c : BuildCall) (ls : List Link) (d : ℕ) (differ : Differ c.order d) where
  rank_at : (k : ℕ) → k < length c.order → rank_of c.order (get_or c.order k d) ≡ k
  rank_at k h =
      let first = position_first (eqb (get_or c.order k d)) c.order k d h (eq-eqb (get_or c.order k d) _ refl) in
      differ _ k (omega arith) h (position_is c.order (get_or c.order k d) d (omega arith))

  module _ (v : ℕ) (vs : List ℕ) (b : Building) (ok : RunOk c ls (v ∷ vs) b) where
    pub next_inside : length b.levels < length c.order
    next_inside = omega (arith, simp (length-append, length-map) at (ap length ok.nodes))

    next_here : get_or c.order (length b.levels) d ≡ v
    next_here =
        rw (← ok.nodes, ← (length-map b.levels (λ l. l.node)))
        (get_or-append_seam (map (λ l. l.node) b.levels) v vs d)

    pub next_rank : rank_of c.order v ≡ length b.levels
    next_rank = rw next_here at (rank_at (length b.levels) next_inside)

    pub step_ok : (k : Building) → Stepped c v b k → RunOk c ls vs k
    step_ok k s =
        record {
          nodes = rw s.levels (ap (λ xs. xs ++ vs) (map-append (λ l. l.node) b.levels (level_of v b.graph ∷ [])) ∙ append_assoc (map (λ l. l.node) b.levels) (v ∷ []) vs ∙ ok.nodes);
          levels =
              λ l m.
              rw s.levels
              (elim (Memᴰ.append_cases b.levels (rw s.levels at m)) [
                | inl old ↦ level_more c.order ls (λ l m. Memᴰ.append_left _ m) l (ok.levels l old)
                | inr new ↦
                    rw (Memᴰ.eq_of_singleton new)
                    (level_ok c.order ls v (length b.levels) next_rank next_inside b.levels b.graph ok.graph)
              ]);
          graph =
              let longer : length k.levels ≡ suc (length b.levels) =
              ap length s.levels ∙ length-append b.levels (level_of v b.graph ∷ []) ∙ add-one (length b.levels)
              in
              rw (longer, s.levels)
              (contracted_ok c.order ls c.pool c.limit v (length b.levels) next_rank b.levels b.graph ok.graph
              k.graph
              s.contracts);
        }

  -- a node that is not yet contracted is in the rest
  later_in_rest : (xs vs : List ℕ) → xs ++ vs ≡ c.order → (u : ℕ) → Later c.order (length xs) u → In u vs
  later_in_rest xs vs e u l =
      let k : ℕ = rank_of c.order u - length xs in
      let total = simp length-append at (ap length e) in
      Memᴰ.cast
      (sym
      (sym (get_or-append-add xs vs k d) ∙ ap (λ zs. get_or zs (length xs + k) d) e ∙
      ap (λ i. get_or c.order i d) (add-sub_of_le l.0) ∙ position_is c.order u d l.1))
      (get_d_in vs k d (omega (arith, total, l.0, l.1)))

  -- One rank of the claim: v, the levels K at the end, and the claim for the rest.
  module _ (v : ℕ) (vs : List ℕ) (b k : Building) (ok : RunOk c ls (v ∷ vs) b) (s : Stepped c v b k) (K : List Level)
      (written : In (level_of v b.graph) K)
      (claim : (a e w : ℕ) → In a vs → In e vs → Path (Arcs k.graph) e a w → LevelUpDown K a e w) where
    level : LevelOk c.order ls (with_level b.levels v b.graph) (level_of v b.graph)
    level =
        level_ok c.order ls v (length b.levels) (next_rank v vs b ok) (next_inside v vs b ok) b.levels b.graph ok.graph

    -- the neighbours of v are in the rest
    neighbour_in : (side : Side) (x : Arc) → In x (arcs_of side (level_of v b.graph)) → In (neighbour_of side x) vs
    neighbour_in side x m =
        let xs = map (λ l. l.node) b.levels in
        let long : length (xs ++ (v ∷ [])) ≡ suc (rank_of c.order v) =
        length-append xs (v ∷ []) ∙ add-one (length xs) ∙ ap suc (length-map b.levels (λ l. l.node) ∙ sym (next_rank v vs b ok))
        in
        later_in_rest (xs ++ (v ∷ [])) vs (append_assoc xs (v ∷ []) vs ∙ ok.nodes) (neighbour_of side x)
        (rw long (level.higher side x m))

    follow : {a e w : ℕ} → In a vs → In e vs → Path (Arcs b.graph) e a w → (a ≡ v → ⊥) → (e ≡ v → ⊥) → LevelUpDown K a e w
    follow ma me p offa offe =
        let q = contraction_keeps c.pool c.limit v b.graph k.graph s.contracts ok.graph.loopless (λ x m. (ok.graph.arcs x m).high) p offa offe in
        let r = claim _ _ _ ma me q.1 in
        (r.0, r.1, r.2, r.3, r.4, omega (arith, r.5, q.2))

    from_v : {a e w : ℕ} → Path (Arcs b.graph) e a w → a ≡ v → In e vs → (e ≡ v → ⊥) → LevelUpDown K a e w
    unfolding arcs_of neighbour_of
    from_v (stay same none) here me off = absurd (off (sym same ∙ here))
    from_v {a} {e} {w} (step d x y arc sum p) here me off =
        let out = outs_in b.graph v _ arc.1 here in
        let offd : d ≡ v → ⊥ = λ at. ok.graph.loopless _ arc.1 (here ∙ sym at) in
        let r = follow (neighbour_in forward _ out) me p offd off in (
          r.0,
          x + r.1,
          r.2,
          step {a = a} {w = x + r.1} d x r.1 (level_of v b.graph, written, sym here, _, out, refl, refl) refl r.3,
          r.4,
          omega (arith, r.5),
        )

    to_v : {a e w : ℕ} → Path (Arcs b.graph) e a w → e ≡ v → In a vs → (a ≡ v → ⊥) → LevelUpDown K a e w
    unfolding arcs_of neighbour_of
    to_v {a} {e} {w} p here ma off =
        let l = last_edge p (λ same. off (same ∙ here)) in
        let into = ins_in b.graph v _ l.4.1 here in
        let offu : l.0 ≡ v → ⊥ = λ at. ok.graph.loopless _ l.4.1 (at ∙ sym here) in
        let r = follow ma (neighbour_in backward _ into) l.3 off offu in (
          r.0,
          r.1,
          l.1 + r.2,
          r.3,
          step {a = e} {w = l.1 + r.2} l.0 l.1 r.2 (level_of v b.graph, written, sym here, _, into, refl, refl) refl r.4,
          omega (arith, r.5, l.5),
        )

    one_rank : (a e w : ℕ) → In a (v ∷ vs) → In e (v ∷ vs) → Path (Arcs b.graph) e a w → LevelUpDown K a e w
    one_rank a e w ma me p =
        elim (ℕ_discrete a v) [
          | yes ha ↦
              elim (ℕ_discrete e v) [
                | yes he ↦ (v, 0, 0, stay ha refl, stay he refl, zero-le)
                | no offe ↦ from_v p ha (in_rest e v vs me offe) offe
              ]
          | no offa ↦
              elim (ℕ_discrete e v) [
                | yes he ↦ to_v p he (in_rest a v vs ma offa) offa
                | no offe ↦ follow (in_rest a v vs ma offa) (in_rest e v vs me offe) p offa offe
              ]
        ]

  -- The claim: what the graph reaches among the rest goes up by forward edges and down by backward ones.
  pub up_down : (vs : List ℕ) (b k : Building) → rank_steps c vs b ≡ went k → RunOk c ls vs b →
      ((l : Level) → In l b.levels → In l k.levels) × RunOk c ls [] k ×
      ((a e w : ℕ) → In a vs → In e vs → Path (Arcs b.graph) e a w → LevelUpDown k.levels a e w)
  unfolding rank_steps
  up_down [] b k e ok =
      let same = went_same e in
      (λ l m. rw (← same) m, rw (← same) ok, λ a z w ma. absurd (Memᴰ.not-nil ma))
  up_down (v ∷ vs) b k e ok =
      let s = both_went (rank_step c v b) _ k e in
      let stepped = rank_stepped c v b s.0 s.1 in
      let rest = up_down vs s.0 k s.2 (step_ok v vs b ok s.0 stepped) in (
        λ l m. rest.0 l (rw stepped.levels (Memᴰ.append_left _ m)),
        rest.1,
        one_rank v vs b s.0 ok stepped k.levels
            (rest.0 (level_of v b.graph) (rw stepped.levels (Memᴰ.append_right b.levels (Memᴰ.head refl))))
            rest.2,
      )

-- what the tables held at the last rank they hold at the end
