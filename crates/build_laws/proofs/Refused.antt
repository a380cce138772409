-- With which numbers a contraction can end: one traversal of its steps, over what the numbers are to pass.
use mathlib.Core.Path.{◌≡◌, refl, ap}
use mathlib.Core.List.Memᴰ
use mathlib.Core.List.{List, [], ◌∷◌}
use Prim.Native.Nat.{ℕ, suc, ◌≤◌}
use native.Mathlib.Omega.{arith}
use lib.ListN.{length}
use Rattle.rules.proofs.Ranges.{Differ, distinct_decides}
use Rattle.rules.specs.Numbers.{max_link_weight}
use Rattle.rules.specs.Columns.{Link, link_list, room}
use Rattle.rules.specs.Refusals.{BuildCall, build_refusal}
use Rattle.rules.specs.Graph.{Arc, outs, ins}
use Rattle.rules.specs.Search.{init}
use Rattle.rules.specs.Build.{went, in_pool, from_links, Contracting, shortcut, add, pair, pairs_of, handle_shortcuts, contract_node, Level, in_tables, Building, rank_step, rank_steps, contraction, finish_contraction, build}
use Rattle.rules.specs.Lists.{In}
use Rattle.rules.proofs.Pairs.{dropped, witness, unwitnessed, there, too_large, new, pair_goes}
use Rattle.rules.proofs.Accepted.{accepted_build}
use Rattle.rules.proofs.Ranks.{Stepped, rank_stepped, with_level}
use Rattle.rules.proofs.Numbers.{Only, went_only, refused_only, then_only}
use Rattle.rules.proofs.Outcomes.{early, late, whole, ended}
use Rattle.rules.specs.Accepted.{AcceptedBuild}
use Rattle.walks.specs.Promise.{Promise}
use Rattle.build_laws.proofs.Contraction.{Adds, pair_keeps, pairs_of_keeps, pool_held}
use Rattle.build_laws.specs.Runs.{rank_of, GraphOk, RunOk}
use Rattle.build_laws.proofs.Levels.{before, adds}
use Rattle.build_laws.proofs.Runs.{step_ok, next_rank}
use Rattle.build_laws.proofs.Starts.{first_building, first_run, links_ok, contraction_went}
use Rattle.build_laws.proofs.Promised.{promise}

module _ (P : ℕ → Type 0) where
  -- The steps, given that 12 passes, and the numbers that pool and tables give on what a build meets.
  module _ (c : BuildCall) (ok : AcceptedBuild c) (small : (w : ℕ) → In w c.links.weights → w ≤ max_link_weight)
      (twelve : P 12)
      (pool_only : (levels : List Level) (r t : ℕ) (g : List Arc) → GraphOk c.order (link_list c.links) levels r t g → Only P (in_pool c.pool g)) where
    abbrev ls : List Link
    ls = link_list c.links

    abbrev differ : Differ c.order 0
    differ = (distinct_decides c.order 0).0 ok.order_distinct

    -- contracting v, of rank r
    module _ (v r : ℕ) (at : rank_of c.order v ≡ r) (levels : List Level) (g : List Arc) (gok : GraphOk c.order ls levels r r g) where
      abbrev Mid : List Arc → Type 0
      Mid k = GraphOk c.order ls (with_level levels v g) r (suc r) k

      keeps : (xs bs : List Arc) → ((a : Arc) → In a xs → In a (ins g v)) → ((b : Arc) → In b bs → In b (outs g v)) → Adds c.pool c.limit v Mid xs bs
      keeps xs bs subx subb a b k ma mb off low _ x =
          adds c.order ls c.pool c.limit v r at levels g gok a b k (subx a ma) (subb b mb) off low x

      pair_only : (a b : Arc) → In a (ins g v) → In b (outs g v) → (k : Contracting) → Mid k.graph → Only P (pair c.pool c.limit v a b k)
      unfolding add shortcut
      pair_only a b ma mb k mid =
          elim (pair_goes c.limit v a b k) [
            | dropped _ is ↦ rw (is c.pool) (went_only P _)
            | witness _ _ is ↦ rw (is c.pool) (went_only P _)
            | unwitnessed differs _ u ↦
                elim u [
                  | there _ _ is ↦ rw (is c.pool) (went_only P _)
                  | too_large _ _ is ↦ rw (is c.pool) (refused_only P 12 twelve)
                  | new light is ↦
                      rw (is c.pool)
                      (then_only P _ _
                      (pool_only (with_level levels v g) r (suc r) _
                      (adds c.order ls c.pool c.limit v r at levels g gok a b k.graph ma mb differs light mid))
                      (λ m _. went_only P _))
                ]
          ]

      pairs_of_only : (a : Arc) (bs : List Arc) → In a (ins g v) → ((b : Arc) → In b bs → In b (outs g v)) → (k : Contracting) → Mid k.graph →
          Only P (pairs_of c.pool c.limit v a bs k)
      unfolding pairs_of
      pairs_of_only a [] ma subb k mid = went_only P k
      pairs_of_only a (b ∷ bs) ma subb k mid =
          then_only P _ _ (pair_only a b ma (subb b (Memᴰ.head refl)) k mid)
          (λ k' e.
          pairs_of_only a bs ma (λ b' m. subb b' (Memᴰ.tail m)) k'
          (pair_keeps c.pool c.limit v Mid a b k k'
          (keeps (a ∷ []) (b ∷ []) (λ a' m. Memᴰ.cast (Memᴰ.eq_of_singleton m) ma)
          (λ b' m. Memᴰ.cast (Memᴰ.eq_of_singleton m) (subb b (Memᴰ.head refl))))
          e
          mid))

      shortcuts_only : (xs : List Arc) → ((a : Arc) → In a xs → In a (ins g v)) → (k : List Arc) → Mid k →
          Only P (handle_shortcuts c.pool c.limit v xs (outs g v) k)
      unfolding handle_shortcuts
      shortcuts_only [] subx k mid = went_only P k
      shortcuts_only (a ∷ xs) subx k mid =
          let start : Contracting = record { graph = k; search = init a.tail } in
          then_only P _ _ (pairs_of_only a (outs g v) (subx a (Memᴰ.head refl)) (λ b m. m) start mid)
          (λ k' e.
          shortcuts_only xs (λ a' m. subx a' (Memᴰ.tail m)) k'.graph
          (pairs_of_keeps c.pool c.limit v Mid a (outs g v) start k'
          (keeps (a ∷ []) (outs g v) (λ a' m. Memᴰ.cast (Memᴰ.eq_of_singleton m) (subx a (Memᴰ.head refl))) (λ b m. m))
          e
          mid))

      contract_only : Only P (contract_node c.pool c.limit v g)
      unfolding contract_node
      contract_only =
          then_only P _ _ (shortcuts_only (ins g v) (λ a m. m) g (before c.order ls c.pool c.limit v r at levels g gok))
          (λ k _. went_only P _)

    -- the run over the order, with what else may hold of every state, B
    module _ (B : Building → Type 0)
        (tables_only : (v : ℕ) (vs : List ℕ) (b : Building) → RunOk c ls (v ∷ vs) b → B b →
        Only P (in_tables (room c.lent.forward) (room c.lent.backward) (with_level b.levels v b.graph)))
        (next : (v : ℕ) (vs : List ℕ) (b k : Building) → RunOk c ls (v ∷ vs) b → Stepped c v b k → B b → B k)
        (first : B (first_building c ok small)) where
      steps_only : (vs : List ℕ) (b : Building) → RunOk c ls vs b → B b → Only P (rank_steps c vs b)
      unfolding rank_steps rank_step
      steps_only [] b run x = went_only P b
      steps_only (v ∷ vs) b run x =
          then_only P _ _
          (then_only P _ _ (tables_only v vs b run x)
          (λ levels _.
          then_only P _ _
          (contract_only v (length b.levels) (next_rank c ls 0 differ v vs b run) b.levels b.graph run.graph)
          (λ g _. went_only P _)))
          (λ k e.
          let s = rank_stepped c v b k e in
          steps_only vs k (step_ok c ls 0 differ v vs b run k s) (next v vs b k run s x))

      pub contraction_only : Only P (contraction c)
      unfolding contraction from_links
      contraction_only =
          then_only P _ _ (pool_only [] 0 0 _ (links_ok c ok small))
          (λ g e.
          let same = (pool_held c.pool _ g e).0 in
          rw same (steps_only c.order (first_building c ok small) (first_run c ok small) first))

module _ (c : BuildCall) (small : (w : ℕ) → In w c.links.weights → w ≤ max_link_weight) where
  -- a build that answers 0 was accepted, and its contraction went
  pub record Went : Type 0 where
    pub accepted : build_refusal c ≡ 0
    pub building : Building
    pub contracts : contraction c ≡ went building
    pub tables : (build c).hierarchy ≡ finish_contraction c building.levels

  pub build_went : (build c).number ≡ 0 → Went
  build_went done =
      elim (ended c) [
        | early r p low high e ↦ absurd (omega (arith, ap (λ x. x.number) e))
        | late r p q low high e ↦ absurd (omega (arith, ap (λ x. x.number) e))
        | whole b p q e ↦ record { accepted = p; building = b; contracts = q; tables = ap (λ x. x.hierarchy) e }
      ]

  -- The build's half: what a build that was not refused promises.
  pub build_half : (build c).number ≡ 0 → Promise c.nodes (link_list c.links) (build c).hierarchy
  build_half e =
      let w = build_went e in
      let ok = accepted_build c w.accepted in
      rw w.tables (promise c ok small w.building (contraction_went c ok small w.building w.contracts))
