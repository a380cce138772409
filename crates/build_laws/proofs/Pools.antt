-- A pool of n(n - 1) places is as good as any larger one.
use mathlib.Core.Path.{◌≡◌, refl, sym, ◌∙◌, ap}
use mathlib.Core.List.Memᴰ
use mathlib.Core.List.{List, [], ◌∷◌}
use Prim.Native.Nat.{ℕ, suc, ◌+◌, ◌-◌, ◌*◌, ◌≤◌}
use native.Mathlib.Omega.{arith}
use lib.ListN.{length}
use borrow.Author.Tests.{le-leb}
use Rattle.rules.specs.Numbers.{max_link_weight, max_weight}
use Rattle.rules.specs.Lists.{In}
use Rattle.rules.specs.Columns.{link_list}
use Rattle.rules.specs.Refusals.{BuildCall}
use Rattle.rules.specs.Graph.{Arc, outs, ins, add_or_reduce}
use Rattle.rules.specs.Search.{init}
use Rattle.rules.specs.Build.{Step, went, refused, and_then, in_pool, from_links, graph_of, Contracting, shortcut, add, pair, pairs_of, handle_shortcuts, contract_node, Level, Building, rank_step, rank_steps, contraction}
use Rattle.rules.proofs.Pairs.{sought, dropped, witness, unwitnessed, there, too_large, new, pair_goes}
use Rattle.rules.proofs.Ranges.{distinct_decides}
use Rattle.rules.proofs.Ranks.{rank_stepped, with_level}
use Rattle.rules.specs.Accepted.{AcceptedBuild}
use Rattle.build_laws.proofs.Contraction.{Adds, pair_keeps, pairs_of_keeps, pool_held}
use Rattle.build_laws.specs.Runs.{GraphOk, RunOk}
use Rattle.build_laws.proofs.Levels.{before, adds}
use Rattle.build_laws.proofs.Runs.{next_rank, step_ok}
use Rattle.build_laws.proofs.Starts.{first_run}
use Rattle.build_laws.proofs.Room.{live_most}

-- what follows a step is only asked where it went
then_same : {A B : Type 0} (m : Step A) (f g : A → Step B) → ((a : A) → m ≡ went a → f a ≡ g a) → and_then m f ≡ and_then m g
unfolding and_then
then_same (went a) f g h = h a refl
then_same (refused r) f g h = refl

-- Two pools that hold every graph of a kind.
module _ (p q limit v : ℕ) (P : List Arc → Type 0) (in_p : (g : List Arc) → P g → length g ≤ p) (in_q : (g : List Arc) → P g → length g ≤ q) where
  pool_same : (g : List Arc) → P g → in_pool p g ≡ in_pool q g
  unfolding in_pool
  pool_same g x = rw (le-leb (length g) p (in_p g x), le-leb (length g) q (in_q g x), in_pool)

  -- a shortcut keeps the kind
  abbrev More : List Arc → List Arc → Type 0
  More xs bs =
      (a b : Arc) (g : List Arc) → In a xs → In b bs → (a.tail ≡ b.head → ⊥) → a.weight + b.weight ≤ max_weight → P g →
      P (add_or_reduce (shortcut v a b) g)

  adding : (xs bs : List Arc) → More xs bs → Adds q limit v P xs bs
  adding xs bs more a b g ma mb off small _ x = more a b g ma mb off small x

  pair_same : (a b : Arc) (c : Contracting) → More (a ∷ []) (b ∷ []) → P c.graph → pair p limit v a b c ≡ pair q limit v a b c
  unfolding add shortcut
  pair_same a b c more x =
      elim (pair_goes limit v a b c) [
        | dropped _ is ↦ is p ∙ sym (is q)
        | witness _ _ is ↦ is p ∙ sym (is q)
        | unwitnessed differ _ u ↦
            elim u [
              | there _ _ is ↦ is p ∙ sym (is q)
              | too_large _ _ is ↦ is p ∙ sym (is q)
              | new small is ↦
                  is p ∙
                  ap (λ m. and_then m (λ g. went (record { graph = g; search = (sought limit v a b c).search })))
                  (pool_same (add_or_reduce (shortcut v a b) c.graph)
                  (more a b c.graph (Memᴰ.head refl) (Memᴰ.head refl) differ small x)) ∙
                  sym (is q)
            ]
      ]

  pairs_same : (a : Arc) (bs : List Arc) (c : Contracting) → More (a ∷ []) bs → P c.graph → pairs_of p limit v a bs c ≡ pairs_of q limit v a bs c
  unfolding pairs_of
  pairs_same a [] c more x = refl
  pairs_same a (b ∷ bs) c more x =
      let here : More (a ∷ []) (b ∷ []) = λ a' b' g ma mb. more a' b' g ma (Memᴰ.head (Memᴰ.eq_of_singleton mb)) in
      ap (λ m. and_then m (λ c'. pairs_of p limit v a bs c')) (pair_same a b c here x) ∙
      then_same (pair q limit v a b c) _ _
      (λ c' e.
      pairs_same a bs c' (λ a' b' g ma mb. more a' b' g ma (Memᴰ.tail mb)) (pair_keeps q limit v P a b c c' (adding (a ∷ []) (b ∷ []) here) e x))

  shortcuts_same : (xs bs g : List Arc) → More xs bs → P g → handle_shortcuts p limit v xs bs g ≡ handle_shortcuts q limit v xs bs g
  unfolding handle_shortcuts
  shortcuts_same [] bs g more x = refl
  shortcuts_same (a ∷ xs) bs g more x =
      let c : Contracting = record { graph = g; search = init a.tail } in
      let here : More (a ∷ []) bs = λ a' b' g ma. more a' b' g (Memᴰ.head (Memᴰ.eq_of_singleton ma)) in
      ap (λ m. and_then m (λ c'. handle_shortcuts p limit v xs bs c'.graph)) (pairs_same a bs c here x) ∙
      then_same (pairs_of q limit v a bs c) _ _
      (λ c' e.
      shortcuts_same xs bs c'.graph (λ a' b' g ma. more a' b' g (Memᴰ.tail ma)) (pairs_of_keeps q limit v P a bs c c' (adding (a ∷ []) bs here) e x))

abbrev pub with_pool : BuildCall → ℕ → BuildCall
with_pool c p =
    record { nodes = c.nodes; links = c.links; order = c.order; limit = c.limit; pool = p; lent = c.lent; scratch = c.scratch }

module _ (c : BuildCall) (ok : AcceptedBuild c) (small : (w : ℕ) → In w c.links.weights → w ≤ max_link_weight) (p : ℕ)
    (enough : c.nodes * (c.nodes - 1) ≤ c.pool) (enough_p : c.nodes * (c.nodes - 1) ≤ p) where
  few : {levels : List Level} {r t : ℕ} (g : List Arc) → GraphOk c.order (link_list c.links) levels r t g → length g ≤ c.nodes * (c.nodes - 1)
  few {levels} {r} {t} g k =
      omega (arith, live_most c.order (link_list c.links) levels r t g k, ap (λ m. m * (m - 1)) ok.order_length)

  abbrev Run : List ℕ → Building → Type 0
  Run vs b = RunOk c (link_list c.links) vs b

  step_same : (v : ℕ) (vs : List ℕ) (b : Building) → Run (v ∷ vs) b → rank_step (with_pool c p) v b ≡ rank_step c v b
  unfolding rank_step contract_node
  step_same v vs b run =
      let r = length b.levels in
      let at = next_rank c (link_list c.links) 0 ((distinct_decides c.order 0).0 ok.order_distinct) v vs b run in
      let Kind = GraphOk c.order (link_list c.links) (with_level b.levels v b.graph) r (suc r) in
      let same : handle_shortcuts p c.limit v (ins b.graph v) (outs b.graph v) b.graph ≡ handle_shortcuts c.pool c.limit v (ins b.graph v) (outs b.graph v) b.graph =
      shortcuts_same p c.pool c.limit v Kind (λ g k. omega (arith, few g k)) (λ g k. omega (arith, few g k)) (ins b.graph v) (outs b.graph v) b.graph
      (λ a e g ma mb off light k. adds c.order (link_list c.links) c.pool c.limit v r at b.levels b.graph run.graph a e g ma mb off light k)
      (before c.order (link_list c.links) c.pool c.limit v r at b.levels b.graph run.graph)
      in
      rw same

  steps_same : (vs : List ℕ) (b : Building) → Run vs b → rank_steps (with_pool c p) vs b ≡ rank_steps c vs b
  unfolding rank_steps
  steps_same [] b run = refl
  steps_same (v ∷ vs) b run =
      ap (λ m. and_then m (λ k. rank_steps (with_pool c p) vs k)) (step_same v vs b run) ∙
      then_same (rank_step c v b) _ _
      (λ k e.
      steps_same vs k
      (step_ok c (link_list c.links) 0 ((distinct_decides c.order 0).0 ok.order_distinct) v vs b run k (rank_stepped c v b k e)))

  pub contraction_same : contraction (with_pool c p) ≡ contraction c
  unfolding contraction from_links
  contraction_same =
      let run = first_run c ok small in
      let g = graph_of c.links in
      let first : in_pool p g ≡ in_pool c.pool g =
      pool_same p c.pool 0 0 (GraphOk c.order (link_list c.links) [] 0 0) (λ g k. omega (arith, few g k)) (λ g k. omega (arith, few g k)) g run.graph
      in
      ap (λ m. and_then m (λ g. rank_steps (with_pool c p) c.order (record { graph = g; levels = [] }))) first ∙
      then_same (in_pool c.pool g) _ _
      (λ k e. let held = pool_held c.pool g k e in rw held.0 (steps_same c.order (record { graph = g; levels = [] }) run))
