-- One contraction keeps distances: rules 3 and 4.
use mathlib.Core.Path.{◌≡◌, refl, sym, ◌∙◌, ap}
use mathlib.Core.Logic.{◌⊎◌, inl, inr}
use mathlib.Core.Bool.{true}
use mathlib.Core.List.Memᴰ
use mathlib.Core.List.{List, [], ◌∷◌}
use Prim.Native.Nat.{ℕ, ◌+◌, ◌≤◌, ◌<◌}
use native.Mathlib.Omega.{arith}
use native.Mathlib.Decide.{ℕ_discrete}
use lib.Dec.{leb}
use lib.ListN.{length}
use borrow.Author.Tests.{leb-true}
use Rattle.rules.specs.Numbers.{max_weight, no_weight}
use Rattle.rules.specs.Graph.{Arc, outs, ins, Loopless, add_or_reduce, kept, disconnect}
use Rattle.rules.specs.Search.{init}
use Rattle.rules.specs.Build.{went, in_pool, Contracting, shortcut, add, pair, pairs_of, handle_shortcuts, contract_node}
use Rattle.rules.specs.Lists.{In}
use Rattle.rules.proofs.Arcs.{kept_in}
use Rattle.rules.proofs.Pairs.{sought, searched, dropped, witness, unwitnessed, there, too_large, new, pair_goes}
use Rattle.rules.proofs.Cases.{on_test}
use Rattle.rules.proofs.Steps.{went_same, refused_not_went, both_went}
use Rattle.walks.specs.Paths.{Path, stay, step, Within}
use Rattle.walks.proofs.Paths.{Lighter, lighter_refl, lighter_trans, lighter_within, within_join, within_more, edge_within, within_stay, said}
use Rattle.search_laws.proofs.Graphs.{Arcs, by_ends, Avoiding, avoiding_lighter, lighter_after_add, added_within, in_ins, outs_in, ins_in, disconnected_in}
use Rattle.search_laws.proofs.Searches.{Walked, walked_lighter, init_walked, search_walked, answer_walked}

-- a graph that the pool holds
pub pool_held : (pool : ℕ) (g k : List Arc) → in_pool pool g ≡ went k → (k ≡ g) × (length g ≤ pool)
unfolding in_pool
pool_held pool g k e =
    on_test (leb (length g) pool)
    (λ t. (sym (went_same (rw (t, in_pool) at e)), leb-true (length g) pool t))
    (λ t. absurd (refused_not_went (rw (t, in_pool) at e)))

module _ (pool limit v : ℕ) where
  -- A pair that went: it was dropped; or nothing was put in, for a witness or an arc of no more; or its shortcut was added.
  pub data Put (a b : Arc) (c k : Contracting) : Type 0 where
    no_pair : a.tail ≡ b.head → k ≡ c → Put a b c k
    kept_out : (a.tail ≡ b.head → ⊥) → ((sought limit v a b c).weight ≤ a.weight + b.weight) ⊎ (kept (shortcut v a b) c.graph ≡ true) →
        k ≡ searched limit v a b c → Put a b c k
    added : (a.tail ≡ b.head → ⊥) → a.weight + b.weight ≤ max_weight → length (add_or_reduce (shortcut v a b) c.graph) ≤ pool →
        k ≡ record { graph = add_or_reduce (shortcut v a b) c.graph; search = (sought limit v a b c).search } → Put a b c k

  pub pair_went : (a b : Arc) (c k : Contracting) → pair pool limit v a b c ≡ went k → Put a b c k
  unfolding add shortcut
  pair_went a b c k e =
      elim (pair_goes limit v a b c) [
        | dropped same is ↦ no_pair same (sym (went_same (sym (is pool) ∙ e)))
        | witness differ found is ↦ kept_out differ (inl found) (sym (went_same (sym (is pool) ∙ e)))
        | unwitnessed differ _ u ↦
            elim u [
              | there _ test is ↦ kept_out differ (inr test) (sym (went_same (sym (is pool) ∙ e)))
              | too_large _ _ is ↦ absurd (refused_not_went (sym (is pool) ∙ e))
              | new small is ↦
                  let steps = both_went (in_pool pool (add_or_reduce (shortcut v a b) c.graph)) _ k (sym (is pool) ∙ e) in
                  let held = pool_held pool (add_or_reduce (shortcut v a b) c.graph) steps.0 steps.1 in
                  added differ small held.1
                  (sym (went_same steps.2) ∙ ap (λ g. record { graph = g; search = (sought limit v a b c).search }) held.0)
            ]
      ]

  -- What every shortcut of a contraction keeps, the contraction keeps.
  module _ (P : List Arc → Type 0) where
    -- "In a as" and "In b bs" say which pairs are met
    abbrev pub Adds : List Arc → List Arc → Type 0
    Adds xs bs =
        (a b : Arc) (g : List Arc) → In a xs → In b bs → (a.tail ≡ b.head → ⊥) → a.weight + b.weight ≤ max_weight →
        length (add_or_reduce (shortcut v a b) g) ≤ pool → P g → P (add_or_reduce (shortcut v a b) g)

    pub pair_keeps : (a b : Arc) (c k : Contracting) → Adds (a ∷ []) (b ∷ []) → pair pool limit v a b c ≡ went k → P c.graph → P k.graph
    pair_keeps a b c k adds e x =
        elim (pair_went a b c k e) [
          | no_pair _ same ↦ rw same x
          | kept_out _ _ same ↦ rw same x
          | added differ small room same ↦ rw same (adds a b c.graph (Memᴰ.head refl) (Memᴰ.head refl) differ small room x)
        ]

    pub pairs_of_keeps : (a : Arc) (bs : List Arc) (c k : Contracting) → Adds (a ∷ []) bs → pairs_of pool limit v a bs c ≡ went k → P c.graph → P k.graph
    unfolding pairs_of
    pairs_of_keeps a [] c k adds e x = rw (← (went_same e)) x
    pairs_of_keeps a (b ∷ bs) c k adds e x =
        let s = both_went (pair pool limit v a b c) _ k e in
        pairs_of_keeps a bs s.0 k (λ a' b' g ma mb. adds a' b' g ma (Memᴰ.tail mb)) s.2
        (pair_keeps a b c s.0
        (λ a' b' g ma mb. adds a' b' g ma (Memᴰ.head (Memᴰ.eq_of_singleton mb)))
        s.1
        x)

    pub shortcuts_keep : (xs bs g k : List Arc) → Adds xs bs → handle_shortcuts pool limit v xs bs g ≡ went k → P g → P k
    unfolding handle_shortcuts
    shortcuts_keep [] bs g k adds e x = rw (← (went_same e)) x
    shortcuts_keep (a ∷ xs) bs g k adds e x =
        let s = both_went (pairs_of pool limit v a bs (record { graph = g; search = init a.tail })) _ k e in
        shortcuts_keep xs bs s.0.graph k (λ a' b' g ma. adds a' b' g (Memᴰ.tail ma)) s.2
        (pairs_of_keeps a bs (record { graph = g; search = init a.tail }) s.0
        (λ a' b' g ma. adds a' b' g (Memᴰ.head (Memᴰ.eq_of_singleton ma)))
        s.1
        x)

  -- no pair of ends gets heavier
  pub lighter_from : (h g : List Arc) (s : Arc) → Lighter (Arcs h) (Arcs g) → Lighter (Arcs h) (Arcs (add_or_reduce s g))
  lighter_from h g s l = lighter_trans l (lighter_after_add s g)

  -- one in-arc, whose tail is not v
  module _ (a : Arc) (away : a.tail ≡ v → ⊥) where
    -- the search's labels are walks over the graph as it now stands
    pair_walked : (b : Arc) (c k : Contracting) → pair pool limit v a b c ≡ went k →
        Walked (Avoiding v c.graph) a.tail c.search → Walked (Avoiding v k.graph) a.tail k.search
    pair_walked b c k e x =
        let y = search_walked c.graph v away limit b.head (a.weight + b.weight) c.search x in
        elim (pair_went a b c k e) [
          | no_pair _ same ↦ rw same x
          | kept_out _ _ same ↦ rw same y
          | added _ _ _ same ↦
              rw same
              (walked_lighter (avoiding_lighter v c.graph _ (lighter_after_add (shortcut v a b) c.graph)) y)
        ]

    -- a witness, the arc that was there, or the shortcut itself
    pair_covers : (b : Arc) (c k : Contracting) → pair pool limit v a b c ≡ went k →
        Walked (Avoiding v c.graph) a.tail c.search → a.weight + b.weight < no_weight → (b.head ≡ v → ⊥) → (a.tail ≡ b.head → ⊥) →
        Within (Avoiding v k.graph) a.tail b.head (a.weight + b.weight)
    unfolding shortcut
    pair_covers b c k e x modest off apart =
        elim (pair_went a b c k e) [
          | no_pair same _ ↦ absurd (apart same)
          | kept_out _ why same ↦
              rw same
              (elim why [
                | inl found ↦
                    within_more
                    (answer_walked c.graph v away limit b.head (a.weight + b.weight) c.search x (omega arith))
                    found
                | inr test ↦
                    let y = kept_in (shortcut v a b) c.graph test in
                    within_more
                    (edge_within (y.0.centre, disconnected_in _ v _ (rw (by_ends y.0 y.2 y.3) y.1) away off))
                    y.4
              ])
          | added _ _ _ same ↦
              let f = added_within (shortcut v a b) c.graph in
              rw same (within_more (edge_within (f.1.0, disconnected_in _ v _ f.1.1 away off)) f.2)
        ]

    -- one in-arc with each out-arc
    pub record Paired (bs : List Arc) (c k : Contracting) : Type 0 where
      pub lighter : Lighter (Arcs c.graph) (Arcs k.graph)
      pub covers : (b : Arc) → In b bs → a.weight + b.weight < no_weight → (b.head ≡ v → ⊥) → (a.tail ≡ b.head → ⊥) →
          Within (Avoiding v k.graph) a.tail b.head (a.weight + b.weight)

    pairs_of_cover : (bs : List Arc) (c k : Contracting) → pairs_of pool limit v a bs c ≡ went k →
        Walked (Avoiding v c.graph) a.tail c.search → Paired bs c k
    unfolding pairs_of
    pairs_of_cover [] c k e x =
        record {
          lighter = rw (← (went_same e)) (lighter_refl (Arcs c.graph));
          covers = λ b m. absurd (Memᴰ.not-nil m);
        }
    pairs_of_cover (b ∷ bs) c k e x =
        let s = both_went (pair pool limit v a b c) _ k e in
        let rest = pairs_of_cover bs s.0 k s.2 (pair_walked b c s.0 s.1 x) in
        record {
          lighter =
              lighter_trans
              (pair_keeps (λ g. Lighter (Arcs c.graph) (Arcs g)) a b c s.0
              (λ a' b' g _ _ _ _ _ l. lighter_from c.graph g (shortcut v a' b') l)
              s.1
              (lighter_refl (Arcs c.graph)))
              rest.lighter;
          covers =
              λ b' m modest off apart.
              elim (Memᴰ.cases_cons m) [
                | inl here ↦
                    lighter_within (avoiding_lighter v s.0.graph k.graph rest.lighter)
                    (rw here (pair_covers b c s.0 s.1 x (rw here at modest) (rw here at off) (rw here at apart)))
                | inr later ↦ rest.covers b' later modest off apart
              ];
        }

  -- Every pair, and every arc, after rule 3.
  pub record Handled (xs bs g k : List Arc) : Type 0 where
    pub lighter : Lighter (Arcs g) (Arcs k)
    pub covers : (a b : Arc) → In a xs → In b bs → a.weight + b.weight < no_weight → (a.tail ≡ v → ⊥) → (b.head ≡ v → ⊥) → (a.tail ≡ b.head → ⊥) →
        Within (Avoiding v k) a.tail b.head (a.weight + b.weight)

  pub shortcuts_cover : (xs bs g k : List Arc) → handle_shortcuts pool limit v xs bs g ≡ went k →
      ((a : Arc) → In a xs → a.tail ≡ v → ⊥) → Handled xs bs g k
  unfolding handle_shortcuts
  shortcuts_cover [] bs g k e away =
      record {
        lighter = rw (← (went_same e)) (lighter_refl (Arcs g));
        covers = λ a b m. absurd (Memᴰ.not-nil m);
      }
  shortcuts_cover (a ∷ xs) bs g k e away =
      let start : Contracting = record { graph = g; search = init a.tail } in
      let s = both_went (pairs_of pool limit v a bs start) _ k e in
      let here = pairs_of_cover a (away a (Memᴰ.head refl)) bs start s.0 s.1 (init_walked _ a.tail) in
      let rest = shortcuts_cover xs bs s.0.graph k s.2 (λ a' m. away a' (Memᴰ.tail m)) in
      record {
        lighter = lighter_trans here.lighter rest.lighter;
        covers =
            λ a' b' ma mb modest offa offb apart.
            elim (Memᴰ.cases_cons ma) [
              | inl same ↦
                  lighter_within (avoiding_lighter v s.0.graph k rest.lighter)
                  (rw same (here.covers b' mb (rw same at modest) offb (rw same at apart)))
              | inr later ↦ rest.covers a' b' later mb modest offa offb apart
            ];
      }

module _ (pool limit v : ℕ) (g k : List Arc) (e : contract_node pool limit v g ≡ went k) where
  pub contracted : (m : List Arc) × (handle_shortcuts pool limit v (ins g v) (outs g v) g ≡ went m) × (k ≡ disconnect m v)
  unfolding contract_node
  contracted =
      let s = both_went (handle_shortcuts pool limit v (ins g v) (outs g v) g) _ k e in
      (s.0, s.1, sym (went_same s.2))

  -- No arc is a loop, or weighs so much that a pair's sum could be the mark.
  module _ (loopless : Loopless g) (light : (x : Arc) → In x g → x.weight ≤ max_weight) where
    handled : Handled pool limit v (ins g v) (outs g v) g contracted.0
    handled =
        shortcuts_cover pool limit v (ins g v) (outs g v) g contracted.0 contracted.1
        (λ a m at. let i = in_ins g v a m in loopless a i.0 (at ∙ sym i.1))

    -- an arc that does not touch v
    past : (a b w : ℕ) → Arcs g a b w → (a ≡ v → ⊥) → (b ≡ v → ⊥) → Within (Arcs k) a b w
    past a b w arc offa offb =
        let f = handled.lighter a b w arc in
        rw contracted.2 (within_more (edge_within (f.1.0, disconnected_in _ v _ f.1.1 offa offb)) f.2)

    -- in at v and out again
    through : (a d x y : ℕ) → Arcs g a v x → Arcs g v d y → (a ≡ v → ⊥) → (d ≡ v → ⊥) → (a ≡ d → ⊥) → Within (Arcs k) a d (x + y)
    through a d x y into out offa offd apart =
        rw contracted.2
        (handled.covers _ _ (ins_in g v _ into.1 refl) (outs_in g v _ out.1 refl) (omega (arith, light _ into.1, light _ out.1)) offa offd apart)

    -- Along a path: from a node other than v the contracted graph follows for no more, and at v an arc that led there is
    -- taken along, until the next arc leads out again.
    along : {b a w : ℕ} → Path (Arcs g) b a w → (b ≡ v → ⊥) →
        ((a ≡ v → ⊥) → Within (Arcs k) a b w) ×
        (a ≡ v → (u x : ℕ) → Arcs g u v x → (u ≡ v → ⊥) → Within (Arcs k) u b (x + w))
    along (stay same none) offb =
        (λ off. within_more (within_stay same) (omega arith), λ at. absurd (offb (sym same ∙ at)))
    along {b} {a} {w} (step c x y arc sum p) offb =
        let rest = along p offb in (
          λ off.
              elim (ℕ_discrete c v) [
                | yes at ↦ within_more (rest.1 at a x (rw at at arc) off) (omega arith)
                | no offc ↦ within_more (within_join (past a c x arc off offc) (rest.0 offc)) (omega arith)
              ],
          λ at u z into offu.
              let offc : c ≡ v → ⊥ = λ e. loopless _ arc.1 (at ∙ sym e) in
              let onward = rest.0 offc in
              elim (ℕ_discrete u c) [
                | yes same ↦ (onward.0, said onward.1 same refl, omega (arith, onward.2))
                | no apart ↦ within_more (within_join (through u c z x into (rw at at arc) offu offc apart) onward) (omega arith)
              ],
        )

    -- The contraction lemma.
    pub contraction_keeps : {a b w : ℕ} → Path (Arcs g) b a w → (a ≡ v → ⊥) → (b ≡ v → ⊥) → Within (Arcs k) a b w
    contraction_keeps p offa offb = (along p offb).0 offa
