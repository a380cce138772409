-- Labels are chains (step 9): the parents lead back to an end, in fewer steps than there are nodes, and the chain opens
-- into a walk that makes the label.
use mathlib.Core.Path.{◌≡◌, refl, sym, ◌∙◌, ap}
use mathlib.Core.Bool.{true, false}
use mathlib.Core.List.{List, [], ◌∷◌, ◌++◌, append-nil, reverse, reverse-append}
use Prim.Native.Nat.{ℕ, zero, suc, ◌+◌, ◌≤◌, ◌<◌}
use native.Mathlib.Omega.{arith}
use lib.Dec.{eqb}
use lib.ListN.{length, length-append}
use borrow.Author.Tests.{eqb-false, eq-eqb, ne_eqb}
use Rattle.rules.specs.Numbers.{no_weight, invalid}
use Rattle.rules.specs.Lists.{In, flat_map}
use Rattle.rules.specs.Columns.{Link, Hierarchy, Side, forward, backward, table, entry, rank}
use Rattle.rules.specs.TableRules.{TableRules}
use Rattle.rules.specs.Unpack.{unpacked}
use Rattle.rules.specs.Query.{End, Label, no_label, Half, climb, root}
use Rattle.rules.proofs.Cases.{on_test}
use Rattle.rules.proofs.Prefixes.{flat_map_append}
use Rattle.walks.specs.Promise.{Promise}
use Rattle.walks.proofs.Places.{place_entry, place_used}
use Rattle.query_laws.proofs.Walks.{Towards, joined, towards_nowhere, towards_join, Solid, place_leads}
use Rattle.query_laws.specs.Sound.{weight_at, Along, Origin, unlabelled, listed, came, Sound}

module _ (f : ℕ) (x : Half) (v : ℕ) where
  pub climb_end : eqb (x.label v).via invalid ≡ true → climb (suc f) x v ≡ []
  unfolding climb
  climb_end t = rw (t, climb)

  pub climb_on : eqb (x.label v).via invalid ≡ false → climb (suc f) x v ≡ climb f x (x.label v).parent ++ ((x.label v).via ∷ [])
  unfolding climb
  climb_on t = rw (t, climb)

  pub root_end : eqb (x.label v).via invalid ≡ true → root (suc f) x v ≡ v
  unfolding root
  root_end t = rw (t, root)

  pub root_on : eqb (x.label v).via invalid ≡ false → root (suc f) x v ≡ root f x (x.label v).parent
  unfolding root
  root_on t = rw (t, root)

-- a label with an entry came along it
pub came_along : {h : Hierarchy} {s : Side} {es : List End} {x : Half} {v : ℕ} {l : Label} → Origin h s es x v l →
    eqb l.via invalid ≡ false → Along h s x v l
unfolding no_label
came_along (unlabelled e) t = absurd (eqb-false _ invalid t (ap (λ (k : Label). k.via) e))
came_along (listed m e less) t = absurd (eqb-false _ invalid t e)
came_along (came a) t = a

module _ (n : ℕ) (h : Hierarchy) (rules : TableRules n h) (s : Side) (es : List End) (floor b : ℕ) (x : Half) (k : Sound n h s es floor b x) where
  pub parent_lower : (v : ℕ) → Along h s x v (x.label v) → rank h (x.label v).parent < rank h v
  parent_lower v a =
      rw a.leads_to at
      (place_entry n h rules s (x.label v).parent (k.settled (x.label v).parent a.parent_settled).node_below (x.label v).via a.place).neighbour_higher

  -- Ranks rise from parent to child, so fuel above a node's rank is as good as any other.
  pub climb_enough : (f g v : ℕ) → rank h v < f → rank h v < g → climb f x v ≡ climb g x v
  climb_enough zero g v hf hg = absurd (omega arith)
  climb_enough (suc f) zero v hf hg = absurd (omega arith)
  climb_enough (suc f) (suc g) v hf hg =
      on_test (eqb (x.label v).via invalid) (λ t. climb_end f x v t ∙ sym (climb_end g x v t))
      (λ t.
      let low = parent_lower v (came_along (k.origins v) t) in
      climb_on f x v t ∙
      (ap (λ c. c ++ ((x.label v).via ∷ [])) (climb_enough f g (x.label v).parent (omega (arith, low)) (omega (arith, low))) ∙
      sym (climb_on g x v t)))

  pub root_enough : (f g v : ℕ) → rank h v < f → rank h v < g → root f x v ≡ root g x v
  root_enough zero g v hf hg = absurd (omega arith)
  root_enough (suc f) zero v hf hg = absurd (omega arith)
  root_enough (suc f) (suc g) v hf hg =
      on_test (eqb (x.label v).via invalid) (λ t. root_end f x v t ∙ sym (root_end g x v t))
      (λ t.
      let low = parent_lower v (came_along (k.origins v) t) in
      root_on f x v t ∙
      (root_enough f g (x.label v).parent (omega (arith, low)) (omega (arith, low)) ∙ sym (root_on g x v t)))

  pub climb_length : (f v : ℕ) → length (climb f x v) ≤ rank h v
  unfolding climb
  climb_length zero v = omega arith
  climb_length (suc f) v =
      on_test (eqb (x.label v).via invalid) (λ t. rw (climb_end f x v t) (omega arith))
      (λ t.
      let low = parent_lower v (came_along (k.origins v) t) in
      rw (climb_on f x v t)
      (omega (arith, low, climb_length f (x.label v).parent, length-append (climb f x (x.label v).parent) ((x.label v).via ∷ []))))

-- what a chain of entries opens into, in the order of the walk
unfoldable pub opened : Hierarchy → Side → List ℕ → List ℕ
opened h forward c = flat_map (unpacked h forward) c
opened h backward c = flat_map (unpacked h backward) (reverse c)

opened_none : (h : Hierarchy) (s : Side) → opened h s [] ≡ []
unfolding opened flat_map
opened_none h forward = refl
opened_none h backward = refl

opened_on : (h : Hierarchy) (s : Side) (c : List ℕ) (e : ℕ) → opened h s (c ++ (e ∷ [])) ≡ joined s (opened h s c) (unpacked h s e)
unfolding opened flat_map
opened_on h forward c e = rw (flat_map_append (unpacked h forward) c (e ∷ []), append-nil (unpacked h forward e))
opened_on h backward c e = rw (reverse-append c (e ∷ []))

-- A chain of entries c that leads from an end r to a labelled node v.
pub record Chain (n : ℕ) (ls : List Link) (h : Hierarchy) (s : Side) (es : List End) (x : Half) (v r : ℕ) (c : List ℕ) : Type 0 where
  pub weight : ℕ
  pub node_below : r < n
  pub is_end : In (record { node = r; offset = weight_at x r }) es
  pub counts : weight_at x r < no_weight
  pub leads : Towards (Solid n ls) s r v weight (opened h s c)
  pub makes : weight_at x r + weight ≡ weight_at x v

module _ (n : ℕ) (ls : List Link) (h : Hierarchy) (promise : Promise n ls h)
    (s : Side) (es : List End) (floor b : ℕ) (x : Half) (k : Sound n h s es floor b x) where
  pub chain : (f v : ℕ) → rank h v < f → weight_at x v < no_weight → Chain n ls h s es x v (root f x v) (climb f x v)
  unfolding no_label
  chain zero v high lab = absurd (omega arith)
  chain (suc f) v high lab =
      elim (k.origins v) [
        | unlabelled e ↦ absurd (omega (arith, ap (λ (l : Label). l.weight) e))
        | listed m e less ↦
            rw (root_end f x v (eq-eqb _ invalid e), climb_end f x v (eq-eqb _ invalid e))
            (record {
              weight = 0;
              node_below = (k.labels v lab).node_below;
              is_end = m;
              counts = less;
              leads = rw (opened_none h s) (towards_nowhere (Solid n ls) s v);
              makes = omega arith;
            })
        | came a ↦
            let p = (x.label v).parent in
            let e = (x.label v).via in
            let pr = k.settled p a.parent_settled in
            let low = parent_lower n h promise.rules s es floor b x k v a in
            let u = place_used n h promise.rules s p pr.node_below e a.place in
            let t = ne_eqb e invalid (λ same. omega (arith, u, promise.few s)) in
            let r = chain f p (omega (arith, low)) pr.labelled in
            rw (root_on f x v t, climb_on f x v t)
            (record {
              weight = r.weight + (entry (table h s) e).weight;
              node_below = r.node_below;
              is_end = r.is_end;
              counts = r.counts;
              leads =
                  rw (opened_on h s (climb f x p) e)
                  (towards_join (Solid n ls) s (root f x p) p v r.weight (entry (table h s) e).weight (opened h s (climb f x p)) (unpacked h s e)
                  r.leads (rw a.leads_to at (place_leads n ls h promise s p pr.node_below e a.place)));
              makes = omega (arith, r.makes, a.adds_up);
            })
      ]
