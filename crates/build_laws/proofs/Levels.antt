-- A build keeps what holds of its graphs and its levels.
use mathlib.Core.Path.{◌≡◌, refl, sym, ◌∙◌, ap}
use mathlib.Core.Logic.{◌⊎◌, inl, inr}
use mathlib.Core.Bool.{Bool, false≢true}
use mathlib.Core.List.Memᴰ
use mathlib.Core.List.{List, [], ◌∷◌}
use Prim.Native.Nat.{ℕ, suc, ◌+◌, ◌≤◌, ◌<◌}
use native.Mathlib.Omega.{arith}
use native.Mathlib.Decide.{ℕ_discrete}
use lib.ListN.{length}
use borrow.Author.Tests.{eq-eqb}
use Rattle.rules.specs.Numbers.{max_weight}
use Rattle.rules.specs.Lists.{In, keep}
use Rattle.rules.specs.Columns.{Link, forward, backward}
use Rattle.rules.specs.Graph.{Arc, outs, ins, joins, Apart, reduce, add_or_reduce, disconnect}
use Rattle.rules.specs.Build.{went, shortcut, contract_node, Level, arcs_of, neighbour_of}
use Rattle.rules.proofs.Arcs.{joined_ends}
use Rattle.rules.proofs.Decides.{both_and}
use Rattle.rules.proofs.Cases.{on_test}
use Rattle.rules.proofs.Members.{in_keep}
use Rattle.rules.proofs.Positions.{same_position}
use Rattle.rules.proofs.Ranks.{level_of, with_level}
use Rattle.search_laws.proofs.Graphs.{in_outs, in_ins, in_disconnected, reduced, in_added}
use Rattle.build_laws.specs.Runs.{rank_of, Later, ArcOk, GraphOk, own_end, LevelOk}
use Rattle.build_laws.proofs.Contraction.{shortcuts_keep, contracted}

keep_apart : (p : Arc → Bool) (g : List Arc) → Apart g → Apart (keep p g)
unfolding keep
keep_apart p [] a = a
keep_apart p (x ∷ g) a =
    on_test (p x)
    (λ t. rw (t, keep) (λ y m. a.0 y (in_keep p y g m).0, keep_apart p g a.1))
    (λ t. rw (t, keep) (keep_apart p g a.1))

same_joins : (x y z : Arc) → x.tail ≡ y.tail → x.head ≡ y.head → joins x z ≡ joins y z
unfolding joins
same_joins x y z p q = rw (p, q)

joins_turned : (x y : Arc) → joins x y ≡ joins y x
unfolding joins
joins_turned x y =
    on_test (joins x y)
    (λ t.
    let e = joined_ends x y t in
    t ∙ sym (both_and _ _ (eq-eqb x.tail y.tail (sym e.0)) (eq-eqb x.head y.head (sym e.1))))
    (λ t.
    on_test (joins y x)
    (λ u.
    let e = joined_ends y x u in
    both_and _ _ (eq-eqb y.tail x.tail (sym e.0)) (eq-eqb y.head x.head (sym e.1)) ∙ sym u)
    (λ u. t ∙ sym u))

added_apart : (s : Arc) (g : List Arc) → Apart g → Apart (add_or_reduce s g)
unfolding add_or_reduce
added_apart s [] a = (λ y m. absurd (Memᴰ.not-nil m), tt)
added_apart s (x ∷ g) a =
    on_test (joins s x)
    (λ t.
    let r = reduced s x t in
    rw (t, add_or_reduce) (λ y m. same_joins (reduce s x) x y r.0 r.1 ∙ a.0 y m, a.1))
    (λ t.
    rw (t, add_or_reduce) (
      λ y m.
          elim (in_added s g y m) [
            | inl old ↦ a.0 y old
            | inr new ↦ rw new (joins_turned x s ∙ t)
          ],
      added_apart s g a.1,
    ))

-- arcs of the same ends are the same arc
pub apart_same : (g : List Arc) → Apart g → (x y : Arc) → In x g → In y g → x.tail ≡ y.tail → x.head ≡ y.head → x ≡ y
unfolding joins
apart_same [] a x y mx my p q = absurd (Memᴰ.not-nil mx)
apart_same (z ∷ g) a x y mx my p q =
    elim (Memᴰ.cases_cons mx) [
      | inl hx ↦
          elim (Memᴰ.cases_cons my) [
            | inl hy ↦ hx ∙ sym hy
            | inr ly ↦
                absurd
                (false≢true
                (sym (a.0 y ly) ∙ both_and _ _ (eq-eqb y.tail z.tail (sym p ∙ ap (λ k. k.tail) hx)) (eq-eqb y.head z.head (sym q ∙ ap (λ k. k.head) hx))))
          ]
      | inr lx ↦
          elim (Memᴰ.cases_cons my) [
            | inl hy ↦
                absurd
                (false≢true
                (sym (a.0 x lx) ∙ both_and _ _ (eq-eqb x.tail z.tail (p ∙ ap (λ k. k.tail) hy)) (eq-eqb x.head z.head (q ∙ ap (λ k. k.head) hy))))
            | inr ly ↦ apart_same g a.1 x y lx ly p q
          ]
    ]

-- Over a fixed order and the input links.
module _ (order : List ℕ) (ls : List Link) where
  -- more levels, and higher ranks
  module _ {levels more : List Level} (sub : (l : Level) → In l levels → In l more) {r t : ℕ} (up : r ≤ t) where
    pub arc_more : {x : Arc} → ArcOk order ls levels r x → ArcOk order ls more t x
    arc_more a =
        record {
          low = a.low;
          high = a.high;
          centred =
              elim a.centred [
                | inl plain ↦ inl plain
                | inr o ↦
                    inr
                    (record {
                      level = o.level;
                      written = sub o.level o.written;
                      lower = omega (arith, o.lower);
                      node = o.node;
                      into = o.into;
                      into_in = o.into_in;
                      into_tail = o.into_tail;
                      out = o.out;
                      out_in = o.out_in;
                      out_head = o.out_head;
                      sum = o.sum;
                    })
              ];
        }

    graph_more : (low : ℕ) (g : List Arc) → GraphOk order ls levels low r g → GraphOk order ls more low t g
    graph_more low g k =
        record {
          loopless = k.loopless;
          apart = k.apart;
          tails = k.tails;
          heads = k.heads;
          arcs = λ x m. arc_more (k.arcs x m);
        }

  -- Contracting the node v of rank r, whose level is written.
  module _ (pool limit v r : ℕ) (at : rank_of order v ≡ r) (levels : List Level) (g : List Arc) (ok : GraphOk order ls levels r r g) where
    pub before : GraphOk order ls (with_level levels v g) r (suc r) g
    before = graph_more (λ l m. Memᴰ.append_left (level_of v g ∷ []) m) (omega arith) r g ok

    -- a shortcut keeps it
    pub adds : (a b : Arc) (k : List Arc) → In a (ins g v) → In b (outs g v) → (a.tail ≡ b.head → ⊥) →
        a.weight + b.weight ≤ max_weight → GraphOk order ls (with_level levels v g) r (suc r) k →
        GraphOk order ls (with_level levels v g) r (suc r) (add_or_reduce (shortcut v a b) k)
    unfolding shortcut
    adds a b k ma mb off small x =
        record {
          loopless = λ y m. elim (added y m) [ inl old ↦ x.loopless y old | inr new ↦ rw new off ];
          apart = added_apart (shortcut v a b) k x.apart;
          tails =
              λ y m.
              elim (added y m) [
                | inl old ↦ x.tails y old
                | inr new ↦ rw new (ok.tails a (in_ins g v a ma).0)
              ];
          heads =
              λ y m.
              elim (added y m) [
                | inl old ↦ x.heads y old
                | inr new ↦ rw new (ok.heads b (in_outs g v b mb).0)
              ];
          arcs =
              λ y m.
              elim (added y m) [
                | inl old ↦ x.arcs y old
                | inr new ↦
                    rw new
                    (record {
                      low = omega (arith, (ok.arcs a (in_ins g v a ma).0).low);
                      high = small;
                      centred =
                          inr
                          (record {
                            level = level_of v g;
                            written = Memᴰ.append_right levels (Memᴰ.head refl);
                            lower = omega arith;
                            node = refl;
                            into = a;
                            into_in = ma;
                            into_tail = refl;
                            out = b;
                            out_in = mb;
                            out_head = refl;
                            sum = refl;
                          });
                    })
              ];
        }
      where
        added : (y : Arc) → In y (add_or_reduce (shortcut v a b) k) → In y k ⊎ (y ≡ shortcut v a b)
        added y m = in_added (shortcut v a b) k y m

    -- of another node than v the rank is another
    other : (u : ℕ) → Later order r u → (u ≡ v → ⊥) → Later order (suc r) u
    other u l off = (
      elim (ℕ_discrete (rank_of order u) r) [
        | yes same ↦ absurd (off (same_position order u v (same ∙ sym at) l.1))
        | no more ↦ omega (arith, l.0)
      ],
      l.1,
    )

    pub contracted_ok : (k : List Arc) → contract_node pool limit v g ≡ went k → GraphOk order ls (with_level levels v g) (suc r) (suc r) k
    unfolding disconnect
    contracted_ok k e =
        let c = contracted pool limit v g k e in
        let x =
        shortcuts_keep pool limit v (GraphOk order ls (with_level levels v g) r (suc r)) (ins g v) (outs g v) g c.0
        (λ a b k ma mb off small _ y. adds a b k ma mb off small y)
        c.1
        before
        in
        rw c.2
        (record {
          loopless = λ y m. x.loopless y (in_disconnected c.0 v y m).0;
          apart = keep_apart _ c.0 x.apart;
          tails =
              λ y m. let d = in_disconnected c.0 v y m in other y.tail (x.tails y d.0) d.1;
          heads =
              λ y m. let d = in_disconnected c.0 v y m in other y.head (x.heads y d.0) d.2;
          arcs = λ y m. x.arcs y (in_disconnected c.0 v y m).0;
        })

  pub level_more : {levels more : List Level} → ((l : Level) → In l levels → In l more) → (l : Level) → LevelOk order ls levels l → LevelOk order ls more l
  level_more sub l k =
      record {
        node_in = k.node_in;
        own = k.own;
        higher = k.higher;
        arcs = λ s x m. arc_more sub (omega arith) (k.arcs s x m);
        apart = k.apart;
      }

  module _ (v r : ℕ) (at : rank_of order v ≡ r) (inside : r < length order) (levels : List Level) (g : List Arc) (ok : GraphOk order ls levels r r g) where
    pub level_ok : LevelOk order ls (with_level levels v g) (level_of v g)
    unfolding arcs_of own_end neighbour_of outs ins
    level_ok =
        record {
          node_in = omega arith;
          own = elim [ forward ↦ λ x m. (in_outs g v x m).1 | backward ↦ λ x m. (in_ins g v x m).1 ];
          higher =
              elim [
                | forward ↦
                    λ x m.
                    let o = in_outs g v x m in
                    rw at (other 0 0 v r at levels g ok x.head (ok.heads x o.0) (λ e. ok.loopless x o.0 (o.1 ∙ sym e)))
                | backward ↦
                    λ x m.
                    let i = in_ins g v x m in
                    rw at (other 0 0 v r at levels g ok x.tail (ok.tails x i.0) (λ e. ok.loopless x i.0 (e ∙ sym i.1)))
              ];
          arcs =
              elim [
                | forward ↦ λ x m. more x (in_outs g v x m).0
                | backward ↦ λ x m. more x (in_ins g v x m).0
              ];
          apart = elim [ forward ↦ keep_apart _ g ok.apart | backward ↦ keep_apart _ g ok.apart ];
        }
      where
        more : (x : Arc) → In x g → ArcOk order ls (with_level levels v g) (rank_of order v) x
        more x m = rw at (arc_more (λ l n. Memᴰ.append_left _ n) (omega arith) (ok.arcs x m))
