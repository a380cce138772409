-- The preparation graph's arcs as edges; adding or reducing makes no pair of ends heavier.
use mathlib.Core.Path.{◌≡◌, refl, sym, ◌∙◌, ap}
use mathlib.Core.Logic.{◌⊎◌, inl, inr}
use mathlib.Core.Bool.{true, not, ◌||◌, or-true, false≢true}
use mathlib.Core.List.Memᴰ
use mathlib.Core.List.{List, [], ◌∷◌}
use Prim.Native.Nat.{ℕ, ◌≤◌}
use native.Mathlib.Omega.{arith}
use lib.Dec.{leb}
use borrow.Author.Tests.{eqb-true, eq-eqb, ne_eqb, leb-true, leb-false, le-leb}
use Rattle.rules.specs.Lists.{In, any}
use Rattle.rules.specs.Graph.{Arc, leaves, enters, outs, ins, joins, reduce, add_or_reduce, kept, disconnect}
use Rattle.rules.proofs.Arcs.{same_arc, joined_ends}
use Rattle.rules.proofs.Cases.{on_test}
use Rattle.rules.proofs.Members.{keep_in, in_keep}
use Rattle.walks.specs.Paths.{Edges, Path}
use Rattle.walks.proofs.Paths.{Lighter, never_at}

-- the arcs of a graph as edges
abbrev pub Arcs : List Arc → Edges
Arcs g u v w = (c : ℕ) × In (record { tail = u; head = v; weight = w; centre = c }) g

-- an arc said by its ends
pub by_ends : (x : Arc) {u v : ℕ} → x.tail ≡ u → x.head ≡ v → record { tail = u; head = v; weight = x.weight; centre = x.centre } ≡ x
by_ends x p q = same_arc (sym p) (sym q) refl refl

-- a reduced arc keeps its ends, and weighs no more than either
pub reduced : (s a : Arc) → joins s a ≡ true → ((reduce s a).tail ≡ a.tail) × ((reduce s a).head ≡ a.head) × ((reduce s a).weight ≤ a.weight) × ((reduce s a).weight ≤ s.weight)
unfolding reduce
reduced s a e =
    let ends = joined_ends s a e in
    on_test (leb a.weight s.weight)
    (λ t. rw (t, reduce) (refl, refl, omega arith, leb-true a.weight s.weight t))
    (λ t. rw (t, reduce) (sym ends.0, sym ends.1, omega (arith, leb-false a.weight s.weight t), omega arith))

pub lighter_after_add : (s : Arc) (g : List Arc) → Lighter (Arcs g) (Arcs (add_or_reduce s g))
unfolding add_or_reduce
lighter_after_add s [] u v w (c, m) = absurd (Memᴰ.not-nil m)
lighter_after_add s (a ∷ g) u v w (c, m) =
    on_test (joins s a)
    (λ t.
    let r = reduced s a t in
    rw (t, add_or_reduce)
    (elim (Memᴰ.cases_cons m) [
      | inl here ↦ (
        (reduce s a).weight,
        ((reduce s a).centre, Memᴰ.head (by_ends (reduce s a) (r.0 ∙ ap (λ x. x.tail) (sym here)) (r.1 ∙ ap (λ x. x.head) (sym here)))),
        omega (arith, r.2, ap (λ x. x.weight) here),
      )
      | inr later ↦ (w, (c, Memᴰ.tail later), omega arith)
    ]))
    (λ t.
    rw (t, add_or_reduce)
    (elim (Memᴰ.cases_cons m) [
      | inl here ↦ (w, (c, Memᴰ.head here), omega arith)
      | inr later ↦
          let f = lighter_after_add s g u v w (c, later) in
          (f.0, (f.1.0, Memᴰ.tail f.1.1), f.2)
    ]))

-- the shortcut itself is there afterwards, or a lighter arc of the same ends
pub added_within : (s : Arc) (g : List Arc) → (x : ℕ) × Arcs (add_or_reduce s g) s.tail s.head x × (x ≤ s.weight)
unfolding add_or_reduce
added_within s [] = (s.weight, (s.centre, Memᴰ.head refl), omega arith)
added_within s (a ∷ g) =
    on_test (joins s a)
    (λ t.
    let r = reduced s a t in
    let ends = joined_ends s a t in
    rw (t, add_or_reduce) (
      (reduce s a).weight,
      ((reduce s a).centre, Memᴰ.head (by_ends (reduce s a) (r.0 ∙ ends.0) (r.1 ∙ ends.1))),
      r.3,
    ))
    (λ t.
    rw (t, add_or_reduce)
    (let f = added_within s g in (f.0, (f.1.0, Memᴰ.tail f.1.1), f.2)))

-- what an arc of the graph afterwards is: an old one, a reduced one, or the new one
pub in_added : (s : Arc) (g : List Arc) (y : Arc) → In y (add_or_reduce s g) → In y g ⊎ (y ≡ s)
unfolding add_or_reduce reduce
in_added s [] y m = inr (Memᴰ.eq_of_singleton m)
in_added s (x ∷ g) y m =
    on_test (joins s x)
    (λ t.
    elim (Memᴰ.cases_cons (rw (t, add_or_reduce) at m)) [
      | inl here ↦
          on_test (leb x.weight s.weight)
          (λ u. inl (Memᴰ.head (rw (u, reduce) at here)))
          (λ u. inr (rw (u, reduce) at here))
      | inr later ↦ inl (Memᴰ.tail later)
    ])
    (λ t.
    elim (Memᴰ.cases_cons (rw (t, add_or_reduce) at m)) [
      | inl here ↦ inl (Memᴰ.head here)
      | inr later ↦ elim (in_added s g y later) [ inl old ↦ inl (Memᴰ.tail old) | inr new ↦ inr new ]
    ])

-- Where no arc is heavier than s, an arc of the same ends keeps it out, and is all that is looked for.
pub kept_joins : (s : Arc) (g : List Arc) → ((x : Arc) → In x g → x.weight ≤ s.weight) → kept s g ≡ any (joins s) g
unfolding kept any
kept_joins s [] light = refl
kept_joins s (a ∷ g) light =
    on_test (joins s a)
    (λ t. rw (t, le-leb a.weight s.weight (light a (Memᴰ.head refl))))
    (λ t. rw t (kept_joins s g (λ x m. light x (Memᴰ.tail m))))

pub none_reduced : (s : Arc) (g : List Arc) → ((x : Arc) → In x g → x.weight ≤ s.weight) → any (joins s) g ≡ true → add_or_reduce s g ≡ g
unfolding any add_or_reduce reduce
none_reduced s [] light e = absurd (false≢true e)
none_reduced s (a ∷ g) light e =
    on_test (joins s a)
    (λ t. rw (t, add_or_reduce, le-leb a.weight s.weight (light a (Memᴰ.head refl)), reduce))
    (λ t. rw (t, add_or_reduce) (ap (λ l. a ∷ l) (none_reduced s g (λ x m. light x (Memᴰ.tail m)) (rw t at e))))

-- Without the arcs at a node.
untouched : (v : ℕ) (x : Arc) → not (leaves v x || enters v x) ≡ true → (x.tail ≡ v → ⊥) × (x.head ≡ v → ⊥)
unfolding leaves enters
untouched v x e = (
  λ p. false≢true (rw (eq-eqb x.tail v p) at e),
  λ p. false≢true (rw (eq-eqb x.head v p, or-true) at e),
)

touches_not : (v : ℕ) (x : Arc) → (x.tail ≡ v → ⊥) → (x.head ≡ v → ⊥) → not (leaves v x || enters v x) ≡ true
unfolding leaves enters
touches_not v x p q = rw (ne_eqb x.tail v p, ne_eqb x.head v q) refl

pub in_disconnected : (g : List Arc) (v : ℕ) (x : Arc) → In x (disconnect g v) → In x g × (x.tail ≡ v → ⊥) × (x.head ≡ v → ⊥)
unfolding disconnect
in_disconnected g v x m =
    let k = in_keep (λ (a : Arc). not (leaves v a || enters v a)) x g m in
    let t = untouched v x k.1 in
    (k.0, t.0, t.1)

pub disconnected_in : (g : List Arc) (v : ℕ) (x : Arc) → In x g → (x.tail ≡ v → ⊥) → (x.head ≡ v → ⊥) → In x (disconnect g v)
unfolding disconnect
disconnected_in g v x m p q = keep_in (λ (a : Arc). not (leaves v a || enters v a)) x g m (touches_not v x p q)

-- the arcs that avoid a node, as edges
abbrev pub Avoiding : ℕ → List Arc → Edges
Avoiding v g = Arcs (disconnect g v)

pub avoiding_lighter : (v : ℕ) (g k : List Arc) → Lighter (Arcs g) (Arcs k) → Lighter (Avoiding v g) (Avoiding v k)
avoiding_lighter v g k l a b w (c, m) =
    let d = in_disconnected g v _ m in
    let f = l a b w (c, d.0) in
    (f.0, (f.1.0, disconnected_in k v _ f.1.1 d.1 d.2), f.2)

-- no path that avoids a node leads there
pub avoiding_never_at : (v : ℕ) (g : List Arc) {a b w : ℕ} → Path (Avoiding v g) b a w → (a ≡ v → ⊥) → b ≡ v → ⊥
avoiding_never_at v g = never_at (λ u c x e at. (in_disconnected g v _ e.1).2 at)

pub in_outs : (g : List Arc) (v : ℕ) (x : Arc) → In x (outs g v) → In x g × (x.tail ≡ v)
unfolding outs leaves
in_outs g v x m = let k = in_keep (leaves v) x g m in (k.0, eqb-true x.tail v k.1)

pub in_ins : (g : List Arc) (v : ℕ) (x : Arc) → In x (ins g v) → In x g × (x.head ≡ v)
unfolding ins enters
in_ins g v x m = let k = in_keep (enters v) x g m in (k.0, eqb-true x.head v k.1)

pub outs_in : (g : List Arc) (v : ℕ) (x : Arc) → In x g → x.tail ≡ v → In x (outs g v)
unfolding outs leaves
outs_in g v x m p = keep_in (leaves v) x g m (eq-eqb x.tail v p)

pub ins_in : (g : List Arc) (v : ℕ) (x : Arc) → In x g → x.head ≡ v → In x (ins g v)
unfolding ins enters
ins_in g v x m p = keep_in (enters v) x g m (eq-eqb x.head v p)
