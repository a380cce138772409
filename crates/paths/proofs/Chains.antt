-- One step up the labels.
use mathlib.Core.Bool.{true, false}
use mathlib.Core.List.{List, [], ◌∷◌, ◌++◌, append-nil, append_assoc, reverse, reverse-append}
use mathlib.Core.Path.{◌≡◌, refl, sym, ap, ◌∙◌}
use Prim.Native.Nat.{ℕ, zero, suc, ◌+◌, ◌-◌, ◌^◌, ◌<◌}
use native.Mathlib.Nat.{zero-add}
use native.Mathlib.Omega.{arith}
use lib.Dec.{eqb}
use lib.ListN.{length, length-append}
use borrow.Author.Tests.{eq-eqb, ne_eqb}
use Rattle.rules.specs.Numbers.{max_nodes, invalid}
use Rattle.rules.specs.Lists.{written, flat_map}
use Rattle.rules.specs.Columns.{Hierarchy, Side, forward, backward, rank}
use Rattle.rules.specs.TableRules.{TableRules}
use Rattle.rules.specs.Unpack.{unpacked}
use Rattle.rules.specs.Query.{Label, Half, climb, root}
use Rattle.rules.proofs.Cases.{on_test}
use Rattle.rules.proofs.Prefixes.{flat_map_append}
use Rattle.walks.proofs.Places.{place_used}
use Rattle.query_laws.specs.Sound.{Along}
use Rattle.query_laws.proofs.Chains.{climb_end, climb_on, root_end, root_on, came_along, parent_lower, climb_enough, root_enough}
use Rattle.unpacking.specs.Written.{Used, Put}
use Rattle.unpacking.proofs.Opened.{both_within, put_both}
use Rattle.halves.specs.Labels.{seen, half}
use Rattle.halves.proofs.Labels.{label_in}
use Rattle.paths.specs.Climbs.{half_walk, Labelled, Ascent}

-- the labels alone, as a search
abbrev bare : List ℕ → ℕ → Half
bare labels base = record { label = seen labels base; settled = λ v. false; heap = [] }

-- how many entries lead up to a node, by the labels alone: ranks rise along the chain, so fuel for the most nodes is enough
unfoldable pub steps : List ℕ → ℕ → ℕ → ℕ
steps labels base v = length (climb max_nodes (bare labels base) v)

module _ {n : ℕ} {h g : Hierarchy} {s : Side} {labels : List ℕ} {base v : ℕ} (a : Ascent n h g s labels base v) where
  abbrev rules : TableRules n h
  rules = a.tables.rules

  abbrev l : Labelled n h s labels base
  l = a.labelled

  abbrev x : Half
  x = half n base labels l.heap l.len

  abbrev own : Label
  own = seen labels base v

  is_own : x.label v ≡ own
  unfolding half
  is_own = label_in n base v labels a.below

  pred : n ≡ suc (n - 1)
  pred = omega (arith, a.below)

  rank_low : rank h v < n
  rank_low = rules.ranks_below v a.below

  -- an end of the chain
  module _ (none : own.via ≡ invalid) where
    stops : eqb (x.label v).via invalid ≡ true
    stops = rw is_own (eq-eqb own.via invalid none)

    climb_none : climb n x v ≡ []
    climb_none = ap (λ (f : ℕ). climb f x v) pred ∙ climb_end (n - 1) x v stops

    root_own : root n x v ≡ v
    root_own = ap (λ (f : ℕ). root f x v) pred ∙ root_end (n - 1) x v stops

  -- a label that came along an entry
  module _ (goes_on : eqb (x.label v).via invalid ≡ false) where
    along : Along h s x v own
    along = rw is_own at (came_along (l.sound.origins v) goes_on)

    parent_below : own.parent < n
    parent_below = (l.sound.settled own.parent along.parent_settled).node_below

    parent_under : rank h own.parent < rank h v
    parent_under = rw is_own at (parent_lower n h rules s l.es l.floor l.b x l.sound v (rw is_own along))

    abbrev up : Ascent n h g s labels base own.parent
    up = record { tables = a.tables; below = parent_below; labelled = l }

    via_used : Used n h g s own.via
    via_used =
        record { tables = a.tables; below = place_used n h rules s own.parent parent_below own.via along.place }

    climb_own : climb n x v ≡ climb n x own.parent ++ (own.via ∷ [])
    climb_own =
        ap (λ (f : ℕ). climb f x v) pred
        ∙ rw is_own at (climb_on (n - 1) x v goes_on)
        ∙ ap (λ (c : List ℕ). c ++ (own.via ∷ []))
        (climb_enough n h rules s l.es l.floor l.b x l.sound (n - 1) n own.parent (omega (arith, parent_under, rank_low)) (omega (arith, parent_under, rank_low)))

    root_parent : root n x v ≡ root n x own.parent
    root_parent =
        ap (λ (f : ℕ). root f x v) pred
        ∙ rw is_own at (root_on (n - 1) x v goes_on)
        ∙ root_enough n h rules s l.es l.floor l.b x l.sound (n - 1) n own.parent (omega (arith, parent_under, rank_low)) (omega (arith, parent_under, rank_low))

-- The chain is read off the labels alone.
climb_same : {n : ℕ} {h g : Hierarchy} {s : Side} {labels : List ℕ} {base v : ℕ} (f : ℕ) (a : Ascent n h g s labels base v) → climb f (bare labels base) v ≡ climb f (x a) v
unfolding climb
climb_same zero a = refl
climb_same {labels = labels} {base = base} {v = v} (suc f) a =
    on_test (eqb ((x a).label v).via invalid)
    (λ t. climb_end f (bare labels base) v (rw (is_own a) at t) ∙ sym (climb_end f (x a) v t))
    (λ t.
    climb_on f (bare labels base) v (rw (is_own a) at t) ∙
    (ap (λ (c : List ℕ). c ++ ((own a).via ∷ [])) (climb_same {v = (own a).parent} f (up a t)) ∙ sym (rw (is_own a) at (climb_on f (x a) v t))))

module _ {n : ℕ} {h g : Hierarchy} {s : Side} {labels : List ℕ} {base v : ℕ} (a : Ascent n h g s labels base v) where
  steps_are : steps labels base v ≡ length (climb n (x a) v)
  unfolding steps
  steps_are =
      ap length
      (climb_same max_nodes a ∙
      climb_enough n h (rules a) s (l a).es (l a).floor (l a).b (x a) (l a).sound max_nodes n v (omega (arith, rank_low a, (rules a).nodes)) (rank_low a))

  -- What the label that the code has loaded says.
  module _ (o : Label) (is : o ≡ seen labels base v) where
    none_own : o.via ≡ invalid → (own a).via ≡ invalid
    none_own none = sym (ap (λ (k : Label). k.via) is) ∙ none

    module _ (some : o.via ≡ invalid → ⊥) where
      goes_on : eqb ((x a).label v).via invalid ≡ false
      goes_on = rw (is_own a, ← is) (ne_eqb o.via invalid some)

      pub parent_too : o.parent < n
      parent_too = rw is (parent_below a goes_on)

      abbrev pub from_parent : Ascent n h g s labels base o.parent
      from_parent = record { tables = a.tables; below = parent_too; labelled = a.labelled }

      pub along_used : Used n h g s o.via
      along_used = rw is (via_used a goes_on)

      -- the entry's number is not cut
      pub uncut : o.via < 2 ^ 32
      uncut = omega (arith, along_used.below, a.tables.few s)

-- a parent has one step fewer
pub fewer : {n : ℕ} {h g : Hierarchy} {s : Side} {labels : List ℕ} {base v : ℕ} (a : Ascent n h g s labels base v) (o : Label) →
    o ≡ seen labels base v → (o.via ≡ invalid → ⊥) → steps labels base o.parent < steps labels base v
fewer {n} a o is some =
    let t = goes_on a o is some in
    rw is
    (omega (
      arith,
      steps_are a,
      steps_are (up a t),
      ap length (climb_own a t),
      length-append (climb n (x a) (own a).parent) ((own a).via ∷ []),
    ))

-- Forward, the end comes first.
module _ {n : ℕ} {h g : Hierarchy} {labels : List ℕ} {base v : ℕ} (a : Ascent n h g forward labels base v) (o : Label) (is : o ≡ seen labels base v) where
  pub forward_none : o.via ≡ invalid → half_walk n h forward (half n base labels a.labelled.heap a.labelled.len) v ≡ []
  unfolding half_walk flat_map
  forward_none none = rw (climb_none a (none_own a o is none))

  pub forward_on : (o.via ≡ invalid → ⊥) →
      half_walk n h forward (half n base labels a.labelled.heap a.labelled.len) v ≡
      half_walk n h forward (half n base labels a.labelled.heap a.labelled.len) o.parent ++ unpacked h forward o.via
  unfolding half_walk flat_map
  forward_on some =
      rw (
        is,
        climb_own a (goes_on a o is some),
        flat_map_append (unpacked h forward) (climb n (x a) (own a).parent) ((own a).via ∷ []),
        append-nil (unpacked h forward (own a).via),
      )

-- Backward, it comes last and is a node of the walk.
module _ {n : ℕ} {h g : Hierarchy} {labels : List ℕ} {base v : ℕ} (a : Ascent n h g backward labels base v) (o : Label) (is : o ≡ seen labels base v) where
  pub backward_none : o.via ≡ invalid → half_walk n h backward (half n base labels a.labelled.heap a.labelled.len) v ≡ v ∷ []
  unfolding half_walk flat_map
  backward_none none = rw (climb_none a (none_own a o is none), root_own a (none_own a o is none))

  pub backward_on : (o.via ≡ invalid → ⊥) →
      half_walk n h backward (half n base labels a.labelled.heap a.labelled.len) v ≡
      unpacked h backward o.via ++ half_walk n h backward (half n base labels a.labelled.heap a.labelled.len) o.parent
  unfolding half_walk flat_map
  backward_on some =
      let c = climb n (x a) (own a).parent in
      let t = goes_on a o is some in
      rw (is, climb_own a t, root_parent a t, reverse-append c ((own a).via ∷ []))
      (append_assoc (unpacked h backward (own a).via) (flat_map (unpacked h backward) (reverse c)) (root n (x a) (own a).parent ∷ []))

-- nothing to put
pub put_nothing : (at limit : ℕ) (path : List ℕ) → Put [] at limit 0 path path
unfolding written
put_nothing at zero path = record { count = refl; path_is = refl }
put_nothing at (suc limit) path = record { count = refl; path_is = refl }

-- one half after the other
module _ {a b : List ℕ} {limit r k : ℕ} {path path' path'' : List ℕ} (p : Put a 0 limit r path path') (q : Put b r (limit - r) k path' path'') where
  at_rest : Put b (0 + r) (limit - r) k path' path''
  at_rest = rw (zero-add r) q

  pub walk_within : limit < 2 ^ 64 → r + k < 2 ^ 64
  walk_within fits = both_within p at_rest (omega arith)

  pub walk_put : Put (a ++ b) 0 limit (r + k) path path''
  walk_put = put_both p at_rest refl
