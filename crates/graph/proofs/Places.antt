-- An arc comes into a place that was not live, and an arc leaves its place: both sides follow.
use mathlib.Core.Path.{◌≡◌, refl, sym, ap, ◌∙◌}
use mathlib.Core.List.Memᴰ
use mathlib.Core.List.{List, [], ◌∷◌, ◌++◌}
use Prim.Native.Nat.{ℕ, zero, suc, ◌+◌, ◌*◌, ◌-◌, ◌≤◌, ◌<◌}
use native.Mathlib.Omega.{arith}
use native.Mathlib.Decide.{ℕ_discrete}
use lib.Dec.{eqb}
use lib.ListN.{length, length-set}
use Rattle.rules.specs.Numbers.{invalid}
use Rattle.rules.specs.Lists.{In, keep}
use Rattle.rules.specs.Graph.{Arc}
use Rattle.rules.proofs.Lists.{keep_same, Distinct, of_distinct, distinct_left, without}
use Rattle.graph.specs.declared.preparation_graph.Pool.{Pool}
use Rattle.lists.specs.Memory.{Memory, memory, at, ends_at}
use Rattle.graph.specs.Stands.{Placed}
use Rattle.lists.specs.Steps.{set_at, append, unlink, write, put}
use Rattle.lists.specs.Walks.{before}
use Rattle.lists.proofs.Chains.{Valid}
use Rattle.lists.proofs.Stores.{Beside, at_same, at_other, beside_append, beside_unlink}
use Rattle.graph.proofs.Sides.{Sided, Roomy, listed_same, same_ends, beside_sided, append_sided, unlink_sided}

-- there are two sides
pub on_sides : (P : ℕ → Type 0) → P 0 → P 1 → (s : ℕ) → s < 2 → P s
on_sides P z o zero h = z
on_sides P z o (suc zero) h = o
on_sides P z o (suc (suc s)) h = absurd (omega arith)

-- a number of a place that is no link of a list
abbrev pub Own : ℕ → Type 0
Own k = (k < 6) × (k ≡ 3 → ⊥) × (k ≡ 4 → ⊥)

-- What a pool says of its live places.
module _ {n pool : ℕ} {m : Memory} {state : Pool} {ids freed : List ℕ} (here : Placed n pool m state ids freed) where
  pub place_below : (i : ℕ) → In i ids → i < pool
  place_below i k = omega (arith, here.below i (Memᴰ.append_left freed k), here.within)

  pub valid : Valid ids
  valid i k e = omega (arith, place_below i k, here.numbered)

  pub freed_valid : Valid freed
  freed_valid i k e = omega (arith, here.below i (Memᴰ.append_right ids k), here.within, here.numbered)

  pub all_once : Distinct (ids ++ freed)
  all_once = of_distinct (ids ++ freed) here.apart

  pub once : Distinct ids
  once = distinct_left ids freed all_once

  pub roomy : Roomy m ids
  roomy i k = omega (arith, place_below i k, here.arcs_room)

  pub live_at_most : length ids ≤ pool
  live_at_most = omega (arith, here.count, here.within)

-- An arc is written at a place that was not live, and goes to the end of both lists.
module _ {n pool : ℕ} {m : Memory} {state : Pool} {ids freed : List ℕ} (here : Placed n pool m state ids freed)
    (p : ℕ) (absent : In p ids → ⊥) (below : p < pool) (a : Arc) (tail_in : a.tail < n) (head_in : a.head < n) where
  place : p ≡ invalid → ⊥
  place e = omega (arith, here.numbered)

  room : 6 * p + 6 ≤ length m.arcs
  room = omega (arith, here.arcs_room)

  abbrev written : Memory
  written = memory (write m.arcs p a) m.nodes

  written_long : length written.arcs ≡ length m.arcs
  unfolding write
  written_long = simp length-set

  written_other : (k i : ℕ) → k < 6 → (i ≡ p → k < 3 → ⊥) → at written k i ≡ at m k i
  unfolding write
  written_other k i h d =
      at_other (set_at (set_at m 0 p a.tail) 1 p a.head) 2 p a.centre i k (omega arith) h (λ e. d e.0 (omega (arith, e.1))) ∙
      at_other (set_at m 0 p a.tail) 1 p a.head i k (omega arith) h (λ e. d e.0 (omega (arith, e.1))) ∙
      at_other m 0 p a.tail i k (omega arith) h (λ e. d e.0 (omega (arith, e.1)))

  written_tail : at written 0 p ≡ a.tail
  unfolding write
  written_tail =
      at_other (set_at (set_at m 0 p a.tail) 1 p a.head) 2 p a.centre p 0 (omega arith) (omega arith) (λ e. omega (arith, e.1)) ∙
      at_other (set_at m 0 p a.tail) 1 p a.head p 0 (omega arith) (omega arith) (λ e. omega (arith, e.1)) ∙
      at_same m 0 p a.tail (omega (arith, room))

  written_head : at written 1 p ≡ a.head
  unfolding write
  written_head =
      at_other (set_at (set_at m 0 p a.tail) 1 p a.head) 2 p a.centre p 1 (omega arith) (omega arith) (λ e. omega (arith, e.1)) ∙
      at_same (set_at m 0 p a.tail) 1 p a.head (simp length-set (omega (arith, room)))

  written_centre : at written 2 p ≡ a.centre
  unfolding write
  written_centre = at_same (set_at (set_at m 0 p a.tail) 1 p a.head) 2 p a.centre (simp length-set (omega (arith, room)))

  written_sides : (s : ℕ) → s < 2 → Sided n written s ids
  written_sides s two v h =
      rw (keep_same (ends_at written s v) (ends_at m s v) ids (λ i k. ap (λ x. eqb x v) (written_other s i (omega arith) (λ e _. absent (rw e at k)))))
      (listed_same m written s v _ (λ i k. written_other (3 + s) i (omega arith) (λ _ l. omega arith))
      refl refl (here.listed s v two h))

  abbrev out : Memory
  out = append written 0 a.tail p

  beside_out : Beside 0 written out
  beside_out = beside_append written 0 (omega arith) a.tail p

  beside_in : Beside 1 out (put m p a)
  unfolding put
  beside_in = beside_append out 1 (omega arith) a.head p

  out_side : Sided n out 0 (ids ++ p ∷ [])
  out_side =
      append_sided n written 0 (omega arith) ids (valid here) (once here) (λ i k. omega (arith, roomy here i k, written_long))
      here.nodes_room (written_sides 0 (omega arith)) a.tail tail_in p written_tail absent place
      (omega (arith, room, written_long))

  in_side : Sided n (put m p a) 1 (ids ++ p ∷ [])
  unfolding put
  in_side =
      append_sided n out 1 (omega arith) ids (valid here) (once here) (λ i k. omega (arith, roomy here i k, written_long, beside_out.arcs_long))
      (omega (arith, here.nodes_room, beside_out.nodes_long))
      (beside_sided n 0 1 written out (omega arith) (omega arith) (λ e. omega arith) beside_out ids (written_sides 1 (omega arith)))
      a.head head_in p (beside_out.numbers 1 p (omega arith) (λ e. omega arith) ∙ written_head) absent place
      (omega (arith, room, written_long, beside_out.arcs_long))

  pub put_sides : (s : ℕ) → s < 2 → Sided n (put m p a) s (ids ++ p ∷ [])
  put_sides =
      on_sides (λ s. Sided n (put m p a) s (ids ++ p ∷ []))
      (beside_sided n 1 0 out (put m p a) (omega arith) (omega arith) (λ e. omega arith) beside_in (ids ++ p ∷ []) out_side)
      in_side

  put_number : (k i : ℕ) → Own k → at (put m p a) k i ≡ at written k i
  put_number k i (low, out, enter) = beside_in.numbers k i low enter ∙ beside_out.numbers k i low out

  pub put_other : (k i : ℕ) → Own k → (i ≡ p → k < 3 → ⊥) → at (put m p a) k i ≡ at m k i
  put_other k i own d = put_number k i own ∙ written_other k i own.0 d

  pub put_tail : at (put m p a) 0 p ≡ a.tail
  put_tail = put_number 0 p (omega arith) ∙ written_tail

  pub put_head : at (put m p a) 1 p ≡ a.head
  put_head = put_number 1 p (omega arith) ∙ written_head

  pub put_centre : at (put m p a) 2 p ≡ a.centre
  put_centre = put_number 2 p (omega arith) ∙ written_centre

  pub put_arcs_long : length (put m p a).arcs ≡ length m.arcs
  put_arcs_long = beside_in.arcs_long ∙ beside_out.arcs_long ∙ written_long

  pub put_nodes_long : length (put m p a).nodes ≡ length m.nodes
  put_nodes_long = beside_in.nodes_long ∙ beside_out.nodes_long

-- An arc leaves: it is unlinked on the side other than s, then on side s, and its place goes to the front of the freed.
module _ {n pool : ℕ} {m : Memory} {state : Pool} {ids freed : List ℕ} (here : Placed n pool m state ids freed)
    (s : ℕ) (two : s < 2) (p : ℕ) (there : In p ids) (v : ℕ) (inside : v < n) (near : at m s p ≡ v)
    (b : ℕ) (b_is : b ≡ before invalid p (keep (ends_at m (1 - s) (at m (1 - s) p)) ids))
    (c : ℕ) (c_is : c ≡ before invalid p (keep (ends_at m s v) ids)) (free : ℕ) where
  abbrev t : ℕ
  t = 1 - s

  abbrev far : ℕ
  far = at m t p

  side : (q : ℕ) → q < 2 → Sided n m q ids
  side q h u = here.listed q u h

  abbrev once_out : Memory
  once_out = unlink m t far p b

  abbrev twice_out : Memory
  twice_out = unlink once_out s v p c

  beside_far : Beside t m once_out
  beside_far = beside_unlink m t (omega arith) far p b

  beside_near : Beside s once_out twice_out
  beside_near = beside_unlink once_out s two v p c

  far_side : Sided n once_out t (without p ids)
  far_side = unlink_sided n m t (omega arith) ids (valid here) (once here) (roomy here) here.nodes_room (side t (omega arith)) far
      (here.ends t p (omega arith) there) p refl there b b_is

  near_side : Sided n twice_out s (without p ids)
  near_side =
      unlink_sided n once_out s two ids (valid here) (once here) (λ i k. omega (arith, roomy here i k, beside_far.arcs_long))
      (omega (arith, here.nodes_room, beside_far.nodes_long))
      (beside_sided n t s m once_out (omega arith) two (λ e. omega arith) beside_far ids (side s two))
      v inside p (beside_far.numbers s p (omega arith) (λ e. omega arith) ∙ near) there c
      (c_is ∙ ap (before invalid p) (sym (same_ends t s m once_out (omega arith) two beside_far v ids)))

  abbrev removed : Memory
  removed = set_at twice_out 5 p free

  pub removed_same : (k i : ℕ) → k < 3 → at removed k i ≡ at m k i
  removed_same k i h =
      at_other twice_out 5 p free i k (omega arith) (omega arith) (λ e. omega (arith, e.1)) ∙
      beside_near.numbers k i (omega arith) (λ e. omega arith) ∙ beside_far.numbers k i (omega arith) (λ e. omega arith)

  -- the links and ends of both lists are those of `twice_out`
  freed_side : (q : ℕ) → q < 2 → Sided n twice_out q (without p ids) → Sided n removed q (without p ids)
  freed_side q h c u k =
      rw (keep_same (ends_at removed q u) (ends_at twice_out q u) (without p ids)
      (λ i _. ap (λ x. eqb x u) (at_other twice_out 5 p free i q (omega arith) (omega arith) (λ e. omega (arith, e.1)))))
      (listed_same twice_out removed q u _
      (λ i _. at_other twice_out 5 p free i (3 + q) (omega arith) (omega arith) (λ e. omega (arith, e.1)))
      refl refl (c u k))

  pub removed_sides : (q : ℕ) → q < 2 → Sided n removed q (without p ids)
  removed_sides q h =
      elim (ℕ_discrete q s) [
        | yes same ↦ rw same (freed_side s two near_side)
        | no d ↦
            let is_t : q ≡ t = omega arith in
            rw is_t
            (freed_side t (omega arith)
            (beside_sided n s t once_out twice_out two (omega arith) (λ e. omega arith) beside_near (without p ids) far_side))
      ]

  pub removed_free : at removed 5 p ≡ free
  removed_free = at_same twice_out 5 p free (omega (arith, roomy here p there, beside_near.arcs_long, beside_far.arcs_long))

  pub removed_freed : (i : ℕ) → (i ≡ p → ⊥) → at removed 5 i ≡ at m 5 i
  removed_freed i d =
      at_other twice_out 5 p free i 5 (omega arith) (omega arith) (λ e. d e.0) ∙
      beside_near.numbers 5 i (omega arith) (λ e. omega arith) ∙ beside_far.numbers 5 i (omega arith) (λ e. omega arith)

  pub removed_arcs_long : length removed.arcs ≡ length m.arcs
  removed_arcs_long = simp length-set (beside_near.arcs_long ∙ beside_far.arcs_long)

  pub removed_nodes_long : length removed.nodes ≡ length m.nodes
  removed_nodes_long = beside_near.nodes_long ∙ beside_far.nodes_long
