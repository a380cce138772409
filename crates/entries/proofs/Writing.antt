-- A list is written down, arc by arc.
use mathlib.Core.Path.{◌≡◌, refl, sym, ◌∙◌, ap}
use mathlib.Core.List.{List, [], ◌∷◌, ◌++◌, map, map-append, append_assoc, append-nil}
use Prim.Native.Nat.{ℕ, zero, suc, ◌+◌, ◌*◌, ◌-◌, ◌<◌}
use native.Mathlib.Omega.{arith}
use lib.ListN.{length, get_or, set, length-append, length-map}
use Rattle.rules.specs.Numbers.{invalid}
use Rattle.rules.specs.Lists.{over}
use Rattle.rules.specs.Graph.{Arc}
use Rattle.rules.specs.Build.{raw, neighbour_of}
use Rattle.rules.proofs.Prefixes.{column_next}
use Rattle.lists.specs.Memory.{Memory, memory, arc_at}
use Rattle.lists.specs.Walks.{column, Walk, Reads}
use Rattle.lists.proofs.Walks.{walk_on, walk_end, reads_on, reads_end}
use Rattle.entries.specs.Laid.{side_of, Four, four, four_over}
use Rattle.entries.specs.Promises.{Writable}

-- Counting along a walk.
pub record Counted (arcs : List ℕ) (k place count : ℕ) (places : List ℕ) : Type 0 where
  pub rest : List ℕ
  pub walk : Walk arcs k place rest
  pub sum : count + length rest ≡ length places

pub one_counted : {arcs : List ℕ} {k place count : ℕ} {places : List ℕ} → Counted arcs k place count places → (place ≡ invalid → ⊥) →
    Counted arcs k (column arcs k place) (count + 1) places
one_counted x on =
    let r = walk_on x.walk on in
    record { rest = r.0; walk = r.2; sum = omega (arith, x.sum, ap length r.1) }

pub all_counted : {arcs : List ℕ} {k place count : ℕ} {places : List ℕ} → Counted arcs k place count places → place ≡ invalid → count ≡ length places
all_counted x e = omega (arith, x.sum, ap length (walk_end x.walk e))

-- the neighbour, as the code reads it
pub neighbour_read : (m : Memory) (w : List ℕ) (i s : ℕ) → s < 2 → get_or m.arcs (6 * i + 1 - s) 0 ≡ neighbour_of (side_of s) (arc_at m w i)
unfolding neighbour_of side_of
neighbour_read m w i zero h = ap (λ k. get_or m.arcs k 0) (omega arith)
neighbour_read m w i (suc zero) h = ap (λ k. get_or m.arcs k 0) (omega arith)
neighbour_read m w i (suc (suc s)) h = absurd (omega arith)

pub record Written (m : Memory) (weights : List ℕ) (side place v e : ℕ) (t₀ t : Four) (list : List Arc) : Type 0 where
  pub done : List Arc
  pub rest : List Arc
  pub whole : list ≡ done ++ rest
  pub reads : Reads m weights side place rest
  pub count : length done ≡ e
  pub is : t ≡ four_over t₀ (map (raw (side_of side) v) done)

pub none_written : {m : Memory} {weights : List ℕ} {side first v : ℕ} {t : Four} {list : List Arc} → Writable m weights side first list t →
    Written m weights side first v 0 t t list
unfolding four_over over
none_written x = record { done = []; rest = _; whole = refl; reads = x.reads; count = refl; is = refl }

module _ {arcs nodes weights : List ℕ} {side first place v e : ℕ} {b₀ n₀ w₀ c₀ b n w c : List ℕ} {list : List Arc}
    (p : Writable (memory arcs nodes) weights side first list (four b₀ n₀ w₀ c₀))
    (x : Written (memory arcs nodes) weights side place v e (four b₀ n₀ w₀ c₀) (four b n w c) list) where
  pub one_written : (place ≡ invalid → ⊥) →
      Written (memory arcs nodes) weights side (column arcs (3 + side) place) v (e + 1) (four b₀ n₀ w₀ c₀)
      (four (set b e v) (set n e (get_or arcs (6 * place + 1 - side) 0)) (set w e (get_or weights place 0)) (set c e (get_or arcs (6 * place + 2) 0))) list
  unfolding four_over raw
  one_written on =
      let a = arc_at (memory arcs nodes) weights place in
      let r = reads_on x.reads on in
      let rs = map (raw (side_of side) v) x.done in
      let long : length rs ≡ e = length-map x.done (raw (side_of side) v) ∙ x.count in
      let room : e < length b₀ = omega (arith, p.room, x.count, ap length x.whole, length-append x.done x.rest, ap length r.1) in
      let more : map (raw (side_of side) v) (x.done ++ a ∷ []) ≡ rs ++ raw (side_of side) v a ∷ [] = map-append (raw (side_of side) v) x.done (a ∷ []) in
      record {
        done = x.done ++ a ∷ [];
        rest = r.0;
        whole = x.whole ∙ ap (λ l. x.done ++ l) r.1 ∙ sym (append_assoc x.done (a ∷ []) r.0);
        reads = r.2;
        count = omega (arith, length-append x.done (a ∷ []), x.count);
        is =
            rw more
            (λ i.
            four
            (column_next b₀ b (λ r. r.base) rs (raw (side_of side) v a) e v (ap (λ t. t.bases) x.is) refl long room i)
            (column_next n₀ n (λ r. r.neighbour) rs (raw (side_of side) v a) e (get_or arcs (6 * place + 1 - side) 0) (ap (λ t. t.neighbours) x.is)
            (neighbour_read (memory arcs nodes) weights place side p.two)
            long
            (omega (arith, p.even.neighbours))
            i)
            (column_next w₀ w (λ r. r.weight) rs (raw (side_of side) v a) e (get_or weights place 0) (ap (λ t. t.weights) x.is) refl long (omega (arith, p.even.weights)) i)
            (column_next c₀ c (λ r. r.centre) rs (raw (side_of side) v a) e (get_or arcs (6 * place + 2) 0) (ap (λ t. t.centres) x.is) refl long (omega (arith, p.even.centres)) i));
      }

  pub room_left : (place ≡ invalid → ⊥) → e < length b₀
  room_left on =
      let r = reads_on x.reads on in
      omega (arith, p.room, x.count, ap length x.whole, length-append x.done x.rest, ap length r.1)

  pub all_written : place ≡ invalid → four b n w c ≡ four_over (four b₀ n₀ w₀ c₀) (map (raw (side_of side) v) list)
  all_written end =
      let whole : list ≡ x.done = x.whole ∙ ap (λ l. x.done ++ l) (reads_end x.reads end) ∙ append-nil x.done in
      rw whole x.is
