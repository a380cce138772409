-- For those who walk along a list: a place that is not the mark holds the list's head and its link leads to the rest, and the mark
-- is its end.
use mathlib.Core.Path.{◌≡◌, refl, sym, ap, ◌∙◌}
use mathlib.Core.List.Memᴰ
use mathlib.Core.List.{List, [], ◌∷◌, map}
use Prim.Native.Nat.{ℕ, zero, suc, ◌+◌, ◌*◌, ◌≤◌, ◌<◌}
use native.Mathlib.Nat.{add-zero}
use native.Mathlib.Omega.{arith}
use lib.ListN.{length, get_or, drop, length-drop, length-map}
use Rattle.rules.specs.Numbers.{invalid}
use Rattle.rules.specs.Lists.{In}
use Rattle.rules.specs.Graph.{Arc}
use Rattle.lists.specs.Memory.{Memory, at, first, arc_at, Chain}
use Rattle.lists.specs.Walks.{column, Walk, Reads, steps}
use Rattle.lists.proofs.Chains.{chain_empty, chain_first, chain_steps}

-- The code's numbers of a place and of a node: number 0 is the first.
pub first_out : (m : Memory) (v : ℕ) → get_or m.nodes (4 * v) 0 ≡ first m 0 v
first_out m v = ap (λ k. get_or m.nodes k 0) (sym (add-zero (4 * v)))

pub tail_at : (m : Memory) (i : ℕ) → get_or m.arcs (6 * i) 0 ≡ at m 0 i
tail_at m i = ap (λ k. get_or m.arcs k 0) (sym (add-zero (6 * i)))

-- A walk's steps.
module _ {arcs : List ℕ} {k start : ℕ} {places : List ℕ} (walk : Walk arcs k start places) where
  pub walk_end : start ≡ invalid → places ≡ []
  walk_end h = chain_empty (column arcs k) places start walk.valid walk.chain h

  pub walk_on : (start ≡ invalid → ⊥) → (rest : List ℕ) × (places ≡ start ∷ rest) × Walk arcs k (column arcs k start) rest
  walk_on h =
      let r = chain_first (column arcs k) places start walk.chain h in
      let later : (i : ℕ) → In i r.0 → In i places = λ i m. rw r.1 (Memᴰ.tail m) in (
        r.0,
        r.1,
        record {
          chain = r.2;
          valid = λ i m. walk.valid i (later i m);
          room = λ i m. walk.room i (later i m);
          short = omega (arith, ap length r.1, walk.short);
        },
      )

  pub walk_room : (start ≡ invalid → ⊥) → 6 * start + 6 ≤ length arcs
  walk_room h = let r = walk_on h in walk.room start (rw r.1 (Memᴰ.head refl))

  pub walk_steps : steps (column arcs k) (length arcs) start ≡ length places
  walk_steps = chain_steps (column arcs k) (length arcs) start places walk.valid walk.short walk.chain

-- so a walk comes nearer to its end
pub walk_nearer : {arcs : List ℕ} {k start : ℕ} {places : List ℕ} → Walk arcs k start places → (start ≡ invalid → ⊥)
    → steps (column arcs k) (length arcs) (column arcs k start) < steps (column arcs k) (length arcs) start
walk_nearer walk h =
    let r = walk_on walk h in
    omega (arith, walk_steps walk, walk_steps r.2, ap length r.1)

module _ {m : Memory} {w : List ℕ} {s start : ℕ} {list : List Arc} (reads : Reads m w s start list) where
  pub reads_end : start ≡ invalid → list ≡ []
  reads_end h = reads.arcs ∙ ap (map (arc_at m w)) (walk_end reads.walk h)

  pub reads_on : (start ≡ invalid → ⊥) → (rest : List Arc) × (list ≡ arc_at m w start ∷ rest) × Reads m w s (at m (3 + s) start) rest
  reads_on h =
      let r = walk_on reads.walk h in (
        map (arc_at m w) r.0,
        reads.arcs ∙ ap (map (arc_at m w)) r.1,
        record {
          places = r.0;
          walk = r.2;
          arcs = refl;
          weighed = λ i k. reads.weighed i (rw r.1 (Memᴰ.tail k));
        },
      )

  pub reads_room : (start ≡ invalid → ⊥) → (6 * start + 6 ≤ length m.arcs) × (start < length w)
  reads_room h =
      let r = walk_on reads.walk h in
      (walk_room reads.walk h, reads.weighed start (rw r.1 (Memᴰ.head refl)))

  pub reads_steps : steps (at m (3 + s)) (length m.arcs) start ≡ length list
  reads_steps =
      let long : length list ≡ length reads.places = rw (reads.arcs, length-map) in
      walk_steps reads.walk ∙ sym long

  pub reads_nearer : (start ≡ invalid → ⊥) → steps (at m (3 + s)) (length m.arcs) (at m (3 + s) start) < steps (at m (3 + s)) (length m.arcs) start
  reads_nearer h = walk_nearer reads.walk h

-- A walk that has passed k places: it is at the first of those that are left.
unfoldable pub first_of : List ℕ → ℕ
first_of [] = invalid
first_of (i ∷ l) = i

chain_starts : (next : ℕ → ℕ) (start : ℕ) (l : List ℕ) → Chain next start l → start ≡ first_of l
unfolding first_of
chain_starts next start [] c = c
chain_starts next start (i ∷ l) c = c.0

chain_from : (next : ℕ → ℕ) (start : ℕ) (l : List ℕ) (k : ℕ) → Chain next start l → Chain next (first_of (drop k l)) (drop k l)
unfolding first_of
chain_from next start l zero c = rw (← chain_starts next start l c) c
chain_from next start [] (suc k) c = refl
chain_from next start (i ∷ l) (suc k) c = chain_from next (next i) l k c.1

pub in_drop : {A : Type 0} (x : A) (k : ℕ) (l : List A) → In x (drop k l) → In x l
in_drop x zero l m = m
in_drop x (suc k) [] m = m
in_drop x (suc k) (y ∷ l) m = Memᴰ.tail (in_drop x k l m)

map_drop : {A B : Type 0} (f : A → B) (k : ℕ) (l : List A) → drop k (map f l) ≡ map f (drop k l)
map_drop f zero l = refl
map_drop f (suc k) [] = refl
map_drop f (suc k) (x ∷ l) = map_drop f k l

pub reads_start : {m : Memory} {w : List ℕ} {s start : ℕ} {list : List Arc} (reads : Reads m w s start list) → start ≡ first_of (drop 0 reads.places)
reads_start reads = chain_starts _ _ reads.places reads.walk.chain

-- what is left of the list can be read from there
pub reads_from : {m : Memory} {w : List ℕ} {s start : ℕ} {list : List Arc} (reads : Reads m w s start list) (k : ℕ) →
    Reads m w s (first_of (drop k reads.places)) (drop k list)
reads_from {m} {w} {s} {start} {list} reads k =
    let places = reads.places in
    let walk = reads.walk in
    record {
      places = drop k places;
      walk =
          record {
            chain = chain_from (column m.arcs (3 + s)) start places k walk.chain;
            valid = λ i h. walk.valid i (in_drop i k places h);
            room = λ i h. walk.room i (in_drop i k places h);
            short = omega (arith, length-drop k places, walk.short);
          };
      arcs = ap (drop k) reads.arcs ∙ map_drop (arc_at m w) k places;
      weighed = λ i h. reads.weighed i (in_drop i k places h);
    }

-- and its link leads to the next
pub place_on : (next : ℕ → ℕ) (start : ℕ) (l : List ℕ) (k : ℕ) → Chain next start l → (first_of (drop k l) ≡ invalid → ⊥) →
    next (first_of (drop k l)) ≡ first_of (drop (suc k) l)
unfolding first_of
place_on next start [] zero c h = absurd (h refl)
place_on next start (i ∷ l) zero c h = chain_starts next (next i) l c.1
place_on next start [] (suc k) c h = absurd (h refl)
place_on next start (i ∷ l) (suc k) c h = place_on next (next i) l k c.1 h
