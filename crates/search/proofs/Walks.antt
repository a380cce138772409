-- A walk along a node's list: its arcs are between nodes and light.
use mathlib.Core.Path.{◌≡◌, refl}
use mathlib.Core.List.Memᴰ
use mathlib.Core.List.{List, ◌∷◌}
use Prim.Native.Nat.{ℕ, ◌+◌, ◌*◌, ◌≤◌, ◌<◌}
use native.Mathlib.Nat.{add-zero}
use native.Mathlib.Omega.{arith}
use lib.ListN.{length, get_or, drop}
use Rattle.rules.specs.Numbers.{invalid, max_weight}
use Rattle.rules.specs.Lists.{In, keep}
use Rattle.rules.specs.Graph.{Arc, leaves, enters, outs, ins}
use Rattle.rules.proofs.Members.{in_keep, in_map}
use Rattle.lists.specs.Memory.{memory, arc_at, touches}
use Rattle.lists.specs.Walks.{column, Reads, steps}
use Rattle.rules.proofs.Lists.{keep_length}
use Rattle.graph.proofs.Standing.{within_pool}
use Rattle.lists.proofs.Walks.{reads_on, reads_room, reads_nearer, in_drop}
use Rattle.graph.proofs.Reading.{reads_outs, reads_ins}
use Rattle.graph.proofs.Along.{Along, along_reads}
use Rattle.search.specs.Searching.{World, Standing}

pub record Fit (n : ℕ) (a : Arc) : Type 0 where
  pub tail : a.tail < n
  pub head : a.head < n
  pub light : a.weight ≤ max_weight

-- what is left of a list
pub record Left (n : ℕ) (arcs weights nodes : List ℕ) (s place : ℕ) (list : List Arc) : Type 0 where
  pub reads : Reads (memory arcs nodes) weights s place list
  pub each : (a : Arc) → In a list → Fit n a

module _ {w : World} {arcs weights nodes : List ℕ} (x : Standing w arcs weights nodes) where
  all_fit : (a : Arc) → In a w.graph → Fit w.n a
  all_fit a k =
      let ends = x.stands.placed.ends in
      let i = in_map (arc_at (memory arcs nodes) weights) a x.stands.ids (rw x.stands.arcs at k) in
      record {
        tail = rw i.2 (ends 0 i.0 (omega arith) i.1);
        head = rw i.2 (ends 1 i.0 (omega arith) i.1);
        light = x.light a k;
      }

  -- from where the code reads the first place
  pub left_outs : (v : ℕ) → v < w.n → Left w.n arcs weights nodes 0 (get_or nodes (4 * v) 0) (outs w.graph v)
  unfolding outs
  left_outs v inside =
      record {
        reads = rw (add-zero (4 * v)) at (reads_outs x.stands v inside);
        each = λ a k. all_fit a (in_keep (leaves v) a w.graph k).0;
      }

  pub left_ins : (v : ℕ) → v < w.n → Left w.n arcs weights nodes 1 (get_or nodes (4 * v + 2) 0) (ins w.graph v)
  unfolding ins
  left_ins v inside =
      record { reads = reads_ins x.stands v inside; each = λ a k. all_fit a (in_keep (enters v) a w.graph k).0 }

  -- and from any place on the way
  pub left_along : (s v : ℕ) {k place : ℕ} → s < 2 → v < w.n → Along x.stands s v k place →
      Left w.n arcs weights nodes s place (drop k (keep (touches s v) w.graph))
  left_along s v {k} two inside on_way =
      record {
        reads = along_reads x.stands s v two inside on_way;
        each = λ a m. all_fit a (in_keep (touches s v) a w.graph (in_drop a k (keep (touches s v) w.graph) m)).0;
      }

  pub few_ins : (v : ℕ) → length (ins w.graph v) ≤ w.pool
  unfolding ins
  few_ins v = omega (arith, keep_length (enters v) w.graph, within_pool x.stands)

module _ {n : ℕ} {arcs weights nodes : List ℕ} {s place : ℕ} {list : List Arc} (x : Left n arcs weights nodes s place list) (on : place ≡ invalid → ⊥) where
  pub left_fit : Fit n (arc_at (memory arcs nodes) weights place)
  left_fit = let r = reads_on x.reads on in x.each _ (rw r.1 (Memᴰ.head refl))

  pub left_room : (6 * place + 6 ≤ length arcs) × (place < length weights)
  left_room = reads_room x.reads on

  pub left_nearer : steps (column arcs (3 + s)) (length arcs) (column arcs (3 + s) place) < steps (column arcs (3 + s)) (length arcs) place
  left_nearer = reads_nearer x.reads on

  pub left_rest : (rest : List Arc) × (list ≡ arc_at (memory arcs nodes) weights place ∷ rest) × Left n arcs weights nodes s (column arcs (3 + s) place) rest
  left_rest =
      let r = reads_on x.reads on in
      (r.0, r.1, record { reads = r.2; each = λ a k. x.each a (rw r.1 (Memᴰ.tail k)) })
