-- For those who read a node's list: it starts at the node's first place, a place that is not the mark holds the list's head and
-- its link leads to the rest, and the mark is its end.
use mathlib.Core.Path.{◌≡◌, refl, ap, ◌∙◌}
use mathlib.Core.List.{List, map}
use Prim.Native.Nat.{ℕ, ◌+◌, ◌*◌, ◌<◌}
use native.Mathlib.Nat.{add-zero}
use native.Mathlib.Omega.{arith}
use lib.ListN.{length, get_or}
use Rattle.rules.specs.Lists.{keep}
use Rattle.rules.specs.Graph.{Arc, leaves, enters, outs, ins}
use Rattle.rules.proofs.Members.{in_keep}
use Rattle.rules.proofs.Lists.{keep_same, keep_length, keep_map}
use Rattle.graph.specs.declared.preparation_graph.Pool.{Pool}
use Rattle.lists.specs.Memory.{Memory, first, arc_at, ends_at, touches}
use Rattle.graph.specs.Stands.{Stands}
use Rattle.lists.specs.Walks.{Walk, Reads}
use Rattle.graph.proofs.Places.{on_sides, place_below, valid, roomy, live_at_most}

-- an end of an arc is what its place holds
pub touched : (m : Memory) (w : List ℕ) (v i s : ℕ) → s < 2 → touches s v (arc_at m w i) ≡ ends_at m s v i
unfolding touches leaves enters
touched m w v i = on_sides (λ s. touches s v (arc_at m w i) ≡ ends_at m s v i) refl refl

module _ {n pool : ℕ} {m : Memory} {w : List ℕ} {state : Pool} {g : List Arc} (here : Stands n pool m w state g) where
  module _ (s v : ℕ) (two : s < 2) (inside : v < n) where
    -- the places of a node's list
    abbrev own : List ℕ
    own = keep (ends_at m s v) here.ids

    pub own_walk : Walk m.arcs (3 + s) (first m s v) own
    own_walk = record {
      chain = (here.placed.listed s v two inside).chain;
      valid = λ i k. valid here.placed i (in_keep (ends_at m s v) i here.ids k).0;
      room = λ i k. roomy here.placed i (in_keep (ends_at m s v) i here.ids k).0;
      short =
          omega (arith, keep_length (ends_at m s v) here.ids, live_at_most here.placed, here.placed.arcs_room);
    }

    pub own_arcs : keep (touches s v) g ≡ map (arc_at m w) own
    own_arcs =
        ap (keep (touches s v)) here.arcs ∙ keep_map (arc_at m w) (touches s v) here.ids ∙
        ap (map (arc_at m w)) (keep_same _ _ here.ids (λ i k. touched m w v i s two))

    pub reads_list : Reads m w s (first m s v) (keep (touches s v) g)
    reads_list = record {
      places = own;
      walk = own_walk;
      arcs = own_arcs;
      weighed =
          λ i k.
          omega (arith, place_below here.placed i (in_keep (ends_at m s v) i here.ids k).0, here.weights_room);
    }

    pub read_places : reads_list.places ≡ keep (ends_at m s v) here.ids
    unfolding keep reads_list
    read_places = refl

  -- the places of an out list, from where the code reads its first
  pub outs_walk : (v : ℕ) → v < n → Walk m.arcs 3 (get_or m.nodes (4 * v) 0) (keep (ends_at m 0 v) here.ids)
  outs_walk v inside = rw (add-zero (4 * v)) at (own_walk 0 v (omega arith) inside)

  pub reads_outs : (v : ℕ) → v < n → Reads m w 0 (first m 0 v) (outs g v)
  unfolding outs touches
  reads_outs v inside = reads_list 0 v (omega arith) inside

  pub reads_ins : (v : ℕ) → v < n → Reads m w 1 (first m 1 v) (ins g v)
  unfolding ins touches
  reads_ins v inside = reads_list 1 v (omega arith) inside

  pub first_room : (s v : ℕ) → s < 2 → v < n → 4 * v + (2 * s + 1) < length m.nodes
  first_room s v two inside = omega (arith, here.placed.nodes_room)
