-- Laws of a whole node: its out-arcs are a chain of places, and the heap has room for what they offer.
use mathlib.Core.Path.{◌≡◌, sym, ap, ◌∙◌}
use mathlib.Core.List.{List, [], map}
use Prim.Native.Nat.{ℕ, ◌*◌, ◌≤◌, ◌<◌}
use native.Mathlib.Omega.{arith}
use lib.ListN.{length, get_or, length-map}
use Rattle.rules.specs.Lists.{In, keep}
use Rattle.rules.specs.Graph.{leaves, outs}
use Rattle.rules.specs.Search.{Search, mark_settled, settle}
use Rattle.rules.proofs.Members.{in_keep, map_in}
use Rattle.rules.proofs.Lists.{keep_length}
use Rattle.heap.specs.Items.{pair}
use Rattle.lists.specs.Memory.{memory, arc_at, ends_at, touches}
use Rattle.graph.proofs.Places.{place_below}
use Rattle.graph.proofs.Standing.{within_pool}
use Rattle.graph.proofs.Reading.{own_arcs, outs_walk}
use Rattle.search.specs.Labels.{put_settled}
use Rattle.search.specs.Searching.{Searching, World, Standing, Lent}
use Rattle.search.specs.Promises.{Row, Usable, Relaxing, Relaxed, Settling}
use Rattle.search.proofs.Offers.{marked, relax_marked}
use Rattle.search.proofs.Rows.{row}

module _ {w : World} {arcs weights nodes : List ℕ} (x : Standing w arcs weights nodes) (v : ℕ) (inside : v < w.n) where
  -- the places of its out-arcs
  pub out_places : List ℕ
  out_places = keep (ends_at (memory arcs nodes) 0 v) x.stands.ids

  pub outs_at : outs w.graph v ≡ map (arc_at (memory arcs []) weights) out_places
  unfolding out_places outs touches
  outs_at = own_arcs x.stands 0 v (omega arith) inside

  pub outs_many : length (outs w.graph v) ≡ length out_places
  outs_many = ap length outs_at ∙ length-map out_places (arc_at (memory arcs []) weights)

  -- no more of them than arcs
  pub out_short : length out_places ≤ length weights
  unfolding outs
  out_short = omega (arith, outs_many, keep_length (leaves v) w.graph, within_pool x.stands, x.stands.weights_room)

  pub out_usable : (i : ℕ) → In i out_places → Usable w.n arcs weights i
  unfolding out_places
  out_usable i m =
      let here = (in_keep (ends_at (memory arcs nodes) 0 v) i x.stands.ids m).0 in
      let p = x.stands.placed in
      let below = place_below p i here in
      let arc = map_in (arc_at (memory arcs []) weights) i x.stands.ids here in
      record {
        valid = omega (arith, below, p.numbered);
        arc_room = omega (arith, below, p.arcs_room);
        weight_room = omega (arith, below, x.stands.weights_room);
        head = p.ends 1 i (omega arith) here;
        light = x.light (arc_at (memory arcs []) weights i) (rw x.stands.arcs arc);
      }

module _ {m : Lent} {base len v weight : ℕ} {w : World} {s : Search} (x : Settling m base len v weight w s) where
  abbrev pub settled_row : Row
  settled_row = row w.n (out_places x.standing v x.node.inside)

  -- v is marked, and its arcs are to be relaxed
  pub settling : Relaxing m.arcs m.weights (put_settled m.labels base v) m.heap base len (get_or m.nodes (4 * v) 0) weight settled_row (mark_settled v s)
  unfolding out_places
  settling =
      record {
        chain = (outs_walk x.standing.stands v x.node.inside).chain;
        usable = out_usable x.standing v x.node.inside;
        short = out_short x.standing v x.node.inside;
        light = x.light;
        room = omega (arith, x.room, outs_many x.standing v x.node.inside);
        searching = marked x.searching v x.node;
      }

  pub settled : (avoid : ℕ) {labels heap : List ℕ} {len' : ℕ} → Relaxed m.arcs m.weights labels heap base len' avoid weight settled_row (mark_settled v s) →
      Searching w.n labels heap base len' (settle w.graph avoid (pair weight v) s)
  unfolding settle
  settled avoid y =
      rw (sym (relax_marked v avoid weight (outs w.graph v) s), outs_at x.standing v x.node.inside) y
