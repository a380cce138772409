-- What a caller may cite: how calls follow one another.
use mathlib.Core.Path.{◌≡◌, refl, sym, ◌∙◌}
use mathlib.Core.Logic.{inl, inr}
use mathlib.Core.List.{List}
use Prim.Native.Nat.{ℕ, ◌+◌, ◌*◌, ◌≤◌}
use native.Mathlib.Omega.{arith}
use lib.ListN.{length}
use Rattle.rules.specs.Numbers.{max_weight}
use Rattle.rules.specs.Graph.{Arc, add_or_reduce}
use Rattle.rules.specs.Search.{Search, init}
use Rattle.search_laws.proofs.Graphs.{in_added}
use Rattle.search_laws.proofs.Bounds.{init_paid, added_paid}
use Rattle.lists.specs.Memory.{memory}
use Rattle.graph.specs.Stands.{Stands}
use Rattle.graph.specs.declared.preparation_graph.Pool.{Pool}
use Rattle.search.specs.declared.witness_search.WitnessSearch.{WitnessSearch}
use Rattle.search.specs.declared.witness_search.LentSearch.{LentSearch}
use Rattle.search.specs.Labels.{Stamped}
use Rattle.search.specs.Searching.{World, Standing, Lent, lent, Ready, Resting, Startable}
use Rattle.search.specs.Promises.{Starting, Started, Kept}

-- a search that began stands ready, in a heap with room for an entry of each place, and one
pub started_ready : {w : World} {m : Lent} {base start avoid : ℕ} (r : WitnessSearch) → Started m.labels m.heap base start avoid r w.n →
    Standing w m.arcs m.weights m.nodes → 2 * (w.pool + 1) ≤ length m.heap →
    Ready w m r.base r.len r.settled (init start)
unfolding init
started_ready {w} {m} {base} {start} r x standing room =
    record {
      standing = standing;
      searching = x.searching;
      counted = sym x.counted;
      paid = init_paid w.graph start;
      room = room;
    }

-- the graph after a shortcut
abbrev pub with_arc : World → Pool → Arc → World
with_arc w state a = record { n = w.n; pool = w.pool; state = state; graph = add_or_reduce a w.graph }

-- a light arc came
pub standing_added : {w : World} {arcs weights nodes arcs' weights' nodes' : List ℕ} {state : Pool} (a : Arc) → Standing w arcs weights nodes → a.weight ≤ max_weight →
    Stands w.n w.pool (memory arcs' nodes') weights' state (add_or_reduce a w.graph) → Standing (with_arc w state a) arcs' weights' nodes'
standing_added {w} a x light stands =
    record {
      stands = stands;
      light = λ b m. elim (in_added a w.graph b m) [ inl old ↦ x.light b old | inr new ↦ rw new light ];
    }

module _ {w : World} {m : Lent} {base len count : ℕ} {s : Search} (x : Ready w m base len count s) where
  -- it stays ready: labels and heap have no word of the graph
  pub ready_added : (state : Pool) (a : Arc) {arcs weights nodes : List ℕ} → Standing (with_arc w state a) arcs weights nodes →
      Ready (with_arc w state a) (lent arcs weights nodes m.labels m.heap) base len count s
  ready_added state a standing =
      record {
        standing = standing;
        searching = x.searching;
        counted = x.counted;
        paid = added_paid a w.graph s x.paid;
        room = x.room;
      }

  -- the next search can begin
  pub ready_stamped : Stamped w.n m.labels base
  ready_stamped = x.searching.labelled.stamped

-- the next search may begin, and then it goes
module _ {w : World} {arcs weights nodes labels : List ℕ} {base : ℕ} where
  pub still : {heap heap' base' : ℕ} {labels' : List ℕ} → Resting w arcs weights nodes labels heap base → heap' ≡ heap → Stamped w.n labels' base' →
      Resting w arcs weights nodes labels' heap' base'
  still x e s = record { standing = x.standing; stamped = s; heap_room = omega (arith, e, x.heap_room) }

  pub starting : {heap : List ℕ} {start : ℕ} → Startable w arcs weights nodes labels (length heap) base start → Starting labels heap base start w.n
  starting x = record { stamped = x.resting.stamped; inside = x.inside; heap_room = omega (arith, x.resting.heap_room); fits = x.fits }

  pub started : {labels' heap' : List ℕ} {heap start avoid : ℕ} (r : WitnessSearch) → Resting w arcs weights nodes labels heap base →
      Started labels' heap' base start avoid r w.n → length heap' ≡ heap →
      Ready w (lent arcs weights nodes labels' heap') r.base r.len r.settled (init start)
  started {labels'} {heap'} r x s e =
      started_ready {w = w} {m = lent arcs weights nodes labels' heap'} r s x.standing (omega (arith, x.heap_room, e))

-- the slices keep their lengths
pub search_kept_all : (s : LentSearch) → Kept s s
search_kept_all s = record { labels_name = refl; heap_name = refl; labels = refl; heap = refl }

pub search_kept_on : {s s' s'' : LentSearch} → Kept s s' → Kept s' s'' → Kept s s''
search_kept_on k l =
    record { labels_name = l.labels_name ∙ k.labels_name; heap_name = l.heap_name ∙ k.heap_name; labels = l.labels ∙ k.labels; heap = l.heap ∙ k.heap }
