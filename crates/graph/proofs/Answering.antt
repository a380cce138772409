-- The answers of `add_edge_or_shortcut` and `add_or_reduce_edge`.
use mathlib.Core.Path.{◌∙◌, ◌≡◌, refl}
use mathlib.Core.List.{List}
use Prim.Native.Nat.{ℕ, ◌<◌}
use lib.ListN.{length}
use Rattle.rules.specs.Graph.{Arc}
use Rattle.std.specs.Prelude.{Result, Ok, Err}
use Rattle.rules.specs.declared.Refusal.{Refusal}
use Rattle.rules.specs.declared.Refusal.TheVariants.{Pool as no_place}
use Rattle.graph.specs.declared.preparation_graph.Pool.{Pool}
use Rattle.graph.specs.declared.preparation_graph.PreparationGraph.{PreparationGraph}
use Rattle.lists.specs.Memory.{Memory}
use Rattle.graph.specs.Stands.{Extends}
use Rattle.graph.specs.Promises.{Addable, Same, Answers, Kept}

module _ {n pool : ℕ} {m m' : Memory} {w w' places : List ℕ} {h : List Arc} where
  pub answers_came : {state : Pool} → Extends n pool m' w' state h places → Answers n pool m w m' w' places h (Ok state)
  answers_came {state} there = record {
    came = λ t e. let same : state ≡ t = cc in rw same at there;
    full = λ r e. absurd (cc);
    same = λ r e. absurd (cc);
  }

pub answers_full : {n pool : ℕ} {m : Memory} {w places : List ℕ} {h : List Arc} → pool < length h → Answers n pool m w m w places h (Err no_place)
answers_full more = record {
  came = λ t e. absurd (cc);
  full = λ r e. (cc, more);
  same = λ _ _. record { memory_same = refl; weights_same = refl };
}

-- the slices are as they were: what is added to them is the answer
module _ {n pool : ℕ} {m m' : Memory} {w w' : List ℕ} (same : Same m w m' w') where
  still : {state : Pool} {a : Arc} {g : List Arc} (r : Addable n pool m w state a g) →
      (x : Addable n pool m' w' state a g) × (x.stands.ids ≡ r.stands.ids)
  still r = rw (same.memory_same, same.weights_same) (r, refl)

  pub still_addable : {state : Pool} {a : Arc} {g : List Arc} → Addable n pool m w state a g → Addable n pool m' w' state a g
  still_addable r = (still r).0

  answers_moved : {f h : List Arc} {m'' : Memory} {w'' places : List ℕ} {r : Result Pool Refusal} → f ≡ h → Answers n pool m' w' m'' w'' places h r → Answers n pool m w m'' w'' places f r
  answers_moved {f} {h} {m''} {w''} {places} {r} e k = rw (e, ← same.memory_same, ← same.weights_same) k

  pub answers_after : {state : Pool} {a : Arc} {g f h : List Arc} {m'' : Memory} {w'' : List ℕ} {r : Result Pool Refusal} (x : Addable n pool m w state a g) → f ≡ h →
      Answers n pool m' w' m'' w'' (still_addable x).stands.ids h r → Answers n pool m w m'' w'' x.stands.ids f r
  unfolding still_addable
  answers_after x e k = rw (← (still x).1) (answers_moved e k)

pub kept_all : (g : PreparationGraph) → Kept g g
kept_all g =
    record { arcs_name = refl; weights_name = refl; nodes_name = refl; pool = refl; arcs = refl; weights = refl; nodes = refl }

pub kept_on : {g g' g'' : PreparationGraph} → Kept g g' → Kept g' g'' → Kept g g''
kept_on k l =
    record {
      arcs_name = l.arcs_name ∙ k.arcs_name;
      weights_name = l.weights_name ∙ k.weights_name;
      nodes_name = l.nodes_name ∙ k.nodes_name;
      pool = l.pool ∙ k.pool;
      arcs = l.arcs ∙ k.arcs;
      weights = l.weights ∙ k.weights;
      nodes = l.nodes ∙ k.nodes;
    }
