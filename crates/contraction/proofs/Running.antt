-- Over the ranks, from the links' graph on.
use mathlib.Core.Path.{◌≡◌, refl, sym, ◌∙◌, ap}
use mathlib.Core.List.{List, [], ◌∷◌}
use Prim.Native.Nat.{ℕ, suc, ◌+◌, ◌≤◌, ◌<◌}
use native.Mathlib.Omega.{arith}
use native.Mathlib.Numerals.{add-one}
use borrow.Author.Tests.{le-leb, lt-leb}
use lib.ListN.{length, get_or, drop, length-append, drop_of_length-le}
use lib.Seq.{drop-cons}
use Rattle.rules.specs.Lists.{over}
use Rattle.rules.specs.Columns.{link_list}
use Rattle.rules.specs.Refusals.{BuildCall}
use Rattle.rules.specs.Build.{Step, refused, and_then, in_pool, from_links, graph_of, raws, Building, rank_step, rank_steps, contraction}
use Rattle.rules.specs.Lists.{flat_map}
use Rattle.rules.proofs.Ranges.{distinct_decides}
use Rattle.rules.proofs.Ranks.{rank_stepped, level_of}
use Rattle.build_laws.proofs.Runs.{step_ok}
use Rattle.build_laws.proofs.Starts.{first_run}
use Rattle.std.specs.Prelude.{Result, Ok, Err}
use Rattle.rules.specs.declared.Refusal.{Refusal}
use Rattle.rules.specs.Refused.{number_of}
use Rattle.lists.specs.Memory.{memory}
use Rattle.graph.specs.declared.preparation_graph.Pool.{Pool}
use Rattle.graph.specs.Stands.{Stands}
use Rattle.graph.proofs.Standing.{within_pool}
use Rattle.search.specs.declared.witness_search.WitnessSearch.{WitnessSearch}
use Rattle.search.specs.Labels.{Stamped}
use Rattle.search.specs.Searching.{Lent, lent}
use Rattle.node_contractor.specs.Work.{Work}
use Rattle.entries.specs.Laid.{laid_part, four_over, begun_of, begun}
use Rattle.contraction.specs.Ranks.{Stage}
use Rattle.contraction.specs.Ranks.{Given, call, Parts, laid_parts, At}
use Rattle.contraction.specs.Promises.{Accepted, Run, Came, Stepping, first, Starting, Accepting}
use Rattle.contraction.proofs.Ranking.{came}

-- what was done and what is left of the order come to the whole
pub record Running (g : Given) (limit pool r : ℕ) (t : Parts) (m : Lent) (x : Work) (fwd bwd : ℕ) : Type 0 where
  pub ok : Accepted (call g limit pool)
  pub building : Building
  pub run : Run (call g limit pool) (drop r g.order) building
  pub rank : length building.levels ≡ r
  pub at : At (call g limit pool) building t m x fwd bwd
  pub same : rank_steps (call g limit pool) (drop r g.order) building ≡ rank_steps (call g limit pool) g.order (first g)

pub begins : {g : Given} {limit pool : ℕ} {t : Parts} {m : Lent} {x : Work} → Starting g limit pool t m x → Running g limit pool 0 t m x 0 0
begins {g} {limit} {pool} p =
    record {
      ok = p.ok;
      building = first g;
      run = first_run (call g limit pool) p.ok.build p.ok.weights;
      rank = refl;
      at = p.at;
      same = refl;
    }

module _ {g : Given} {limit pool r : ℕ} {t : Parts} {m : Lent} {x : Work} {fwd bwd : ℕ} (y : Running g limit pool r t m x fwd bwd) where
  abbrev c : BuildCall
  c = call g limit pool

  module _ (h : r < length g.order) where
    abbrev v : ℕ
    v = get_or g.order r 0

    next : drop r g.order ≡ v ∷ drop (suc r) g.order
    next = drop-cons g.order r 0 h

    next_run : Run c (v ∷ drop (suc r) g.order) y.building
    next_run = rw next at y.run

    pub stepping : Stepping g y.building (drop (suc r) g.order) limit pool r v t m x fwd bwd
    stepping = record { ok = y.ok; run = next_run; rank = y.rank; at = y.at }

    module _ {t' : Parts} {m' : Lent} {w : Result Stage Refusal} (step : Came c (rank_step c v y.building) t' m' w) where
      pub gives_up : (e : Refusal) → w ≡ Err e → rank_steps c g.order (first g) ≡ refused (number_of e)
      unfolding rank_steps and_then
      gives_up e is =
          let e' = step.no e is in
          sym y.same ∙ ap (λ vs. rank_steps c vs y.building) next ∙ rw (e', rank_steps)

      pub goes_on : (x' : Stage) → w ≡ Ok x' → Running g limit pool (r + 1) t' m' x'.work x'.fwd x'.bwd
      unfolding rank_steps and_then
      goes_on x' e =
          let k = step.came x' e in
          let stepped = rank_stepped c v y.building k.0 k.1 in
          rw (add-one r)
          (record {
            ok = y.ok;
            building = k.0;
            run =
                step_ok c (link_list g.links) 0 ((distinct_decides g.order 0).0 y.ok.build.order_distinct) v (drop (suc r) g.order) y.building next_run
                k.0
                stepped;
            rank = omega (arith, ap length stepped.levels, length-append y.building.levels (level_of v y.building.graph ∷ []), y.rank);
            at = k.2;
            same =
                let one : rank_steps c (v ∷ drop (suc r) g.order) y.building ≡ rank_steps c (drop (suc r) g.order) k.0 = rw (k.1, rank_steps) in
                sym one ∙ sym (ap (λ vs. rank_steps c vs y.building) next) ∙ y.same;
          })

  pub is_done : length g.order ≤ r → Came c (rank_steps c g.order (first g)) t m (Ok (record { work = x; fwd = fwd; bwd = bwd }))
  unfolding rank_steps
  is_done h =
      came y.building
      (sym y.same ∙ ap (λ vs. rank_steps c vs y.building) (drop_of_length-le g.order {i = r} h))
      y.at

-- Rule 1.
module _ (g : Given) (limit pool : ℕ) where
  pub no_room : pool < length (graph_of g.links) → contraction (call g limit pool) ≡ refused 10
  unfolding contraction from_links in_pool and_then
  no_room h = rw (lt-leb (length (graph_of g.links)) pool h, contraction, from_links, in_pool)

  pub took_in : length (graph_of g.links) ≤ pool → contraction (call g limit pool) ≡ rank_steps (call g limit pool) g.order (first g)
  unfolding contraction from_links in_pool and_then
  took_in h = rw (le-leb (length (graph_of g.links)) pool h, contraction, from_links, in_pool)

pub came_as : {c : BuildCall} {s s' : Step Building} {t : Parts} {m : Lent} {w : Result Stage Refusal} → s' ≡ s → Came c s t m w → Came c s' t m w
came_as e k =
    record {
      came = λ x h. let b = k.came x h in (b.0, e ∙ b.1, b.2);
      no = λ n h. e ∙ k.no n h;
    }

module _ {g : Given} {limit pool : ℕ} {t : Parts} {m : Lent} (p : Accepting g limit pool t m) {arcs weights nodes labels : List ℕ} {state : Pool}
    (stands : Stands g.nodes pool (memory arcs nodes) weights state (graph_of g.links)) where
  pub starting : (search : WitnessSearch) → search.base ≡ 0 → Stamped g.nodes labels 0 →
      Starting g limit pool t (lent arcs weights nodes labels m.heap) (record { state = state; search = search })
  unfolding laid_parts laid_part four_over begun_of begun over raws flat_map
  starting search e stamped =
      let run = first_run (call g limit pool) p.ok.build p.ok.weights in
      record {
        ok = p.ok;
        at =
            record {
              rests =
                  record {
                    standing = record { stands = stands; light = λ a k. (run.graph.arcs a k).high };
                    stamped = rw e stamped;
                    heap_room = p.heap_room;
                  };
              base = omega (arith, e);
              laid = p.lent_is;
              fwd_count = record { is = refl; within = omega arith };
              bwd_count = record { is = refl; within = omega arith };
            };
      }

pub from_links_went : (g : Given) {pool : ℕ} {arcs weights nodes : List ℕ} {state : Pool} (limit : ℕ) →
    Stands g.nodes pool (memory arcs nodes) weights state (graph_of g.links) →
    contraction (call g limit pool) ≡ rank_steps (call g limit pool) g.order (first g)
from_links_went g {pool} limit stands = took_in g limit pool (within_pool stands)

-- the pool by another name
pub stepping_as : {g : Given} {b : Building} {vs : List ℕ} {limit pool pool' r v : ℕ} {t : Parts} {m : Lent} {x : Work} {fwd bwd : ℕ} → pool' ≡ pool →
    Stepping g b vs limit pool r v t m x fwd bwd → Stepping g b vs limit pool' r v t m x fwd bwd
stepping_as e p = rw e p

pub starting_as : {g : Given} {limit pool pool' : ℕ} {t : Parts} {arcs weights nodes labels heap heap' : List ℕ} {x : Work} → pool' ≡ pool → heap' ≡ heap →
    Starting g limit pool t (lent arcs weights nodes labels heap) x → Starting g limit pool' t (lent arcs weights nodes labels heap') x
starting_as e h p = rw (e, h) p
