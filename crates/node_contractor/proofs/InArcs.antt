-- Over the in-arcs of v, each with a search of its own; and then v's arcs go.
use mathlib.Core.Path.{◌≡◌, refl, sym, ◌∙◌, ap}
use mathlib.Core.Logic.{inl, inr}
use mathlib.Core.List.Memᴰ
use mathlib.Core.List.{List, [], ◌∷◌}
use Prim.Native.Nat.{ℕ, suc, ◌+◌, ◌*◌, ◌≤◌, ◌<◌}
use native.Mathlib.Omega.{arith}
use lib.ListN.{length, get_or, drop, length-drop}
use Rattle.rules.specs.Numbers.{invalid}
use Rattle.rules.specs.Lists.{In, keep}
use Rattle.rules.specs.Graph.{Arc, outs, ins, Loopless, disconnect}
use Rattle.rules.specs.Search.{init}
use Rattle.rules.specs.Build.{Step, went, refused, and_then, Contracting, shortcut, pairs_of, handle_shortcuts, contract_node}
use Rattle.search_laws.proofs.Graphs.{in_outs, in_ins, in_disconnected, in_added}
use Rattle.build_laws.proofs.Contraction.{shortcuts_keep}
use Rattle.std.specs.Prelude.{Result, Ok, Err}
use Rattle.rules.specs.declared.Refusal.{Refusal}
use Rattle.rules.specs.Refused.{number_of}
use Rattle.lists.specs.Memory.{Memory, memory, arc_at, touches}
use Rattle.lists.specs.Walks.{column, steps}
use Rattle.lists.proofs.Walks.{tail_at, in_drop}
use Rattle.graph.specs.declared.preparation_graph.Pool.{Pool}
use Rattle.graph.specs.Stands.{Stands, Unmoved}
use Rattle.graph.proofs.Staying.{unmoved_refl, unmoved_trans}
use Rattle.graph.proofs.Along.{Along, along_first, along_next, along_stays}
use Rattle.search.specs.declared.witness_search.WitnessSearch.{WitnessSearch}
use Rattle.search.specs.Searching.{Lent, lent}
use Rattle.search.specs.Promises.{Starts}
use Rattle.search.proofs.Laws.{ready_stamped, starting, started}
use Rattle.search.proofs.Walks.{Left, left_along, left_fit, few_ins}
use Rattle.node_contractor.specs.Work.{Work}
use Rattle.node_contractor.specs.Promises.{contracting, Leaving, Leaves, Rests, Coming, Passed, Passes, Comes, Contractible, Done, Does}
use Rattle.node_contractor.proofs.Pairs.{over_standing}
use Rattle.node_contractor.proofs.OutArcs.{left_list, left_none, left_steps}

-- One in-arc: a search begins, and goes over the out-arcs.
module _ {arcs weights nodes labels heap labels' heap' : List ℕ} {pool : ℕ} {x : Work} {v tail weight n : ℕ} {g : List Arc} {a : Arc} (q : WitnessSearch)
    (p : Coming (lent arcs weights nodes labels heap) pool x v tail weight n g a)
    (starts : Starts labels heap labels' heap' x.search.base tail v q) (long : length heap' ≡ length heap) where
  abbrev begun : Work
  begun = record { state = x.state; search = q }

  abbrev pub sets_out : Leaving (lent arcs weights nodes labels' heap') pool begun v tail weight n g a (init tail)
  sets_out =
      record {
        midst =
            over_standing p.startable.resting.standing
            (started q p.startable.resting (starts n (starting p.startable)) long);
        avoids = (starts n (starting p.startable)).avoids;
        at = p.at;
      }

  pub in_arc_passes : {m'' : Lent} (limit : ℕ) {r : Result Work Refusal} → length m''.heap ≡ length heap' →
      Leaves (lent arcs weights nodes labels' heap') m'' pool begun v tail weight limit r →
      Passes x m'' v p.startable.resting.standing.stands (pairs_of pool limit v a (outs g v) (contracting g (init tail))) r
  in_arc_passes limit e leaves =
      let s = leaves n g a (init tail) sets_out in
      record {
        came =
            λ y h.
            let k = s.came y h in
            record {
              graph = k.graph;
              search = k.search;
              is = k.is;
              rests = record { standing = k.midst.standing; stamped = ready_stamped k.midst; heap_room = omega (arith, k.midst.room) };
              unmoved = k.unmoved;
              base = k.base ∙ (starts n (starting p.startable)).next;
            };
        no = s.no;
      }

-- One in-arc more, or a refusal.
module _ (pool limit v : ℕ) (a : Arc) (xs bs g : List Arc) (k : ℕ) (first : drop k xs ≡ a ∷ drop (suc k) xs) where
  pub shortcuts_on : (c : Contracting) → pairs_of pool limit v a bs (contracting g (init a.tail)) ≡ went c →
      handle_shortcuts pool limit v (drop (suc k) xs) bs c.graph ≡ handle_shortcuts pool limit v (drop k xs) bs g
  unfolding handle_shortcuts and_then
  shortcuts_on c e = rw (first, e, handle_shortcuts)

  pub shortcuts_stop : (number : ℕ) → pairs_of pool limit v a bs (contracting g (init a.tail)) ≡ refused number →
      handle_shortcuts pool limit v (drop k xs) bs g ≡ refused number
  unfolding handle_shortcuts and_then
  shortcuts_stop number e = rw (first, e, handle_shortcuts)

pub record InsLeft {n pool : ℕ} {mem : Memory} {w : List ℕ} {state : Pool} {g : List Arc} (old : Stands n pool mem w state g)
    (x₀ x : Work) (m : Lent) (v limit place : ℕ) : Type 0 where
  pub passed : ℕ
  pub graph : List Arc
  pub rests : Rests m pool x n graph
  pub unmoved : Unmoved v old rests.standing.stands
  pub along : Along rests.standing.stands 1 v passed place
  pub within : passed ≤ length (ins g v)
  pub base : x.search.base ≡ x₀.search.base + 2 * passed
  pub same : handle_shortcuts pool limit v (drop passed (ins g v)) (outs g v) graph ≡ handle_shortcuts pool limit v (ins g v) (outs g v) g

pub ins_all : {m : Lent} {pool : ℕ} {x : Work} {v limit n : ℕ} {g : List Arc} (p : Contractible m pool x v n g) →
    InsLeft p.entering.resting.standing.stands x x m v limit (get_or m.nodes (4 * v + 2) 0)
ins_all {v = v} p =
    let held = p.entering.resting.standing.stands in
    record {
      passed = 0;
      graph = _;
      rests = p.entering.resting;
      unmoved = unmoved_refl v held;
      along = along_first held 1 v (omega arith) p.entering.node;
      within = omega arith;
      base = omega arith;
      same = refl;
    }

module _ {m₀ : Lent} {pool : ℕ} {x₀ : Work} {v limit n : ℕ} {g : List Arc} (p : Contractible m₀ pool x₀ v n g)
    {arcs weights nodes labels heap : List ℕ} {x : Work} {place : ℕ}
    (y : InsLeft p.entering.resting.standing.stands x₀ x (lent arcs weights nodes labels heap) v limit place) where
  abbrev a : Arc
  a = arc_at (memory arcs nodes) weights place

  same_ins : keep (touches 1 v) y.graph ≡ ins g v
  unfolding ins touches
  same_ins = y.unmoved.arcs 1 (omega arith)

  same_outs : outs y.graph v ≡ outs g v
  unfolding outs touches
  same_outs = y.unmoved.arcs 0 (omega arith)

  pub ins_left : Left n arcs weights nodes 1 place (drop y.passed (keep (touches 1 v) y.graph))
  ins_left = left_along y.rests.standing 1 v (omega arith) p.entering.node y.along

  module _ (on : place ≡ invalid → ⊥) where
    first : drop y.passed (ins g v) ≡ a ∷ drop (suc y.passed) (ins g v)
    first = rw (← same_ins) (left_list y.rests.standing 1 v (omega arith) p.entering.node y.along on)

    pub one_left : y.passed < length (ins g v)
    one_left = omega (arith, ap length first, length-drop y.passed (ins g v))

    -- neither end of a shortcut is v
    pub tail_off : a.tail ≡ v → ⊥
    tail_off e =
        let i = in_ins g v a (in_drop a y.passed (ins g v) (rw first (Memᴰ.head refl))) in
        p.loopless a i.0 (e ∙ sym i.1)

    pub heads_off : (b : Arc) → In b (outs y.graph v) → b.head ≡ v → ⊥
    heads_off b m e = let i = in_outs g v b (rw same_outs at m) in p.loopless b i.0 (i.1 ∙ sym e)

    abbrev pub ins_coming : Coming (lent arcs weights nodes labels heap) pool x v (get_or arcs (6 * place) 0) (get_or weights place 0) n y.graph a
    ins_coming =
        let fit = left_fit ins_left on in
        record {
          startable =
              record {
                resting = y.rests;
                inside = rw (tail_at (memory arcs nodes) place) fit.tail;
                fits = omega (arith, y.base, one_left, few_ins p.entering.resting.standing v, p.entering.fits);
              };
          at =
              record {
                node = p.entering.node;
                tail_is = sym (tail_at (memory arcs nodes) place);
                weight_is = refl;
                tail_in = rw (tail_at (memory arcs nodes) place) fit.tail;
                tail_off = λ e. tail_off (sym (tail_at (memory arcs nodes) place) ∙ e);
                heads_off = heads_off;
                light = fit.light;
              };
        }

    module _ {m' : Lent} {r : Result Work Refusal}
        (comes : Comes (lent arcs weights nodes labels heap) m' pool x v (get_or arcs (6 * place) 0) (get_or weights place 0) limit r) where
      abbrev whole : Step Contracting
      whole = pairs_of pool limit v a (outs y.graph v) (contracting y.graph (init (get_or arcs (6 * place) 0)))

      passes : Passes x m' v y.rests.standing.stands whole r
      passes = comes n y.graph a ins_coming

      is_whole : pairs_of pool limit v a (outs g v) (contracting y.graph (init a.tail)) ≡ whole
      is_whole = rw (same_outs, tail_at (memory arcs nodes) place)

      pub ins_stop : (e : Refusal) → r ≡ Err e → handle_shortcuts pool limit v (ins g v) (outs g v) g ≡ refused (number_of e)
      ins_stop e is =
          sym y.same ∙ shortcuts_stop pool limit v a (ins g v) (outs g v) y.graph y.passed first (number_of e) (is_whole ∙ passes.no e is)

      module _ (x' : Work) (e : r ≡ Ok x') where
        passed_came : Passed x m' v y.rests.standing.stands whole x'
        passed_came = passes.came x' e

        next_along : Along passed_came.rests.standing.stands 1 v (suc y.passed) (column arcs 4 place)
        next_along = along_stays passed_came.unmoved 1 (omega arith) (along_next y.rests.standing.stands 1 v (omega arith) p.entering.node y.along on)

        pub ins_on : InsLeft p.entering.resting.standing.stands x₀ x' m' v limit (column arcs 4 place)
        ins_on =
            let k = passed_came in
            record {
              passed = suc y.passed;
              graph = k.graph;
              rests = k.rests;
              unmoved = unmoved_trans y.unmoved k.unmoved;
              along = next_along;
              within = omega (arith, one_left);
              base = omega (arith, k.base, y.base);
              same =
                  shortcuts_on pool limit v a (ins g v) (outs g v) y.graph y.passed first (contracting k.graph k.search) (is_whole ∙ k.is) ∙
                  y.same;
            }

        pub ins_nearer : steps (column m'.arcs 4) (length m'.arcs) (column arcs 4 place) < steps (column arcs 4) (length arcs) place
        ins_nearer =
            let k = passed_came in
            let before = left_list y.rests.standing 1 v (omega arith) p.entering.node y.along on in
            omega (
              arith,
              left_steps y.rests.standing 1 v (omega arith) p.entering.node y.along,
              left_steps k.rests.standing 1 v (omega arith) p.entering.node next_along,
              ap length before,
              ap (λ l. length (drop (suc y.passed) l)) (k.unmoved.arcs 1 (omega arith)),
            )

  loopless_handled : (k : List Arc) → handle_shortcuts pool limit v (ins g v) (outs g v) g ≡ went k → Loopless k
  unfolding shortcut
  loopless_handled k e =
      shortcuts_keep pool limit v Loopless (ins g v) (outs g v) g k
      (λ a b h ma mb off small fits x z m. elim (in_added (shortcut v a b) h z m) [ inl old ↦ x z old | inr new ↦ rw new off ])
      e p.loopless

  pub ins_done : place ≡ invalid → Done (lent arcs weights nodes labels heap) pool x₀ n (handle_shortcuts pool limit v (ins g v) (outs g v) g) x
  unfolding handle_shortcuts
  ins_done e =
      let none : drop y.passed (ins g v) ≡ [] = rw (← same_ins) (left_none y.rests.standing 1 v (omega arith) p.entering.node y.along e) in
      let is = sym y.same ∙ ap (λ l. handle_shortcuts pool limit v l (outs g v) y.graph) none in
      record {
        graph = y.graph;
        is = is;
        rests = y.rests;
        loopless = loopless_handled y.graph is;
        base = omega (arith, y.base, y.within, few_ins p.entering.resting.standing v);
      }

module _ {m' : Lent} {pool : ℕ} {x : Work} {n : ℕ} {d : Step (List Arc)} where
  pub does_came : {y : Work} → Done m' pool x n d y → Does m' pool x n d (Ok y)
  does_came {y} k =
      record {
        came = λ y' e. let q : y' ≡ y = cc in rw q k;
        no = λ k e. absurd (cc);
      }

  pub does_refused : {e : Refusal} → d ≡ refused (number_of e) → Does m' pool x n d (Err e)
  does_refused {e} h =
      record {
        came = λ y is. absurd (cc);
        no = λ e' is. let q : e' ≡ e = cc in rw q h;
      }

-- Rule 4.
module _ (pool limit v : ℕ) (g : List Arc) where
  pub contract_stops : {k : ℕ} → handle_shortcuts pool limit v (ins g v) (outs g v) g ≡ refused k → contract_node pool limit v g ≡ refused k
  unfolding contract_node and_then
  contract_stops e = rw (e, contract_node)

  pub contract_done : {m : Lent} {n : ℕ} {x y : Work} (k : Done m pool x n (handle_shortcuts pool limit v (ins g v) (outs g v) g) y) {arcs nodes : List ℕ} (rest : Pool) →
      Stands n pool (memory arcs nodes) m.weights rest (disconnect k.graph v) →
      Done (lent arcs m.weights nodes m.labels m.heap) pool x n (contract_node pool limit v g) (record { state = rest; search = y.search })
  unfolding contract_node and_then
  contract_done k rest stands =
      record {
        graph = disconnect k.graph v;
        is = rw (k.is, contract_node);
        rests =
            record {
              standing = record { stands = stands; light = λ b m. k.rests.standing.light b (in_disconnected k.graph v b m).0 };
              stamped = k.rests.stamped;
              heap_room = k.rests.heap_room;
            };
        loopless = λ b m. k.loopless b (in_disconnected k.graph v b m).0;
        base = k.base;
      }

-- the pool by another name
pub coming_as : {m : Lent} {pool pool' : ℕ} {x : Work} {v tail weight n : ℕ} {g : List Arc} {a : Arc} → pool' ≡ pool →
    Coming m pool x v tail weight n g a → Coming m pool' x v tail weight n g a
coming_as e p = rw e p
