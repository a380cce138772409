-- Over the out-arcs of v, for one in-arc: what is left, and that with what was done it comes to the whole.
use mathlib.Core.Path.{◌≡◌, refl, sym, ◌∙◌, ap}
use mathlib.Core.List.Memᴰ
use mathlib.Core.List.{List, [], ◌∷◌, cons-eq-cons}
use Prim.Native.Nat.{ℕ, zero, suc, ◌+◌, ◌*◌, ◌≤◌, ◌<◌}
use native.Mathlib.Omega.{arith}
use lib.ListN.{length, get_or, drop}
use Rattle.rules.specs.Numbers.{invalid}
use Rattle.rules.specs.Lists.{In, keep}
use Rattle.rules.specs.Graph.{Arc, outs}
use Rattle.rules.specs.Search.{Search}
use Rattle.rules.specs.Build.{Step, went, refused, and_then, Contracting, pair, pairs_of}
use Rattle.std.specs.Prelude.{Result, Ok, Err}
use Rattle.rules.specs.declared.Refusal.{Refusal}
use Rattle.rules.specs.Refused.{number_of}
use Rattle.lists.specs.Memory.{Memory, memory, arc_at, touches}
use Rattle.lists.specs.Walks.{column, steps}
use Rattle.lists.proofs.Walks.{first_out, reads_on, reads_end, reads_steps, in_drop}
use Rattle.graph.specs.declared.preparation_graph.Pool.{Pool}
use Rattle.graph.specs.Stands.{Stands, Unmoved}
use Rattle.graph.proofs.Staying.{unmoved_refl, unmoved_trans}
use Rattle.graph.proofs.Along.{Along, along_first, along_next, along_stays}
use Rattle.search.specs.Searching.{most_sum, World, Lent, lent, Standing}
use Rattle.search.proofs.Walks.{Left, left_along, left_fit}
use Rattle.node_contractor.specs.Work.{Work}
use Rattle.node_contractor.specs.Promises.{contracting, pair_of, Midst, Came, Steps, Pairing, Pairs, Leaving}
use Rattle.node_contractor.proofs.Pairs.{pair_is}

pub drop_next : {A : Type 0} (k : ℕ) (l : List A) {x : A} {rest : List A} → drop k l ≡ x ∷ rest → drop (suc k) l ≡ rest
drop_next zero [] e = absurd (omega (arith, ap length e))
drop_next zero (y ∷ l) e = (cons-eq-cons.0 e).1
drop_next (suc k) [] e = absurd (omega (arith, ap length e))
drop_next (suc k) (y ∷ l) e = drop_next k l e

-- A walk along a list of v, on either side: the place at hand holds the first arc of what is left.
module _ {w : World} {arcs weights nodes : List ℕ} (x : Standing w arcs weights nodes) (s v : ℕ) {k place : ℕ} (two : s < 2) (inside : v < w.n)
    (on_way : Along x.stands s v k place) where
  pub left_list : (place ≡ invalid → ⊥) →
      drop k (keep (touches s v) w.graph) ≡ arc_at (memory arcs nodes) weights place ∷ drop (suc k) (keep (touches s v) w.graph)
  left_list on =
      let r = reads_on (left_along x s v two inside on_way).reads on in
      r.1 ∙ ap (λ l. arc_at (memory arcs nodes) weights place ∷ l) (sym (drop_next k (keep (touches s v) w.graph) r.1))

  pub left_none : place ≡ invalid → drop k (keep (touches s v) w.graph) ≡ []
  left_none e = reads_end (left_along x s v two inside on_way).reads e

  pub left_steps : steps (column arcs (3 + s)) (length arcs) place ≡ length (drop k (keep (touches s v) w.graph))
  left_steps = reads_steps (left_along x s v two inside on_way).reads

-- One pair more, or a refusal.
module _ (pool limit v : ℕ) (a b : Arc) (bs : List Arc) (k : ℕ) (c : Contracting) (first : drop k bs ≡ b ∷ drop (suc k) bs) where
  pub pairs_on : (c' : Contracting) → pair pool limit v a b c ≡ went c' → pairs_of pool limit v a (drop (suc k) bs) c' ≡ pairs_of pool limit v a (drop k bs) c
  unfolding pairs_of and_then
  pairs_on c' e = rw (first, e, pairs_of)

  pub pairs_stop : (number : ℕ) → pair pool limit v a b c ≡ refused number → pairs_of pool limit v a (drop k bs) c ≡ refused number
  unfolding pairs_of and_then
  pairs_stop number e = rw (first, e, pairs_of)

pub record OutsLeft {n pool : ℕ} {mem : Memory} {w : List ℕ} {state : Pool} {g : List Arc} (old : Stands n pool mem w state g)
    (x₀ x : Work) (m : Lent) (v limit place : ℕ) (a : Arc) (s : Search) : Type 0 where
  pub passed : ℕ
  pub graph : List Arc
  pub search : Search
  pub midst : Midst m pool x n graph search
  pub unmoved : Unmoved v old midst.standing.stands
  pub along : Along midst.standing.stands 0 v passed place
  pub base : x.search.base ≡ x₀.search.base
  pub avoid : x.search.avoid ≡ x₀.search.avoid
  pub same : pairs_of pool limit v a (drop passed (outs g v)) (contracting graph search) ≡ pairs_of pool limit v a (outs g v) (contracting g s)

pub outs_all : {m : Lent} {pool : ℕ} {x : Work} {v tail weight limit n : ℕ} {g : List Arc} {a : Arc} {s : Search} (p : Leaving m pool x v tail weight n g a s) →
    OutsLeft p.midst.standing.stands x x m v limit (get_or m.nodes (4 * v) 0) a s
outs_all {m} {v = v} p =
    let held = p.midst.standing.stands in
    record {
      passed = 0;
      graph = _;
      search = _;
      midst = p.midst;
      unmoved = unmoved_refl v held;
      along = rw (first_out (memory m.arcs m.nodes) v) (along_first held 0 v (omega arith) p.at.node);
      base = refl;
      avoid = refl;
      same = refl;
    }

module _ {m₀ : Lent} {pool : ℕ} {x₀ : Work} {v tail weight limit n : ℕ} {g : List Arc} {a : Arc} {s : Search} (p : Leaving m₀ pool x₀ v tail weight n g a s)
    {arcs weights nodes labels heap : List ℕ} {x : Work} {place : ℕ}
    (y : OutsLeft p.midst.standing.stands x₀ x (lent arcs weights nodes labels heap) v limit place a s) where
  abbrev b : Arc
  b = arc_at (memory arcs nodes) weights place

  same_outs : keep (touches 0 v) y.graph ≡ outs g v
  unfolding outs touches
  same_outs = y.unmoved.arcs 0 (omega arith)

  pub outs_left : Left n arcs weights nodes 0 place (drop y.passed (keep (touches 0 v) y.graph))
  outs_left = left_along y.midst.standing 0 v (omega arith) p.at.node y.along

  module _ (on : place ≡ invalid → ⊥) where
    first : drop y.passed (outs g v) ≡ b ∷ drop (suc y.passed) (outs g v)
    first = rw (← same_outs) (left_list y.midst.standing 0 v (omega arith) p.at.node y.along on)

    pub b_in : In b (outs g v)
    b_in = in_drop b y.passed (outs g v) (rw first (Memᴰ.head refl))

    abbrev pub outs_pairing : Pairing (lent arcs weights nodes labels heap) pool x v tail (get_or arcs (6 * place + 1) 0) n y.graph y.search
    outs_pairing =
        record {
          midst = y.midst;
          avoids = y.avoid ∙ p.avoids;
          tail_in = p.at.tail_in;
          head_in = (left_fit outs_left on).head;
          tail_off = p.at.tail_off;
          head_off = p.at.heads_off b b_in;
        }

    pub outs_sum : weight + get_or weights place 0 ≤ most_sum
    outs_sum = omega (arith, p.at.light, (left_fit outs_left on).light)

    abbrev whole : Step Contracting
    whole = pair_of pool limit v tail (get_or arcs (6 * place + 1) 0) (weight + get_or weights place 0) (contracting y.graph y.search)

    is_pair : pair pool limit v a b (contracting y.graph y.search) ≡ whole
    is_pair = pair_is pool limit v tail weight a b (contracting y.graph y.search) p.at.tail_is p.at.weight_is

    module _ {m' : Lent} {r : Result Work Refusal}
        (pairs : Pairs (lent arcs weights nodes labels heap) m' pool x v tail (get_or arcs (6 * place + 1) 0) (weight + get_or weights place 0) limit r) where
      stepped : Steps x m' v y.midst.standing.stands whole r
      stepped = pairs n y.graph y.search outs_pairing outs_sum

      pub outs_stop : (e : Refusal) → r ≡ Err e → pairs_of pool limit v a (outs g v) (contracting g s) ≡ refused (number_of e)
      outs_stop e is =
          sym y.same ∙
          pairs_stop pool limit v a b (outs g v) y.passed (contracting y.graph y.search) first (number_of e) (is_pair ∙ stepped.no e is)

      module _ (x' : Work) (e : r ≡ Ok x') where
        pair_came : Came x m' v y.midst.standing.stands whole x'
        pair_came = stepped.came x' e

        next_along : Along pair_came.midst.standing.stands 0 v (suc y.passed) (column arcs 3 place)
        next_along = along_stays pair_came.unmoved 0 (omega arith) (along_next y.midst.standing.stands 0 v (omega arith) p.at.node y.along on)

        pub outs_on : OutsLeft p.midst.standing.stands x₀ x' m' v limit (column arcs 3 place) a s
        outs_on =
            let k = pair_came in
            record {
              passed = suc y.passed;
              graph = k.graph;
              search = k.search;
              midst = k.midst;
              unmoved = unmoved_trans y.unmoved k.unmoved;
              along = next_along;
              base = k.base ∙ y.base;
              avoid = k.avoid ∙ y.avoid;
              same =
                  pairs_on pool limit v a b (outs g v) y.passed (contracting y.graph y.search) first (contracting k.graph k.search) (is_pair ∙ k.is) ∙
                  y.same;
            }

        -- what is left of the list is shorter
        pub outs_nearer : steps (column m'.arcs 3) (length m'.arcs) (column arcs 3 place) < steps (column arcs 3) (length arcs) place
        outs_nearer =
            let k = pair_came in
            let before = left_list y.midst.standing 0 v (omega arith) p.at.node y.along on in
            omega (
              arith,
              left_steps y.midst.standing 0 v (omega arith) p.at.node y.along,
              left_steps k.midst.standing 0 v (omega arith) p.at.node next_along,
              ap length before,
              ap (λ l. length (drop (suc y.passed) l)) (k.unmoved.arcs 0 (omega arith)),
            )

  pub outs_done : place ≡ invalid → Came x₀ (lent arcs weights nodes labels heap) v p.midst.standing.stands (pairs_of pool limit v a (outs g v) (contracting g s)) x
  unfolding pairs_of
  outs_done e =
      let none : drop y.passed (outs g v) ≡ [] = rw (← same_outs) (left_none y.midst.standing 0 v (omega arith) p.at.node y.along e) in
      record {
        graph = y.graph;
        search = y.search;
        is = sym y.same ∙ ap (λ l. pairs_of pool limit v a l (contracting y.graph y.search)) none;
        midst = y.midst;
        unmoved = y.unmoved;
        base = y.base;
        avoid = y.avoid;
      }

-- the pool by another name
pub pairing_as : {m : Lent} {pool pool' : ℕ} {x : Work} {v tail head n : ℕ} {g : List Arc} {s : Search} → pool' ≡ pool →
    Pairing m pool x v tail head n g s → Pairing m pool' x v tail head n g s
pairing_as e p = rw e p
