-- One pair, and what a step comes to.
use mathlib.Core.Path.{◌≡◌, refl, sym, ◌∙◌, ap}
use mathlib.Core.Bool.{Bool, true, false}
use mathlib.Core.List.{List}
use Prim.Native.Nat.{ℕ, ◌+◌, ◌≤◌, ◌<◌}
use native.Mathlib.Omega.{arith}
use borrow.Author.Tests.{eq-eqb, ne_eqb, le-leb, lt-leb}
use lib.ListN.{length}
use Rattle.rules.specs.Numbers.{max_weight}
use Rattle.rules.specs.Lists.{In}
use Rattle.rules.specs.Graph.{Arc, add_or_reduce}
use Rattle.rules.specs.Search.{Search, Found, find_max_weight}
use Rattle.rules.specs.Build.{Step, went, refused, and_then, in_pool, Contracting, shortcut, add, within_sum, pair}
use Rattle.rules.proofs.Pairs.{light_added, heavy_kept_out, heavy_refused, found_for, witness_drops, none_goes_on}
use Rattle.search_laws.proofs.Graphs.{kept_joins, none_reduced}
use Rattle.std.specs.Prelude.{Result, Ok, Err}
use Rattle.rules.specs.declared.Refusal.{Refusal}
use Rattle.rules.specs.declared.Refusal.TheVariants.{Sum}
use Rattle.rules.specs.Refused.{number_of}
use Rattle.lists.specs.Memory.{Memory, memory, arc}
use Rattle.graph.specs.declared.preparation_graph.Pool.{Pool}
use Rattle.graph.specs.Stands.{Stands, Extends}
use Rattle.graph.specs.Promises.{Addable, Answers, Reduces, told}
use Rattle.graph.proofs.Standing.{within_pool}
use Rattle.graph.proofs.Staying.{added_unmoved, unmoved_refl}
use Rattle.search.specs.Searching.{most_sum, World, world, Lent, lent, Standing, Ready}
use Rattle.search.specs.Promises.{Found as Answer, Answered, Asks}
use Rattle.search.proofs.Laws.{with_arc, standing_added, ready_added}
use Rattle.node_contractor.specs.Work.{Work}
use Rattle.node_contractor.specs.Promises.{contracting, pair_of, Came, Steps, Pairing}

-- The definition, by what the tests said.
module _ (pool limit v tail head sum : ℕ) (c : Contracting) where
  pub same_ends : tail ≡ head → pair_of pool limit v tail head sum c ≡ went c
  unfolding pair_of
  same_ends e = rw (eq-eqb tail head e, pair_of)

  module _ (differ : tail ≡ head → ⊥) where
    abbrev sought : Found
    sought = found_for limit v (arc tail head sum v) c

    pub with_witness : sought.weight ≤ sum → pair_of pool limit v tail head sum c ≡ went (contracting c.graph sought.search)
    unfolding pair_of
    with_witness h = rw (ne_eqb tail head differ, pair_of) (witness_drops limit v (arc tail head sum v) c pool h)

    pub without_witness : sum < sought.weight → pair_of pool limit v tail head sum c ≡ within_sum pool limit v (arc tail head sum v) c.graph sought.search
    unfolding pair_of
    without_witness h = rw (ne_eqb tail head differ, pair_of) (none_goes_on limit v (arc tail head sum v) c pool h)

-- `pair` reads of an in-arc its tail and its weight
pub pair_is : (pool limit v tail weight : ℕ) (a b : Arc) (c : Contracting) → a.tail ≡ tail → a.weight ≡ weight →
    pair pool limit v a b c ≡ pair_of pool limit v tail b.head (weight + b.weight) c
unfolding pair pair_of shortcut
pair_is pool limit v tail weight a b c p q = rw (← p, ← q)

-- What a step comes to.
module _ {n pool : ℕ} {m : Memory} {w : List ℕ} {state : Pool} {g : List Arc} {x : Work} {m' : Lent} {v : ℕ} {old : Stands n pool m w state g} {d : Step Contracting} where
  pub steps_came : {y : Work} → Came x m' v old d y → Steps x m' v old d (Ok y)
  steps_came {y} k =
      record {
        came = λ y' e. let q : y' ≡ y = cc in rw q k;
        no = λ k e. absurd (cc);
      }

  pub steps_refused : {e : Refusal} → d ≡ refused (number_of e) → Steps x m' v old d (Err e)
  steps_refused {e} h =
      record {
        came = λ y is. absurd (cc);
        no = λ e' is. let q : e' ≡ e = cc in rw q h;
      }

  -- the search went on meanwhile
  pub steps_from : {x₀ : Work} {d₀ : Step Contracting} {r : Result Work Refusal} → d₀ ≡ d → x.search.base ≡ x₀.search.base → x.search.avoid ≡ x₀.search.avoid →
      Steps x m' v old d r → Steps x₀ m' v old d₀ r
  steps_from e base avoid s =
      record {
        came =
            λ y h.
            let k = s.came y h in
            record {
              graph = k.graph;
              search = k.search;
              is = e ∙ k.is;
              midst = k.midst;
              unmoved = k.unmoved;
              base = k.base ∙ base;
              avoid = k.avoid ∙ avoid;
            };
        no = λ k h. e ∙ s.no k h;
      }

-- a search that stands over the graph as it stood
abbrev pub over_standing : {w : World} {m : Lent} {base len count : ℕ} {s : Search} → Standing w m.arcs m.weights m.nodes → Ready w m base len count s → Ready w m base len count s
over_standing x r =
    record { standing = x; searching = r.searching; counted = r.counted; paid = r.paid; room = r.room }

module _ {m : Lent} {pool : ℕ} {x : Work} {v tail head n : ℕ} {g : List Arc} {s : Search} (p : Pairing m pool x v tail head n g s) where
  abbrev held : Stands n pool (memory m.arcs m.nodes) m.weights x.state g
  held = p.midst.standing.stands

  -- nothing to do
  pub dropped : {d : Step Contracting} → d ≡ went (contracting g s) → Steps x m v held d (Ok x)
  dropped e =
      steps_came
      (record {
        graph = g;
        search = s;
        is = e;
        midst = p.midst;
        unmoved = unmoved_refl v held;
        base = refl;
        avoid = refl;
      })

  -- the search may be asked for this pair
  abbrev pub asks : {sum : ℕ} → sum ≤ most_sum → Asks m x.search head sum (world n pool x.state g) s
  asks small = record { ready = p.midst; inside = p.head_in; small = small }

  abbrev pub addable : {sum : ℕ} → Addable n pool (memory m.arcs m.nodes) m.weights x.state (arc tail head sum v) g
  addable = record { stands = held; tail_in = p.tail_in; head_in = p.head_in }

  abbrev short : ℕ → Arc
  short sum = arc tail head sum v

  module _ {arcs weights nodes : List ℕ} (sum limit : ℕ) where
    -- the slices hold the graph with the shortcut, or with what kept it out
    holding : {d : Step Contracting} (next : Pool) (more : Extends n pool (memory arcs nodes) weights next (add_or_reduce (short sum) g) held.ids) →
        ((y : Arc) → In y (add_or_reduce (short sum) g) → y.weight ≤ max_weight) → d ≡ went (contracting (add_or_reduce (short sum) g) s) →
        Steps x (lent arcs weights nodes m.labels m.heap) v held d (Ok (record { state = next; search = x.search }))
    holding next more light e =
        let standing : Standing (with_arc (world n pool x.state g) next (short sum)) arcs weights nodes = record { stands = more.stands; light = light } in
        steps_came
        (record {
          graph = add_or_reduce (short sum) g;
          search = s;
          is = e;
          midst = over_standing standing (ready_added p.midst next (short sum) standing);
          unmoved = added_unmoved (short sum) v held more p.tail_off p.head_off;
          base = refl;
          avoid = refl;
        })

    module _ (small : sum ≤ max_weight) (r : Result Pool Refusal)
        (answers : Answers n pool (memory m.arcs m.nodes) m.weights (memory arcs nodes) weights held.ids (add_or_reduce (short sum) g) r) where
      -- the shortcut came
      pub added_came : (next : Pool) → r ≡ Ok next →
          Steps x (lent arcs weights nodes m.labels m.heap) v held (within_sum pool limit v (short sum) g s) (Ok (record { state = next; search = x.search }))
      unfolding add in_pool and_then
      added_came next e =
          let more = answers.came next e in
          holding next more (standing_added (short sum) p.midst.standing small more.stands).light
          (light_added pool limit v (short sum) g s small ∙ rw (le-leb (length (add_or_reduce (short sum) g)) pool (within_pool more.stands), add, in_pool))

      -- no place was left for it
      pub pool_full : {m' : Lent} {e : Refusal} → r ≡ Err e → Steps x m' v held (within_sum pool limit v (short sum) g s) (Err e)
      unfolding add in_pool and_then
      pool_full {e = e} is =
          let full = answers.full e is in
          steps_refused
          (light_added pool limit v (short sum) g s small ∙ rw (full.0, lt-leb (length (add_or_reduce (short sum) g)) pool full.1, add, in_pool))

    -- either way
    pub added : (small : sum ≤ max_weight) (r : Result (Unit {0}) Refusal) (next : Pool) →
        Answers n pool (memory m.arcs m.nodes) m.weights (memory arcs nodes) weights held.ids (add_or_reduce (short sum) g) (told next r) →
        Steps x (lent arcs weights nodes m.labels m.heap) v held (within_sum pool limit v (short sum) g s) (told (record { state = next; search = x.search }) r)
    added small (Ok u) next answers = added_came small _ answers next refl
    added small (Err e) next answers = pool_full small _ answers refl

    -- of a sum that no arc may weigh
    module _ (large : max_weight < sum) (r : Bool)
        (reduces : Reduces n pool (memory m.arcs m.nodes) m.weights (memory arcs nodes) weights x.state held.ids (short sum) g r) where
      none_heavier : (y : Arc) → In y g → y.weight ≤ sum
      none_heavier y i = omega (arith, p.midst.standing.light y i)

      -- an arc was there
      pub arc_there : r ≡ true → Steps x (lent arcs weights nodes m.labels m.heap) v held (within_sum pool limit v (short sum) g s) (Ok x)
      arc_there e =
          let found = reduces.found ∙ e in
          let same = none_reduced (short sum) g none_heavier found in
          holding x.state (reduces.reduced e) (rw same p.midst.standing.light)
          (heavy_kept_out pool limit v (short sum) g s large (kept_joins (short sum) g none_heavier ∙ found) ∙ ap (λ h. went (contracting h s)) (sym same))

      -- or none
      pub no_arc_there : {m' : Lent} → r ≡ false → Steps x m' v held (within_sum pool limit v (short sum) g s) (Err Sum)
      no_arc_there e =
          steps_refused (heavy_refused pool limit v (short sum) g s large (kept_joins (short sum) g none_heavier ∙ reduces.found ∙ e))

  -- After the search: the graph is as it was.
  module _ {labels heap : List ℕ} {sum limit : ℕ} (r : Answer)
      (answered : Answered (lent m.arcs m.weights m.nodes labels heap) x.search head sum limit r (world n pool x.state g) s) where
    abbrev later : Work
    later = record { state = x.state; search = r.search }

    abbrev sought_later : Search
    sought_later = (find_max_weight g x.search.avoid limit head sum s).search

    abbrev pub still_pairing : Pairing (lent m.arcs m.weights m.nodes labels heap) pool later v tail head n g sought_later
    still_pairing =
        record {
          midst = over_standing p.midst.standing answered.ready;
          avoids = answered.avoid ∙ p.avoids;
          tail_in = p.tail_in;
          head_in = p.head_in;
          tail_off = p.tail_off;
          head_off = p.head_off;
        }

    module _ (differ : tail ≡ head → ⊥) where
      pub witnessed : r.weight ≤ sum →
          Steps x (lent m.arcs m.weights m.nodes labels heap) v held (pair_of pool limit v tail head sum (contracting g s)) (Ok later)
      witnessed h =
          steps_came
          (record {
            graph = g;
            search = sought_later;
            is =
                rw p.avoids
                (with_witness pool limit v tail head sum (contracting g s) differ
                (rw p.avoids at (rw answered.weight at h)));
            midst = over_standing p.midst.standing answered.ready;
            unmoved = unmoved_refl v held;
            base = answered.base;
            avoid = answered.avoid;
          })

      pub not_witnessed : {m' : Lent} {r' : Result Work Refusal} → sum < r.weight →
          Steps later m' v held (within_sum pool limit v (arc tail head sum v) g sought_later) r' →
          Steps x m' v held (pair_of pool limit v tail head sum (contracting g s)) r'
      not_witnessed h =
          steps_from
          (rw p.avoids
          (without_witness pool limit v tail head sum (contracting g s) differ
          (rw p.avoids at (rw answered.weight at h))))
          answered.base
          answered.avoid
