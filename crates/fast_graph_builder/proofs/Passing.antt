-- Which calls are turned away, and what one that is let in gives.
use mathlib.Core.Path.{◌≡◌, refl, sym, ◌∙◌, ap}
use mathlib.Core.Logic.{inl, inr}
use mathlib.Core.Bool.{true, false, ◌||◌}
use mathlib.Core.List.{List, [], ◌∷◌, ◌++◌}
use Prim.Native.Nat.{ℕ, zero, suc, ◌*◌, ◌-◌, ◌≤◌}
use native.Mathlib.Omega.{arith}
use native.Mathlib.Nat.{mul-le-mul_left}
use native.Mathlib.Decide.{ℕ_discrete}
use lib.Dec.{ltb}
use lib.ListN.{length, replicate}
use borrow.Author.Tests.{ltb-false}
use Rattle.rules.specs.Numbers.{invalid, no_weight}
use Rattle.rules.specs.Lists.{filled}
use Rattle.rules.specs.Columns.{Links, Hierarchy, marked_table, marked, equally_long, room}
use Rattle.rules.specs.Refusals.{Row, row, first_met, short, build_scratch, BuildCall, graph_rows, order_rows, graph_refusal, table_short, lent_short, build_refusal}
use Rattle.rules.specs.Build.{Step, went, refused, Building, finish_contraction, built, unless_refused, build, contraction}
use Rattle.rules.proofs.Rows.{not_met}
use Rattle.rules.proofs.Cases.{neither}
use Rattle.rules.proofs.Accepted.{accepted_build}
use Rattle.rules.specs.Accepted.{AcceptedBuild}
use Rattle.build_laws.proofs.Pools.{contraction_same}
use Rattle.input_graph.specs.Given.{links}
use Rattle.input_graph.proofs.Accepted.{accepted_between}
use Rattle.std.specs.Prelude.{Result}
use Rattle.rules.specs.declared.Refusal.{Refusal}
use Rattle.search.specs.Searching.{Lent}
use Rattle.marks.specs.Tables.{table_of, hierarchy}
use Rattle.contraction.specs.Ranks.{Stage}
use Rattle.marks.specs.declared.TableMut.{TableMut}
use Rattle.marks.specs.Lent.{table_at, KeptColumns}
use Rattle.entries.specs.Lent.{KeptOuts}
use Rattle.contraction.specs.Ranks.{Given, given, call, parts_of}
use Rattle.contraction.specs.Lent.{parts_at}
use Rattle.contraction.specs.Promises.{Accepted, Came, Accepting}
use Rattle.refusals.specs.Measures.{uneven_by, lent_short_by, order_test}
use Rattle.refusals.proofs.Tests.{later, first_earlier}
use Rattle.fast_graph_builder.specs.Promises.{answer, run, lengths, Inside, Closing, Passed}

-- Rows 1 to 8, and then 9.
eight : (n : ℕ) (l : Links) (order : List ℕ) (rest : List Row) → first_met (graph_rows n l ++ order_test n order) ≡ 0 →
    first_met (graph_rows n l ++ (order_test n order ++ rest)) ≡ first_met rest
unfolding graph_rows order_test
eight n l order rest e =
    later 0 _ _ rest e
    (λ e. later 1 _ _ rest e (λ e. later 2 _ _ rest e (λ e. later 3 _ _ rest e (λ e. later 4 _ _ rest e (λ e. later 5 _ _ rest e (λ e. later 6 _ _ rest e (λ e. later 7 _ _ rest e (λ e. refl))))))))

pub nodes_few : (n : ℕ) (l : Links) (order : List ℕ) → first_met (graph_rows n l ++ order_test n order) ≡ 0 → n ≤ 1024
unfolding graph_rows order_test
nodes_few n l order e = ltb-false 1024 n (not_met 0 _ _ e).0

module _ (c : BuildCall) where
  pub turned_away : (k : ℕ) → k ≡ first_met (graph_rows c.nodes c.links ++ order_test c.nodes c.order) → (k ≡ 0 → ⊥) → answer k c.lent ≡ build c
  unfolding build unless_refused build_refusal graph_rows order_rows order_test
  turned_away zero e h = absurd (h refl)
  turned_away (suc k) e h =
      let first : build_refusal c ≡ suc k =
      first_earlier (graph_rows c.nodes c.links ++ order_test c.nodes c.order) (row 9 (lent_short c) ∷ []) (λ z. h (e ∙ z)) ∙ sym e
      in
      rw first

  module _ (none : first_met (graph_rows c.nodes c.links ++ order_test c.nodes c.order) ≡ 0) where
    nine : build_refusal c ≡ first_met (row 9 (lent_short c) ∷ [])
    unfolding build_refusal graph_rows order_rows order_test
    nine = eight c.nodes c.links c.order (row 9 (lent_short c) ∷ []) none

    pub too_short : lent_short c ≡ true → answer 9 c.lent ≡ build c
    unfolding build unless_refused first_met
    too_short e =
        let first : build_refusal c ≡ 9 = nine ∙ rw (e, first_met) in
        rw first

    pub let_in : lent_short c ≡ false → build_refusal c ≡ 0
    unfolding first_met
    let_in e = nine ∙ rw (e, first_met)

  pub let_in_built : build_refusal c ≡ 0 → run c ≡ build c
  unfolding build unless_refused
  let_in_built e = rw e

-- row 9 by lengths
pub by_lengths : (n limit pool : ℕ) (l : Links) (order ranks fs fb fn fw fi fo bs bb bn bw bi bo arcs weights nodes labels heap : List ℕ) →
    lent_short (call (given n l order (hierarchy ranks (table_of fs fb fn fw fi fo) (table_of bs bb bn bw bi bo)) (lengths arcs weights nodes labels heap)) limit pool) ≡
    lent_short_by n pool (length ranks) (uneven_by n (length fs) (length fb) (length fn) (length fw) (length fi) (length fo))
    (uneven_by n (length bs) (length bb) (length bn) (length bw) (length bi) (length bo)) (lengths arcs weights nodes labels heap)
unfolding lent_short lent_short_by table_short uneven_by equally_long room
by_lengths n limit pool l order ranks fs fb fn fw fi fo bs bb bn bw bi bo arcs weights nodes labels heap = refl

-- What acceptance gives.
graph_passed : (n : ℕ) (l : Links) (rest : List Row) → first_met (graph_rows n l ++ rest) ≡ 0 → graph_refusal n l ≡ 0
unfolding graph_refusal
graph_passed n l rest e =
    elim (ℕ_discrete (first_met (graph_rows n l)) 0) [
      | yes z ↦ z
      | no h ↦ absurd (h (sym (first_earlier (graph_rows n l) rest h) ∙ e))
    ]

module _ (c : BuildCall) (e : build_refusal c ≡ 0) where
  pub links_passed : graph_refusal c.nodes c.links ≡ 0
  unfolding build_refusal
  links_passed = graph_passed c.nodes c.links (order_rows c) e

  scratch_passed : short (build_scratch c.nodes c.pool) c.scratch ≡ false
  unfolding build_refusal graph_rows order_rows lent_short
  scratch_passed =
      let r1 = not_met 0 _ _ e in
      let r2 = not_met 1 _ _ r1.1 in
      let r3 = not_met 2 _ _ r2.1 in
      let r4 = not_met 3 _ _ r3.1 in
      let r5 = not_met 4 _ _ r4.1 in
      let r6 = not_met 5 _ _ r5.1 in
      let r7 = not_met 6 _ _ r6.1 in
      let r8 = not_met 7 _ _ r7.1 in
      let r9 = not_met 8 _ _ r8.1 in
      (neither
      (ltb (length c.lent.ranks) c.nodes || table_short c.nodes c.lent.forward || table_short c.nodes c.lent.backward)
      (short (build_scratch c.nodes c.pool) c.scratch)
      r9.0
      ).1

pub record Enough (n pool arcs weights nodes labels heap : ℕ) : Type 0 where
  pub arcs_room : 6 * pool ≤ arcs
  pub weights_room : pool ≤ weights
  pub nodes_room : 4 * n ≤ nodes
  pub labels_room : 2 * n ≤ labels
  pub heap_room : 2 * suc pool ≤ heap

enough_scratch : (n pool arcs weights nodes labels heap : ℕ) → short (build_scratch n pool) (arcs ∷ weights ∷ nodes ∷ labels ∷ heap ∷ []) ≡ false →
    Enough n pool arcs weights nodes labels heap
unfolding short build_scratch
enough_scratch n pool arcs weights nodes labels heap e =
    let a = neither _ _ e in
    let b = neither _ _ a.1 in
    let c = neither _ _ b.1 in
    let d = neither _ _ c.1 in
    let f = neither _ _ d.1 in
    record {
      arcs_room = ltb-false arcs (6 * pool) a.0;
      weights_room = ltb-false weights pool b.0;
      nodes_room = ltb-false nodes (4 * n) c.0;
      labels_room = ltb-false labels (2 * n) d.0;
      heap_room = ltb-false heap (2 * suc pool) f.0;
    }

-- no row asks for the pool but by the scratch
other_pool : {g : Given} {limit pool : ℕ} (p : ℕ) → AcceptedBuild (call g limit pool) → AcceptedBuild (call g limit p)
other_pool p k =
    record {
      nodes = k.nodes;
      below = k.below;
      loopless = k.loopless;
      positive = k.positive;
      links_ascend = k.links_ascend;
      order_length = k.order_length;
      order_below = k.order_below;
      order_distinct = k.order_distinct;
      ranks_room = k.ranks_room;
      fwd_starts = k.fwd_starts;
      fwd_columns = k.fwd_columns;
      bwd_starts = k.bwd_starts;
      bwd_columns = k.bwd_columns;
    }

-- as long, so marked alike
table_alike : {x y : TableMut} → KeptColumns x y → marked_table (table_at y) ≡ marked_table (table_at x)
unfolding marked_table filled
table_alike g =
    λ k.
    table_of (replicate (g.starts_long k) invalid) (replicate (g.bases_long k) invalid) (replicate (g.neighbours_long k) invalid)
    (replicate (g.weights_long k) no_weight) (replicate (g.ins_long k) invalid) (replicate (g.outs_long k) invalid)

-- n(n - 1) of at most 1,024 nodes
pub most_arcs : (n : ℕ) → n ≤ 1024 → n * (n - 1) ≤ 1047552
most_arcs n few = omega (arith, mul-le-mul_left n (less n few))
  where
    less : (n : ℕ) → n ≤ 1024 → n - 1 ≤ 1023
    less n h = omega arith

pub no_arcs : (n : ℕ) → n ≡ 0 → n * (n - 1) ≡ 0
no_arcs n e = ap (λ k. k * (k - 1)) e

-- what is given and lent
abbrev pub given_with : ℕ → Links → List ℕ → Hierarchy → Lent → Given
given_with n l order h m = given n l order h (lengths m.arcs m.weights m.nodes m.labels m.heap)

module _ (m : Lent) {n : ℕ} {ts hs ws order : List ℕ} {limit pool : ℕ} {h : Hierarchy} (p : Passed (call (given_with n (links ts hs ws) order h m) limit pool)) where
  ok : AcceptedBuild (call (given_with n (links ts hs ws) order h m) limit pool)
  ok = accepted_build (call (given_with n (links ts hs ws) order h m) limit pool) p.accepted

  pub few : n ≤ 1024
  few = ok.nodes

  module _ {r : ℕ} (x : Inside n pool r) where
    accepted : Accepted (call (given_with n (links ts hs ws) order h m) limit r)
    accepted = record { build = other_pool {g = given_with n (links ts hs ws) order h m} {limit = limit} {pool = pool} r ok; weights = p.weights }

    pub accepting : Accepting (given_with n (links ts hs ws) order h m) limit r (parts_of h) m
    accepting =
        let e =
        enough_scratch n pool (length m.arcs) (length m.weights) (length m.nodes) (length m.labels) (length m.heap)
        (scratch_passed (call (given_with n (links ts hs ws) order h m) limit pool) p.accepted)
        in
        record {
          ok = accepted;
          lent_is = refl;
          between = accepted_between n ts hs ws (links_passed (call (given_with n (links ts hs ws) order h m) limit pool) p.accepted);
          spacious =
              record {
                numbered = omega (arith, x.small);
                arcs_room = omega (arith, e.arcs_room, x.most);
                weights_room = omega (arith, e.weights_room, x.most);
                nodes_room = e.nodes_room;
              };
          labels_room = e.labels_room;
          heap_room = omega (arith, e.heap_room, x.most);
        }

    same_contraction : contraction (call (given_with n (links ts hs ws) order h m) limit r) ≡ contraction (call (given_with n (links ts hs ws) order h m) limit pool)
    same_contraction =
        elim x.enough [
          | inl same ↦ ap (λ q. contraction (call (given_with n (links ts hs ws) order h m) limit q)) same
          | inr more ↦ contraction_same (call (given_with n (links ts hs ws) order h m) limit pool) ok p.weights r more.0 more.1
        ]

    built_alike : (s : Step Building) →
        built (call (given_with n (links ts hs ws) order h m) limit r) s ≡ built (call (given_with n (links ts hs ws) order h m) limit pool) s
    unfolding built finish_contraction
    built_alike (went b) = refl
    built_alike (refused k) = refl

    pub as_built : run (call (given_with n (links ts hs ws) order h m) limit r) ≡ run (call (given_with n (links ts hs ws) order h m) limit pool)
    as_built =
        ap (built (call (given_with n (links ts hs ws) order h m) limit r)) same_contraction ∙
        built_alike (contraction (call (given_with n (links ts hs ws) order h m) limit pool))

    -- the columns after the ranks
    pub closing : {m' : Lent} {w : Result Stage Refusal} {h' : Hierarchy} →
        Came (call (given_with n (links ts hs ws) order h m) limit r) (contraction (call (given_with n (links ts hs ws) order h m) limit r)) (parts_of h') m' w →
        h'.ranks ≡ h.ranks → h'.forward.out_numbers ≡ h.forward.out_numbers → h'.backward.out_numbers ≡ h.backward.out_numbers →
        marked_table h'.forward ≡ marked_table h.forward → marked_table h'.backward ≡ marked_table h.backward →
        Closing (call (given_with n (links ts hs ws) order h m) limit r) (contraction (call (given_with n (links ts hs ws) order h m) limit r)) m' n order w h'
    unfolding marked
    closing came ranks fo bo f k =
        record {
          ok = accepted;
          steps = refl;
          nodes_are = refl;
          order_is = refl;
          came = came;
          ranks_are = ranks;
          fwd_outs = fo;
          bwd_outs = bo;
          marks = λ i. hierarchy (filled invalid (ranks i)) (f i) (k i);
        }

-- the same, by columns as they are lent
module _ (m : Lent) {n : ℕ} {ts hs ws order : List ℕ} {limit pool : ℕ} {ranks : List ℕ} {f k f' k' : TableMut}
    (p : Passed (call (given_with n (links ts hs ws) order (hierarchy ranks (table_at f) (table_at k)) m) limit pool))
    {r : ℕ} (x : Inside n pool r) {m' : Lent} {w : Result Stage Refusal} (fwd : KeptOuts f f') (bwd : KeptOuts k k')
    (came : Came (call (given_with n (links ts hs ws) order (hierarchy ranks (table_at f) (table_at k)) m) limit r)
    (contraction (call (given_with n (links ts hs ws) order (hierarchy ranks (table_at f) (table_at k)) m) limit r)) (parts_at f' k') m' w) where
  pub closing_columns :
      Closing (call (given_with n (links ts hs ws) order (hierarchy ranks (table_at f) (table_at k)) m) limit r)
      (contraction (call (given_with n (links ts hs ws) order (hierarchy ranks (table_at f) (table_at k)) m) limit r)) m' n order w
      (hierarchy ranks (table_at f') (table_at k'))
  closing_columns =
      closing m p x {h' = hierarchy ranks (table_at f') (table_at k')} came refl fwd.outs bwd.outs (table_alike fwd.columns) (table_alike bwd.columns)
