-- The code looks for an entry among those of its centre's rank: it finds the one that the definition finds among all.
use mathlib.Core.Path.{◌≡◌, refl, sym, ◌∙◌, ap}
use mathlib.Core.Bool.{◌&&◌}
use mathlib.Core.List.{List, ◌++◌, map}
use Prim.Native.Nat.{ℕ, suc, ◌+◌, ◌-◌, ◌≤◌, ◌<◌}
use native.Mathlib.Omega.{arith}
use native.Mathlib.Numerals.{add-one}
use native.Mathlib.Nat.{add-sub_of_le}
use native.Mathlib.Decide.{dec_lt}
use lib.Dec.{eqb}
use lib.ListN.{length, get_or, set, drop, length-map}
use lib.Seq.{get_or-set_same, get_or-set_other, get_or-append-add, get_or-drop, ext_get_or}
use borrow.Author.Tests.{eq-eqb}
use Rattle.rules.specs.Lists.{In, over, position}
use Rattle.rules.specs.Columns.{Side, forward, backward, table, begin}
use Rattle.rules.specs.Refusals.{BuildCall}
use Rattle.rules.specs.Graph.{Arc}
use Rattle.rules.specs.Build.{Level, arcs_of, neighbour_of, raw, level_raws, raws, Building, place, starts_of, ranks_of, laid, finish_contraction}
use Rattle.rules.proofs.Decides.{both_and}
use Rattle.rules.proofs.Ranges.{distinct_decides}
use Rattle.rules.proofs.Members.{get_d_in, in_get_d}
use Rattle.rules.proofs.Positions.{position_first, position_below, position_is}
use Rattle.rules.proofs.Prefixes.{prefix, locate, sizes, flat_length, over_at, over_length, map_at}
use Rattle.build_laws.specs.Runs.{rank_of}
use Rattle.build_laws.proofs.Starts.{Contracted, contraction_went}
use Rattle.build_laws.proofs.BuiltTables.{no_raw, no_level, level_count, level_at, rank_at, starts_at, begin_is, starts_next, raw_at, before_end, found, ranks_length, ranks_at}
use Rattle.finish.specs.Promises.{Sought, Whole, Inverse}

module _ {c : BuildCall} {b : Building} (w : Whole c b) where
  pub done : Contracted c w.ok w.weights b
  done = contraction_went c w.ok w.weights b w.went_to

  abbrev L : List Level
  L = b.levels

  -- the rank of a level's node is its place among the levels
  pub ranked : (l : Level) → In l L → (i : ℕ) × (i < c.nodes) × (get_or L i no_level ≡ l) × (rank_of c.order l.node ≡ i)
  ranked l m =
      let k = in_get_d l L no_level m in
      let short : k.0 < c.nodes = omega (arith, k.1, level_count c w.ok w.weights b done) in
      let at = level_at c w.ok w.weights b done k.0 short in (
        k.0,
        short,
        k.2,
        ap (λ v. rank_of c.order v) (sym (ap (λ x. x.node) k.2) ∙ at.0) ∙ rank_at c w.ok w.weights b done k.0 short,
      )

  -- an entry in the range of a rank is of its node
  own_base : (s : Side) (i e : ℕ) → i < c.nodes → starts_at c w.ok w.weights b done s i ≤ e → e < starts_at c w.ok w.weights b done s (suc i) →
      ((get_or (raws s L) e no_raw).base ≡ (get_or L i no_level).node) × (e < length (raws s L))
  unfolding raw
  own_base s i e hi low high =
      let start = starts_at c w.ok w.weights b done s i in
      let j : ℕ = e - start in
      let inside : j < length (arcs_of s (get_or L i no_level)) = omega (arith, starts_next c w.ok w.weights b done s i hi) in
      let here : start + j ≡ e = add-sub_of_le low in (
        ap (λ k. (get_or (raws s L) k no_raw).base) (sym here) ∙ ap (λ r. r.base) (raw_at c w.ok w.weights b done s i j hi inside),
        before_end c w.ok w.weights b done s (suc i) hi high,
      )

  -- and an entry of a node is in the range of its rank
  own_range : (s : Side) (i e : ℕ) → i < c.nodes → e < length (raws s L) → (get_or (raws s L) e no_raw).base ≡ (get_or L i no_level).node →
      (starts_at c w.ok w.weights b done s i ≤ e) × (e < starts_at c w.ok w.weights b done s (suc i))
  unfolding raws
  own_range s i e hi h base =
      let xs = sizes (level_raws s) L in
      let long : length xs ≡ length L = length-map L (λ l. length (level_raws s l)) in
      let r = locate xs e (omega (arith, flat_length (level_raws s) L, ap (prefix xs) long)) in
      let hr : r.0 < c.nodes = omega (arith, r.1, long, level_count c w.ok w.weights b done) in
      let own = own_base s r.0 e hr r.2 r.3 in
      let i_at = level_at c w.ok w.weights b done i hi in
      let r_at = level_at c w.ok w.weights b done r.0 hr in
      let differ = (distinct_decides c.order 0).0 w.ok.order_distinct in
      let same : r.0 ≡ i =
      differ r.0 i (omega (arith, hr, w.ok.order_length)) (omega (arith, hi, w.ok.order_length)) (sym r_at.0 ∙ sym own.0 ∙ base ∙ i_at.0)
      in (
        omega (arith, r.2, ap (prefix xs) same),
        omega (arith, r.3, ap (λ k. prefix xs (suc k)) same),
      )

  module _ (s : Side) (starts neighbours : List ℕ) (starts_are : starts ≡ over (table c.lent s).starts (starts_of s L))
      (neighbours_are : neighbours ≡ over (table c.lent s).neighbours (map (λ r. r.neighbour) (raws s L))) where
    pub start_is : (i : ℕ) → i ≤ c.nodes → get_or starts i 0 ≡ starts_at c w.ok w.weights b done s i
    unfolding begin table finish_contraction laid
    start_is i h = ap (λ k. get_or k i 0) starts_are ∙ by s
      where
        by : (s : Side) → get_or (over (table c.lent s).starts (starts_of s L)) i 0 ≡ starts_at c w.ok w.weights b done s i
        by forward = begin_is c w.ok w.weights b done forward i h
        by backward = begin_is c w.ok w.weights b done backward i h

    neighbour_is : (e : ℕ) → e < length (raws s L) → get_or neighbours e 0 ≡ (get_or (raws s L) e no_raw).neighbour
    neighbour_is e h =
        ap (λ k. get_or k e 0) neighbours_are ∙
        over_at (table c.lent s).neighbours (map (λ r. r.neighbour) (raws s L)) e 0 (rw (length-map (raws s L) (λ r. r.neighbour)) h) ∙
        map_at (λ r. r.neighbour) (raws s L) e no_raw 0 h

    -- what the code finds is what the definition finds
    pub sought_place : (l : Level) → In l L → (y : Arc) → In y (arcs_of s l) → (r u e : ℕ) → r ≡ rank_of c.order l.node → u ≡ neighbour_of s y →
        Sought starts neighbours r u e → e ≡ place (raws s L) l.node u
    unfolding place raw
    sought_place l ml y my r u e rank nb x =
        let q = place (raws s L) l.node u in
        let f = found c w.ok w.weights b done s l ml y my in
        let at = ranked l ml in
        let i = at.0 in
        let rank_here : r ≡ i = rank ∙ at.3 in
        let q_below : q < length (raws s L) = rw nb f.0 in
        let q_raw : get_or (raws s L) q no_raw ≡ raw s l.node y = ap (λ k. get_or (raws s L) (place (raws s L) l.node k) no_raw) nb ∙ f.1 in
        let node : (get_or L i no_level).node ≡ l.node = ap (λ k. k.node) at.2 in
        let range = own_range s i q at.1 q_below (ap (λ k. k.base) q_raw ∙ sym node) in
        let low = start_is i (omega (arith, at.1)) in
        let high = start_is (suc i) at.1 in
        let from : get_or starts r 0 ≡ get_or starts i 0 = ap (λ k. get_or starts k 0) rank_here in
        let to : get_or starts (r + 1) 0 ≡ get_or starts (suc i) 0 = ap (λ k. get_or starts k 0) (add-one r ∙ ap suc rank_here) in
        let q_nb : get_or neighbours q 0 ≡ u = neighbour_is q q_below ∙ ap (λ k. k.neighbour) q_raw ∙ sym nb in
        let no_more : q < e → ⊥ = λ h. x.before q (omega (arith, range.0, low, from)) h q_nb in
        let at_most : e ≤ q = elim (dec_lt q e) [ yes h ↦ absurd (no_more h) | no h ↦ omega arith ] in
        let e_range : e < get_or starts (r + 1) 0 = omega (arith, at_most, range.1, high, to) in
        let e_nb = x.here e_range in
        let own = own_base s i e at.1 (omega (arith, x.low, low, from)) (omega (arith, e_range, high, to)) in
        let first : q ≤ e =
        position_first (λ z. eqb z.base l.node && eqb z.neighbour u) (raws s L) e no_raw own.1
        (both_and _ _ (eq-eqb _ _ (own.0 ∙ node)) (eq-eqb _ _ (sym (neighbour_is e own.1) ∙ e_nb)))
        in
        omega (arith, at_most, first)

-- places beyond what was written
pub over_beyond : (lent values : List ℕ) (k : ℕ) → length values ≤ k → get_or (over lent values) k 0 ≡ get_or lent k 0
unfolding over
over_beyond lent values k h =
    let more : length values + (k - length values) ≡ k = add-sub_of_le h in
    ap (λ i. get_or (values ++ drop (length values) lent) i 0) (sym more) ∙ get_or-append-add values (drop (length values) lent) (k - length values) 0 ∙
    get_or-drop (length values) lent (k - length values) 0 ∙ ap (λ i. get_or lent i 0) more

-- The order's inverse, written rank by rank.
pub record Inverted (n : ℕ) (order ranks₀ ranks : List ℕ) (r : ℕ) : Type 0 where
  pub written : (j : ℕ) → j < r → get_or ranks (get_or order j 0) 0 ≡ j
  pub beyond : (v : ℕ) → n ≤ v → get_or ranks v 0 ≡ get_or ranks₀ v 0

pub none_inverted : (n : ℕ) (order ranks : List ℕ) → Inverted n order ranks ranks 0
none_inverted n order ranks = record { written = λ j h. absurd (omega arith); beyond = λ v h. refl }

module _ {n : ℕ} {order ranks₀ ranks : List ℕ} {r : ℕ} (p : Inverse n order ranks₀) (x : Inverted n order ranks₀ ranks r) (long : length ranks ≡ length ranks₀) where
  pub node_there : r < length order → get_or order r 0 < n
  node_there h = p.below (get_or order r 0) (get_d_in order r 0 h)

  pub one_inverted : r < length order → Inverted n order ranks₀ (set ranks (get_or order r 0) r) (r + 1)
  one_inverted h =
      let v = get_or order r 0 in
      let inside : v < length ranks = omega (arith, node_there h, p.room) in
      record {
        written =
            λ j k.
            elim (dec_lt j r) [
              | yes y ↦ get_or-set_other ranks v (get_or order j 0) r 0 (λ e. absurd (omega (arith, y, p.apart j r (omega arith) h e))) ∙ x.written j y
              | no q ↦ let same : j ≡ r = omega arith in rw same (get_or-set_same ranks v r 0 inside)
            ];
        beyond = λ u k. get_or-set_other ranks v u r 0 (λ e. absurd (omega (arith, node_there h))) ∙ x.beyond u k;
      }

  pub all_inverted : r ≡ length order → ranks ≡ over ranks₀ (ranks_of order n)
  all_inverted e =
      let size = ranks_length order n in
      ext_get_or 0 ranks (over ranks₀ (ranks_of order n)) (long ∙ sym (over_length ranks₀ (ranks_of order n) (omega (arith, size, p.room))))
      (λ v h.
      elim (dec_lt v n) [
        | yes y ↦
            let there = position_below (eqb v) order v (p.every v y) (eq-eqb v v refl) in
            let at = position_is order v 0 there in
            sym (ap (λ k. get_or ranks k 0) at) ∙ x.written (position (eqb v) order) (omega (arith, there)) ∙
            sym (over_at ranks₀ (ranks_of order n) v 0 (omega (arith, size)) ∙ ranks_at order n v 0 y)
        | no q ↦ x.beyond v (omega arith) ∙ sym (over_beyond ranks₀ (ranks_of order n) v (omega (arith, size)))
      ])
