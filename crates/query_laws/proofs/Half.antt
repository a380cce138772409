-- The query's half of the third demand: on tables that keep a build's promise, an accepted query answers "none" where no
-- walk leads from a counting source to a counting target, and otherwise a least walk (steps 12 and 13).
use mathlib.Core.Path.{◌≡◌, sym, ◌∙◌, ap, subst}
use mathlib.Core.Logic.{inl, inr}
use mathlib.Core.Bool.{true}
use mathlib.Core.List.{List, append_assoc}
use Prim.Native.Nat.{ℕ, suc, ◌+◌, ◌*◌, ◌≤◌, ◌<◌}
use native.Mathlib.Omega.{arith}
use lib.ListN.{length}
use borrow.Author.Tests.{eq-eqb, ne_eqb}
use Rattle.rules.specs.Numbers.{max_weight, invalid}
use Rattle.rules.specs.Lists.{distinct, over}
use Rattle.rules.specs.Columns.{Link, Hierarchy, Side, forward, backward, rank, Ends}
use Rattle.rules.specs.TableRules.{TableRules}
use Rattle.rules.specs.Refusals.{QueryCall, query_refusal}
use Rattle.rules.specs.Query.{end_list, Best, climb, root, walk, no_route, searched}
use Rattle.rules.proofs.Cases.{on_test}
use Rattle.rules.proofs.Pigeonhole.{at_most}
use Rattle.walks.specs.Paths.{Path, stay, step}
use Rattle.walks.specs.Walks.{Linked}
use Rattle.walks.specs.Promise.{Promise, Entries}
use Rattle.walks.proofs.Paths.{join}
use Rattle.walks.proofs.Places.{place_entry}
use Rattle.query_laws.specs.LeastWalk.{Counts, Unreachable, LeastWalk, AnsweredNone, AnsweredWalk, Answered}
use Rattle.query_laws.proofs.Walks.{Trail, trail_path, shorter, trail_nodes, leads_join, leads_trail, leads_path, Solid, solid_path, trail_walk, walk_path, chain_leads}
use Rattle.query_laws.specs.Sound.{weight_at, Met, no_best, Both}
use Rattle.query_laws.specs.Accepted.{EndsRules, Accepted}
use Rattle.query_laws.proofs.Accepted.{accepted, searched_both, searched_empty}
use Rattle.query_laws.proofs.Answers.{accepted_query, route_none, route_found, handed_fits}
use Rattle.query_laws.proofs.Chains.{Chain, chain, opened}
use Rattle.query_laws.proofs.Least.{least}

-- Ranks rise along entries, and no entry weighs more than 2^40: a chain of them weighs far less than the mark.
chain_light : (n : ℕ) (h : Hierarchy) (rules : TableRules n h) (s : Side) {m u w : ℕ} → Path (Entries h s) m u w → u < n →
    (w + max_weight * rank h u ≤ max_weight * rank h m) × (m < n)
chain_light n h rules s (stay same none) below = (rw (ap (rank h) same, none) (omega arith), rw same at below)
chain_light n h rules s {m} {u} {w} (step v x y (e, here, to, weighs) adds r) below =
    let z = place_entry n h rules s u below e here in
    let rest = chain_light n h rules s r (rw to at z.neighbour_below) in
    let high = rw to at z.neighbour_higher in
    (omega (arith, rest.0, z.weight_high, high), rest.1)

module _ (ls : List Link) (q : QueryCall) (promise : Promise q.nodes ls q.hierarchy) (a : Accepted q) where
  both : Both q.nodes q.hierarchy (end_list q.sources) (end_list q.targets) (searched q)
  both = searched_both q a

  counting : (e : Ends) → EndsRules q.nodes e → (v o : ℕ) → Counts e v o → (v < q.nodes) × (o ≤ max_weight)
  counting e rules v o c =
      let r = rules.each (record { node = v; offset = o }) c.0 in
      (r.node_below, elim r.fits [ inl low ↦ low | inr mark ↦ absurd (c.1 mark) ])

  -- no path between counting ends makes less
  none_less : (s t o p w : ℕ) → Counts q.sources s o → Counts q.targets t p → Path (Linked ls) t s w → (searched q).best.sum ≤ o + w + p
  none_less s t o p w cs ct path =
      least q.nodes ls q.hierarchy promise (end_list q.sources) (end_list q.targets)
      (λ e m. (a.sources.each e m).node_below) (λ e m. (a.targets.each e m).node_below) (searched q) both (searched_empty q a).0 (searched_empty q a).1
      (suc (o + w + p)) s t o p w cs.0 (omega (arith, (counting q.sources a.sources s o cs).1)) ct.0
      (omega (arith, (counting q.targets a.targets t p ct).1)) path (omega arith)

  -- an unset best sum leaves no walk: one that goes up and down would make less than the mark
  unreachable : (searched q).best ≡ no_best → Unreachable ls q.sources q.targets
  unreachable mark s t o p w vs cs ct way =
      let s_in = counting q.sources a.sources s o cs in
      let t_in = counting q.targets a.targets t p ct in
      let ud = promise.up_down s t w s_in.0 t_in.0 (walk_path way) in
      let up = chain_leads q.nodes ls q.hierarchy promise forward ud.3 s_in.0 in
      let down = chain_leads q.nodes ls q.hierarchy promise backward ud.4 t_in.0 in
      let up_light = chain_light q.nodes q.hierarchy promise.rules forward ud.3 s_in.0 in
      let down_light = chain_light q.nodes q.hierarchy promise.rules backward ud.4 t_in.0 in
      let m_below = promise.rules.ranks_below ud.0 up_light.1 in
      let least = none_less s t o p (ud.1 + ud.2) cs ct (join (solid_path (leads_path up.1)) (solid_path (leads_path down.1))) in
      omega (arith, least, ap (λ (b : Best). b.sum) mark, s_in.1, t_in.1, up_light.0, down_light.0, m_below, promise.rules.nodes)

  answered_none : query_refusal q ≡ 0 → (searched q).best ≡ no_best → AnsweredNone ls q
  unfolding no_route
  answered_none fine mark =
      let e = accepted_query q fine ∙ route_none q (searched q) (eq-eqb _ invalid (ap (λ (b : Best). b.node) mark)) in
      record {
        number = ap (λ r. r.number) e;
        weight = ap (λ r. r.weight) e;
        walk = ap (λ r. r.walk) e;
        path = ap (λ r. r.path) e;
        unreachable = unreachable mark;
      }

  module _ (met : Met q.nodes (searched q).fwd (searched q).bwd (searched q).best) where
    meeting : ℕ
    meeting = (searched q).best.node

    source : ℕ
    source = root q.nodes (searched q).fwd meeting

    target : ℕ
    target = root q.nodes (searched q).bwd meeting

    up : Chain q.nodes ls q.hierarchy forward (end_list q.sources) (searched q).fwd meeting source (climb q.nodes (searched q).fwd meeting)
    unfolding meeting source
    up =
        chain q.nodes ls q.hierarchy promise forward (end_list q.sources) both.fwd_floor (searched q).best.sum (searched q).fwd both.fwd
        q.nodes meeting (promise.rules.ranks_below meeting met.node_below) (omega (arith, met.set, met.enough))

    down : Chain q.nodes ls q.hierarchy backward (end_list q.targets) (searched q).bwd meeting target (climb q.nodes (searched q).bwd meeting)
    unfolding meeting target
    down =
        chain q.nodes ls q.hierarchy promise backward (end_list q.targets) both.bwd_floor (searched q).best.sum (searched q).bwd both.bwd
        q.nodes meeting (promise.rules.ranks_below meeting met.node_below) (omega (arith, met.set, met.enough))

    found : List ℕ
    found = walk q.hierarchy q.nodes (searched q) meeting

    trail : Trail (Solid q.nodes ls) target source (up.weight + down.weight) found
    unfolding found walk opened target
    trail = rw append_assoc at (leads_trail (leads_join up.leads down.leads))

    from_counts : Counts q.sources source (weight_at (searched q).fwd source)
    from_counts = (up.is_end, λ mark. omega (arith, up.counts))

    to_counts : Counts q.targets target (weight_at (searched q).bwd target)
    to_counts = (down.is_end, λ mark. omega (arith, down.counts))

    -- the walk's total is the best sum: no less by the meeting's labels, no more since nothing makes less
    makes : (searched q).best.sum ≡ weight_at (searched q).fwd source + (up.weight + down.weight) + weight_at (searched q).bwd target
    unfolding meeting
    makes =
        omega (
          arith,
          met.enough,
          up.makes,
          down.makes,
          none_less source target (weight_at (searched q).fwd source) (weight_at (searched q).bwd target) (up.weight + down.weight) from_counts to_counts
              (solid_path (trail_path trail)),
        )

    once : distinct found ≡ true
    once =
        on_test (distinct found) (λ t. t)
        (λ twice.
        let p = shorter (λ u v w e. e.1) trail twice in
        absurd
        (omega (
          arith,
          makes,
          p.2,
          none_less source target (weight_at (searched q).fwd source) (weight_at (searched q).bwd target) p.0 from_counts to_counts (solid_path p.1),
        )))

    short_enough : length found ≤ q.nodes
    short_enough = at_most q.nodes found once (trail_nodes (λ u v w e. e.2) down.node_below trail)

    least_walk : LeastWalk ls q.sources q.targets (searched q).best.sum found
    least_walk =
        record {
          source = source;
          target = target;
          from = weight_at (searched q).fwd source;
          to = weight_at (searched q).bwd target;
          weight = up.weight + down.weight;
          is_walk = trail_walk trail;
          from_least = (from_counts, λ p c. both.fwd.covers (record { node = source; offset = p }) c.0);
          to_least = (to_counts, λ p c. both.bwd.covers (record { node = target; offset = p }) c.0);
          makes = makes;
          none_less = λ s t o p w us cs ct way. none_less s t o p w cs ct (walk_path way);
          no_node_twice = once;
        }

    answered_walk : query_refusal q ≡ 0 → AnsweredWalk ls q
    unfolding found meeting
    answered_walk fine =
        let away = ne_eqb (searched q).best.node invalid (λ same. omega (arith, met.node_below, promise.rules.nodes)) in
        let e =
        accepted_query q fine ∙
        (route_found q (searched q) away ∙ handed_fits q (searched q).best.sum found (omega (arith, short_enough, a.path_room))) in
        record {
          number = ap (λ r. r.number) e;
          least_walk = subst (λ r. LeastWalk ls q.sources q.targets r.weight r.walk) (sym e) least_walk;
          fits = rw (ap (λ r. r.walk) e) short_enough;
          path = ap (λ r. r.path) e ∙ ap (λ r. over q.path r.walk) (sym e);
        }

-- The query's half of the third demand.
pub query_half : (ls : List Link) (q : QueryCall) → Promise q.nodes ls q.hierarchy →
    query_refusal q ≡ 0 → Answered ls q
query_half ls q promise fine =
    let a = accepted q fine in
    elim (searched_both q a).meets.real [
      | inl mark ↦ inl (answered_none ls q promise a fine mark)
      | inr met ↦ inr (answered_walk ls q promise a met fine)
    ]
