-- No walk between counting ends makes less than the best sum, once both heaps are empty (step 11).
use mathlib.Core.Path.{◌≡◌}
use mathlib.Core.Bool.{true}
use mathlib.Core.List.Memᴰ
use mathlib.Core.List.{List, []}
use Prim.Native.Nat.{ℕ, zero, suc, ◌+◌, ◌≤◌, ◌<◌}
use native.Mathlib.Omega.{arith}
use native.Mathlib.Decide.{dec_le}
use Rattle.rules.specs.Numbers.{no_weight}
use Rattle.rules.specs.Columns.{Link, Hierarchy, Side, forward, backward, opposite, table, entry}
use Rattle.rules.specs.Unpack.{unpacked}
use Rattle.rules.specs.Query.{End, Half, Halves, climb, root}
use Rattle.rules.specs.Lists.{In}
use Rattle.walks.specs.Paths.{Path, stay, step}
use Rattle.walks.specs.Walks.{Linked}
use Rattle.walks.specs.Promise.{Promise, Entries}
use Rattle.walks.proofs.Paths.{join}
use Rattle.walks.proofs.Places.{place_entry}
use Rattle.query_laws.proofs.Walks.{Towards, towards_join, towards_back, Solid, solid_path, leads_path, place_leads, chain_leads}
use Rattle.query_laws.specs.Sound.{weight_at, Stalled, waiting, done, stalled, heavy, Sound, Both}
use Rattle.query_laws.proofs.Turns.{best_at_most}
use Rattle.query_laws.proofs.Chains.{chain, opened}

-- Going up from an end to m, for a total of at most `total` with the rest d, where no other way makes less than that and the
-- best sum makes more.
module _ (n : ℕ) (ls : List Link) (h : Hierarchy) (promise : Promise n ls h)
    (s : Side) (es : List End) (floor b : ℕ) (x : Half) (k : Sound n h s es floor b x) (empty : x.heap ≡ []) (capped : b ≤ no_weight)
    (m d total : ℕ) (short : total < b)
    (none_lighter : (r o w : ℕ) (us : List ℕ) → In (record { node = r; offset = o }) es → o < no_weight → Towards (Solid n ls) s r m w us → o + w + d < total → ⊥) where
  -- a stalled node on the way would make a lighter way
  no_stall : (u c r : ℕ) → u < n → weight_at x u ≤ c → Path (Entries h s) m u r → c + r + d ≤ total → Stalled h s x u (weight_at x u) → ⊥
  no_stall u c r below low up sum st =
      let e = st.via in
      let z = (entry (table h (opposite s)) e).neighbour in
      let z_below = (place_entry n h promise.rules (opposite s) u below e st.place).neighbour_below in
      let l = chain n ls h promise s es floor b x k n z (promise.rules.ranks_below z z_below) (omega (arith, st.less)) in
      let back =
      towards_back (Solid n ls) s u z (entry (table h (opposite s)) e).weight (unpacked h (opposite s) e)
      (place_leads n ls h promise (opposite s) u below e st.place) in
      let rest = chain_leads n ls h promise s up below in
      none_lighter (root n x z) (weight_at x (root n x z)) (l.weight + (entry (table h (opposite s)) e).weight + r) _ l.is_end l.counts
      (towards_join (Solid n ls) s (root n x z) u m (l.weight + (entry (table h (opposite s)) e).weight) r _ rest.0
      (towards_join (Solid n ls) s (root n x z) z u l.weight (entry (table h (opposite s)) e).weight (opened h s (climb n x z)) (unpacked h (opposite s) e) l.leads back)
      rest.1)
      (omega (arith, l.makes, st.less))

  on_the_way : (u c r : ℕ) → u < n → weight_at x u ≤ c → Path (Entries h s) m u r → c + r + d ≤ total → x.settled u ≡ true
  on_the_way u c r below low up sum =
      elim (k.standing u (omega arith)) [
        | waiting i ↦ absurd (Memᴰ.not-nil (rw empty at i))
        | done t ↦ t
        | stalled st ↦ absurd (no_stall u c r below low up sum st)
        | heavy more ↦ absurd (omega arith)
      ]

  pub climbs : (u c r : ℕ) → u < n → weight_at x u ≤ c → Path (Entries h s) m u r → c + r + d ≤ total →
      (x.settled m ≡ true) × (weight_at x m ≤ c + r)
  climbs u c r below low (stay same none) sum =
      (rw same at (on_the_way u c r below low (stay same none) sum), rw (← same) (omega arith))
  climbs u c r below low (step v w y (e, here, to, weighs) adds up) sum =
      let settled = on_the_way u c r below low (step v w y (e, here, to, weighs) adds up) sum in
      let offered : weight_at x v ≤ weight_at x u + w = rw (to, weighs) at ((k.settled u settled).offered e here) in
      let v_below : v < n = rw to at (place_entry n h promise.rules s u below e here).neighbour_below in
      let rest = climbs v (c + w) y v_below (omega arith) up (omega arith) in
      (rest.0, omega (arith, rest.1))

module _ (n : ℕ) (ls : List Link) (h : Hierarchy) (promise : Promise n ls h)
    (ss ts : List End) (source_below : (e : End) → In e ss → e.node < n) (target_below : (e : End) → In e ts → e.node < n)
    (q : Halves) (k : Both n h ss ts q) (fwd_empty : q.fwd.heap ≡ []) (bwd_empty : q.bwd.heap ≡ []) where
  abbrev LeastBelow : ℕ → Type 0
  LeastBelow bound =
      (s t o p w : ℕ) → In (record { node = s; offset = o }) ss → o < no_weight → In (record { node = t; offset = p }) ts → p < no_weight →
      Path (Linked ls) t s w → o + w + p < bound → q.best.sum ≤ o + w + p

  -- one more total, from all that are less
  least_step : (s t o p w : ℕ) → In (record { node = s; offset = o }) ss → o < no_weight → In (record { node = t; offset = p }) ts → p < no_weight →
      Path (Linked ls) t s w → LeastBelow (o + w + p) → o + w + p < q.best.sum → q.best.sum ≤ o + w + p
  least_step s t o p w s_in s_counts t_in t_counts path less short =
      let s_below = source_below (record { node = s; offset = o }) s_in in
      let t_below = target_below (record { node = t; offset = p }) t_in in
      let ud = promise.up_down s t w s_below t_below path in
      let m = ud.0 in
      let x = ud.1 in
      let y = ud.2 in
      let light = ud.5 in
      let up = chain_leads n ls h promise forward ud.3 s_below in
      let down = chain_leads n ls h promise backward ud.4 t_below in
      let f =
      climbs n ls h promise forward ss k.fwd_floor q.best.sum q.fwd k.fwd fwd_empty (best_at_most k.meets) m (p + y) (o + w + p) short
      (λ r o' w' us r_in counts leads sum.
      omega (arith, less r t o' p (w' + y) r_in counts t_in t_counts (join (solid_path (leads_path leads)) (solid_path (leads_path down.1))) (omega arith)))
      s o x s_below (k.fwd.covers (record { node = s; offset = o }) s_in) ud.3 (omega arith) in
      let g =
      climbs n ls h promise backward ts k.bwd_floor q.best.sum q.bwd k.bwd bwd_empty (best_at_most k.meets) m (o + x) (o + w + p) short
      (λ r o' w' us r_in counts leads sum.
      omega (arith, less s r o o' (x + w') s_in s_counts r_in counts (join (solid_path (leads_path up.1)) (solid_path (leads_path leads))) (omega arith)))
      t p y t_below (k.bwd.covers (record { node = t; offset = p }) t_in) ud.4 (omega arith) in
      omega (arith, k.meets.low m f.0 g.0, f.1, g.1)

  pub least : (bound : ℕ) → LeastBelow bound
  least zero s t o p w s_in s_counts t_in t_counts path sum = absurd (omega arith)
  least (suc bound) s t o p w s_in s_counts t_in t_counts path sum =
      elim (dec_le q.best.sum (o + w + p)) [
        | yes le ↦ le
        | no gt ↦
            least_step s t o p w s_in s_counts t_in t_counts path
            (λ s' t' o' p' w' a b c d path' sum'. least bound s' t' o' p' w' a b c d path' (omega arith)) (omega arith)
      ]
