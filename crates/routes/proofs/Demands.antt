-- The page of demands, proved.
use mathlib.Core.Path.{◌≡◌, refl, sym, ◌∙◌, ap}
use mathlib.Core.List.{List}
use Prim.Native.Nat.{ℕ, zero, suc, ◌+◌, ◌*◌, ◌≤◌}
use native.Mathlib.Omega.{arith}
use native.Mathlib.Nat.{add-suc}
use lib.ListN.{length, get_or}
use Rattle.rules.specs.Columns.{Hierarchy, Side, forward, backward, table, Ends}
use Rattle.rules.specs.TableRules.{TableRules}
use Rattle.rules.specs.Refusals.{BuildCall, build_refusal, QueryCall, build_scratch, query_scratch}
use Rattle.rules.specs.Graph.{Arc}
use Rattle.rules.specs.Search.{Search, run, search_fuel}
use Rattle.rules.specs.Build.{refused, contraction, build}
use Rattle.rules.specs.Query.{End, end_list, Half, entered, rounds}
use Rattle.rules.specs.Program.{digits, lines}
use Rattle.rules.proofs.Accepted.{accepted_build}
use Rattle.rules.proofs.Outcomes.{early, late, whole, ended}
use Rattle.walks.proofs.Cut.{cut_agrees}
use Rattle.walks.proofs.Places.{used_entry}
use Rattle.search_laws.specs.Paid.{Paid}
use Rattle.search_laws.proofs.Bounds.{paid_heap, init_paid, added_paid, search_paid, run_enough, search_fuel_enough}
use Rattle.build_laws.proofs.Refused.{build_half}
use Rattle.build_laws.proofs.Enough.{never_10, never_11}
use Rattle.build_laws.proofs.Laws.{build_passes, cut_passes, ranks_inverse, no_neighbour_twice}
use Rattle.query_laws.proofs.Unpacking.{unpacked_shortcut, unpacked_plain}
use Rattle.query_laws.specs.Sound.{Sound, Both}
use Rattle.query_laws.proofs.Turns.{rounds_keep}
use Rattle.query_laws.specs.Accepted.{EndsRules, Accepted}
use Rattle.query_laws.proofs.Accepted.{accepted, entered_both, searched_both, searched_empty}
use Rattle.query_laws.proofs.Bounds.{heap_room, heap_fits}
use Rattle.query_laws.proofs.Chains.{climb_enough, root_enough}
use Rattle.routes.specs.Demands.{Searched, begun, asked, added, Small, Demands}
use Rattle.rules.proofs.ProgramFuel.{digits_enough, lines_enough}
use Rattle.routes.proofs.ThirdDemand.{third_demand}

-- what one more does not change, any more does not
steady : {A : Type 0} (f : ℕ → A) (n : ℕ) → ((j : ℕ) → n ≤ j → f j ≡ f (suc j)) → (k : ℕ) → f (n + k) ≡ f n
steady f n same zero = ap f (omega arith)
steady f n same (suc k) = ap f (add-suc n k) ∙ sym (same (n + k) (omega arith)) ∙ steady f n same k

-- a number from 10 on is the contraction's
from_contraction : (c : BuildCall) (r : ℕ) → (build c).number ≡ r → 10 ≤ r → (build_refusal c ≡ 0) × (contraction c ≡ refused r)
from_contraction c r e high =
    elim (ended c) [
      | early k p a b o ↦ absurd (omega (arith, ap (λ x. x.number) o))
      | late k p m a b o ↦ (p, m ∙ ap refused (sym (ap (λ x. x.number) o) ∙ e))
      | whole k p m o ↦ absurd (omega (arith, ap (λ x. x.number) o))
    ]

searched_paid : (avoid limit a : ℕ) (g : List Arc) (s : Search) → Searched avoid limit a g s → Paid g s
searched_paid avoid limit a g s (begun h) = init_paid g a
searched_paid avoid limit a g s (asked {g = h} {s = t} target sum x) = search_paid g avoid limit target sum t (searched_paid avoid limit a g t x)
searched_paid avoid limit a g s (added {g = h} {s = t} y x) = added_paid y h s (searched_paid avoid limit a h s x)

sound_small : (n : ℕ) (h : Hierarchy) (rules : TableRules n h) (s : Side) (es : List End) (ends floor b : ℕ) (x : Half) → length es ≤ ends → Sound n h s es floor b x → Small n h s ends x
sound_small n h rules s es ends floor b x few k =
    record {
      labels = λ v lab. (k.labels v lab).bounded;
      items = λ i m. (k.items i m).bounded;
      heap = omega (arith, heap_room n h rules s es floor b x k);
    }

rounds_sound : (q : QueryCall) → Accepted q → (k : ℕ) → Both q.nodes q.hierarchy (end_list q.sources) (end_list q.targets) (rounds q.hierarchy k (entered q))
rounds_sound q a k = rounds_keep q.nodes q.hierarchy a.rules (end_list q.sources) (end_list q.targets) k (entered q) (entered_both q a)

-- Heap items of two numbers each, beside the scratch that is asked for them.
search_heap : (n pool : ℕ) (g : List Arc) (s : Search) → length g ≤ pool → length s.heap ≤ suc (length g) → 2 * length s.heap ≤ get_or (build_scratch n pool) 4 0
unfolding build_scratch
search_heap n pool g s fits short = omega arith

heap_place : Side → ℕ
heap_place forward = 2
heap_place backward = 3

query_heap : (q : QueryCall) (rules : TableRules q.nodes q.hierarchy) (s : Side) (e : Ends) → EndsRules q.nodes e → (floor b : ℕ) (x : Half) →
    Sound q.nodes q.hierarchy s (end_list e) floor b x → 2 * length x.heap ≤ get_or (query_scratch q.nodes q.hierarchy) (heap_place s) 0
unfolding query_scratch heap_place table
query_heap q rules forward e r floor b x k = omega (arith, heap_fits q.nodes q.hierarchy rules forward e r floor b x k)
query_heap q rules backward e r floor b x k = omega (arith, heap_fits q.nodes q.hierarchy rules backward e r floor b x k)

pub demands : Demands
unfolding heap_place
demands =
    record {
      third_demand = third_demand;
      tables_pass = λ c b. build_passes c b.weights b.number;
      cut_tables_pass = λ c b. cut_passes c b.weights b.number;
      cut_tables_agree = cut_agrees;
      ranks_inverse = λ c b. ranks_inverse c b.weights b.number;
      no_neighbour_twice = λ c b. no_neighbour_twice c b.weights b.number;
      table_weights = λ c b s e below. (used_entry c.nodes (build c).hierarchy (build_half c b.weights b.number).rules s e below).weight_high;
      never_10 =
          λ c small room e.
          let l = from_contraction c 10 e (omega arith) in
          never_10 c (accepted_build c l.0) small room 10 l.1 refl;
      never_11 =
          λ c small fwd bwd e.
          let l = from_contraction c 11 e (omega arith) in
          never_11 c (accepted_build c l.0) small fwd bwd 11 l.1 refl;
      search_heap = λ n pool avoid limit a g s x fits. search_heap n pool g s fits (paid_heap g s (searched_paid avoid limit a g s x));
      query_heap =
          λ q fine k.
          let a = accepted q fine in
          let both = rounds_sound q a k in (
            query_heap q a.rules forward q.sources a.sources _ _ _ both.fwd,
            query_heap q a.rules backward q.targets a.targets _ _ _ both.bwd,
          );
      query_small =
          λ q fine k.
          let a = accepted q fine in
          let both = rounds_sound q a k in (
            sound_small q.nodes q.hierarchy a.rules forward (end_list q.sources) _ _ _ _ a.sources.listed both.fwd,
            sound_small q.nodes q.hierarchy a.rules backward (end_list q.targets) _ _ _ _ a.targets.listed both.bwd,
          );
      search_fuel_enough =
          λ g avoid limit target sum k s.
          steady (λ j. run g avoid limit target sum j s) (search_fuel g avoid limit target sum s)
          (λ j more. run_enough g avoid limit target sum j s (omega (arith, search_fuel_enough g avoid limit target sum s)))
          k;
      rounds_enough = λ q fine. searched_empty q (accepted q fine);
      climb_enough =
          λ q fine k v below.
          let a = accepted q fine in
          let both = searched_both q a in
          let low = a.rules.ranks_below v below in (
            climb_enough q.nodes q.hierarchy a.rules forward _ _ _ _ both.fwd (q.nodes + k) q.nodes v (omega arith) low,
            climb_enough q.nodes q.hierarchy a.rules backward _ _ _ _ both.bwd (q.nodes + k) q.nodes v (omega arith) low,
          );
      root_enough =
          λ q fine k v below.
          let a = accepted q fine in
          let low = a.rules.ranks_below v below in
          root_enough q.nodes q.hierarchy a.rules backward _ _ _ _ (searched_both q a).bwd (q.nodes + k) q.nodes v (omega arith) low;
      unpacked_shortcut = λ n h rules. unpacked_shortcut n h rules;
      unpacked_plain = λ h s e. unpacked_plain h s e;
      digits_enough = λ n k. steady (λ j. digits j n) (suc n) (λ j more. digits_enough j n more) k;
      lines_enough = λ at k p bs. steady (λ j. lines j at p bs) (length bs) (λ j more. lines_enough j at p bs more) k;
      promise = λ c b. build_half c b.weights b.number;
    }
