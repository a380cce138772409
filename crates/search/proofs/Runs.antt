-- Laws of the whole loop: in its midst the rest of the run comes to what the run from the start does.
use mathlib.Core.Path.{◌≡◌, sym, ap, ◌∙◌}
use mathlib.Core.Bool.{Bool, true, false}
use Prim.Native.Nat.{ℕ, suc, ◌+◌, ◌-◌, ◌<◌, ◌≤◌}
use native.Mathlib.Omega.{arith}
use lib.ListN.{length}
use Rattle.rules.specs.Search.{Search, run, search_fuel}
use Rattle.search_laws.proofs.Bounds.{left, paid_most, search_fuel_enough}
use Rattle.graph.proofs.Standing.{within_pool}
use Rattle.search.specs.Turns.{Turn, turn}
use Rattle.search.specs.Searching.{World, Lent}
use Rattle.search.specs.Promises.{Progress, Asked, Turned, Ran}
use Rattle.search.proofs.Turns.{turn_less, run_turn, same_fuel}

-- no more can leave than `most`, and what is to come is what came from s
pub record Onward (m : Lent) (base avoid len count target sum limit most : ℕ) (w : World) (s : Search) : Type 0 where
  pub search : Search
  pub asked : Asked m base len count target sum w search
  pub enough : left w.graph avoid search ≤ most
  pub same : run w.graph avoid limit target sum (suc most) search ≡
      run w.graph avoid limit target sum (search_fuel w.graph avoid limit target sum s) s

pub onward_all : {m : Lent} {base len count target sum : ℕ} {w : World} {s : Search} (avoid limit : ℕ) → Asked m base len count target sum w s →
    Onward m base avoid len count target sum limit (length m.weights + 1) w s
onward_all {m} {base} {len} {count} {target} {sum} {w} {s} avoid limit x =
    let r = x.ready in
    let few : left w.graph avoid s ≤ length m.weights + 1 =
    omega (arith, r.paid, paid_most s.settled w.graph, within_pool r.standing.stands, r.standing.stands.weights_room)
    in
    record {
      search = s;
      asked = x;
      enough = few;
      same =
          same_fuel w.graph avoid target sum limit s (suc (length m.weights + 1))
          (search_fuel w.graph avoid limit target sum s)
          (omega arith)
          (search_fuel_enough w.graph avoid limit target sum s);
    }

module _ {m m' : Lent} {base avoid len count target sum limit most : ℕ} {r : Progress} {w : World} {s : Search}
    (x : Onward m base avoid len count target sum limit most w s)
    (y : Turned m' base avoid target sum limit r w x.search) where
  next : Turn
  next = turn w.graph avoid target sum limit x.search

  -- by what the turn answered
  goes : (on : Bool) → r.on ≡ on →
      (elim on [ true ↦ run w.graph avoid limit target sum most next.search | false ↦ next.search ]) ≡
      run w.graph avoid limit target sum (search_fuel w.graph avoid limit target sum s) s
  unfolding next
  goes on e =
      ap (λ (b : Bool). elim b [ true ↦ run w.graph avoid limit target sum most next.search | false ↦ next.search ]) (sym e ∙ y.on)
      ∙ sym (run_turn w.graph avoid target sum limit most x.search) ∙ x.same

  pub onward_stop : r.on ≡ false → Ran m' base avoid target sum limit r w s
  unfolding next
  onward_stop e = rw (← goes false e) y.ready

  module _ (e : r.on ≡ true) where
    fewer : left w.graph avoid next.search < left w.graph avoid x.search
    unfolding next
    fewer = (turn_less w.graph avoid target sum limit x.search x.asked.ready.paid).fewer (sym y.on ∙ e)

    pub most_some : 1 ≤ most
    most_some = omega (arith, fewer, x.enough)

    pub onward_on : Onward m' base avoid r.len r.settled target sum limit (most - 1) w s
    unfolding next
    onward_on =
        let again : suc (most - 1) ≡ most = omega (arith, most_some) in
        record {
          search = next.search;
          asked = record { ready = y.ready; inside = x.asked.inside; small = x.asked.small };
          enough = omega (arith, fewer, x.enough);
          same = ap (λ (k : ℕ). run w.graph avoid limit target sum k next.search) again ∙ goes true e;
        }

-- the base by another name
pub asked_as : {m : Lent} {base base' len count target sum : ℕ} {w : World} {s : Search} → base' ≡ base → Asked m base len count target sum w s →
    Asked m base' len count target sum w s
asked_as e x = rw e x
