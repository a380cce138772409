-- Bounds for the code, at every step of a query on any tables that pass the table rules: no sum of labels comes near the
-- mark, and no heap outgrows its room. What holds in the midst of relaxing is in Taken.
use mathlib.Core.List.{List}
use Prim.Native.Nat.{ℕ, suc, ◌+◌, ◌*◌, ◌≤◌, ◌<◌}
use native.Mathlib.Omega.{arith}
use lib.ListN.{length, length-map}
use Rattle.rules.specs.Numbers.{max_nodes, max_weight, max_ends, no_weight}
use Rattle.rules.specs.Heap.{Item}
use Rattle.rules.specs.Columns.{Hierarchy, Side, table, entry, rank, places, Ends}
use Rattle.rules.specs.TableRules.{used, TableRules}
use Rattle.rules.specs.Query.{End, end_list, Half, untouched, enter}
use Rattle.rules.specs.Lists.{In}
use Rattle.walks.proofs.Places.{place_entry}
use Rattle.query_laws.specs.Sound.{weight_at, LabelRules, Sound}
use Rattle.query_laws.proofs.Offers.{end_offer, after_enter}
use Rattle.query_laws.specs.Accepted.{EndsRules}

pub enter_room : (es : List End) → length (enter es untouched).heap ≤ length es
unfolding untouched
enter_room es = omega (arith, (after_enter es untouched).room, length-map es end_offer)

module _ (n : ℕ) (h : Hierarchy) (rules : TableRules n h) where
  pub bounded_at_most : (x : Half) (v : ℕ) → LabelRules n h x v → weight_at x v ≤ max_weight * max_nodes
  bounded_at_most x v r = omega (arith, r.bounded, rules.ranks_below v r.node_below, rules.nodes)

  module _ (s : Side) (es : List End) (floor b : ℕ) (x : Half) (k : Sound n h s es floor b x) where
    pub label_at_most : (v : ℕ) → weight_at x v < no_weight → weight_at x v ≤ max_weight * max_nodes
    label_at_most v lab = bounded_at_most x v (k.labels v lab)

    pub heap_at_most : (j : Item) → In j x.heap → j.weight ≤ max_weight * max_nodes
    heap_at_most j m =
        let r = k.items j m in
        omega (arith, r.bounded, rules.ranks_below j.node r.node_below, rules.nodes)

    -- a label and an entry of any table, as the stall test adds them
    pub stall_sum_at_most : (t : Side) (v : ℕ) → v < n → (e : ℕ) → In e (places (table h t) (rank h v)) →
        weight_at x (entry (table h t) e).neighbour < no_weight →
        weight_at x (entry (table h t) e).neighbour + (entry (table h t) e).weight ≤ max_weight * suc max_nodes
    stall_sum_at_most t v below e m lab =
        omega (arith, label_at_most (entry (table h t) e).neighbour lab, (place_entry n h rules t v below e m).weight_high)

    pub heap_room : length x.heap ≤ length es + used n (table h s)
    heap_room = omega (arith, k.room)

  pub heap_fits : (s : Side) (e : Ends) → EndsRules n e → (floor b : ℕ) (x : Half) → Sound n h s (end_list e) floor b x →
      length x.heap ≤ used n (table h s) + max_ends
  heap_fits s e r floor b x k = omega (arith, k.room, r.listed, r.few)
