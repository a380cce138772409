-- The number of the check, from the parts of the table rules.
use mathlib.Core.Bool.{true}
use mathlib.Core.List.{List}
use mathlib.Core.Path.{◌≡◌}
use Prim.Native.Nat.{ℕ, ◌≤◌}
use lib.ListN.{length, take}
use Rattle.rules.specs.Numbers.{max_nodes, invalid}
use Rattle.rules.specs.Columns.{Table, Hierarchy, Side, forward, backward, table, rank}
use Rattle.rules.specs.TableRules.{SideRules, TableRules, table_test}
use Rattle.rules.specs.Refusals.{check_rows, check_refusal, first_met}
use Rattle.rules.proofs.Cases.{on_test}
use Rattle.rules.proofs.TablesDecided.{tables_decided}
use Rattle.permutation.specs.Once.{each_once}
use Rattle.permutation.proofs.Once.{once_decides}
use Rattle.tables.specs.Shapes.{Shape, Shaped, EntriesRules}

-- the same columns, seen from the other side
pub turned : {n : ℕ} {ranks : List ℕ} {own other : Table} → Shaped n ranks own other → Shaped n ranks other own
turned k =
    record { nodes = k.nodes; places_for_ranks = k.places_for_ranks; own_shape = k.other_shape; other_shape = k.own_shape }

module _ (n : ℕ) (h : Hierarchy) where
  pub broken : (TableRules n h → ⊥) → 20 ≡ check_refusal n h
  unfolding check_refusal check_rows first_met
  broken b =
      on_test (table_test n h)
      (λ t. absurd (b ((tables_decided n h).0 t)))
      (λ f. rw f)

  kept : TableRules n h → 0 ≡ check_refusal n h
  unfolding check_refusal check_rows first_met
  kept k = rw ((tables_decided n h).1 k)

  -- of the tables
  pub shape_of : (s : Side) → TableRules n h → Shape n (table h s)
  shape_of s k =
      let r = k.side_rules s in
      record {
        columns = r.columns;
        places_for_starts = r.places_for_starts;
        begin_at_0 = r.begin_at_0;
        never_fall = r.never_fall;
        end_within = r.end_within;
      }

  pub entries_of : (s : Side) → TableRules n h → EntriesRules n h s
  entries_of s k r below = record { entry_rules = (k.side_rules s).entry_rules r below; neighbours_differ = k.neighbours_differ s r below }

  -- of the ranks
  pub once_of : n ≤ length h.ranks → TableRules n h → each_once n (take n h.ranks) ≡ true
  unfolding rank
  once_of enough k = (once_decides n h.ranks invalid enough).1 (k.ranks_below, k.ranks_differ)

  pub all_kept : n ≤ max_nodes → n ≤ length h.ranks → each_once n (take n h.ranks) ≡ true →
      Shape n (table h forward) → EntriesRules n h forward → Shape n (table h backward) → EntriesRules n h backward →
      0 ≡ check_refusal n h
  unfolding rank
  all_kept few enough once shape_f rules_f shape_b rules_b =
      let o = (once_decides n h.ranks invalid enough).0 once in
      kept
      (record {
        nodes = few;
        places_for_ranks = enough;
        ranks_below = o.0;
        ranks_differ = o.1;
        side_rules = elim [ forward ↦ side forward shape_f rules_f | backward ↦ side backward shape_b rules_b ];
        neighbours_differ =
            elim [ forward ↦ λ r below. (rules_f r below).neighbours_differ | backward ↦ λ r below. (rules_b r below).neighbours_differ ];
      })
    where
      side : (s : Side) → Shape n (table h s) → EntriesRules n h s → SideRules n h s
      side s shape rules =
          record {
            columns = shape.columns;
            places_for_starts = shape.places_for_starts;
            begin_at_0 = shape.begin_at_0;
            never_fall = shape.never_fall;
            end_within = shape.end_within;
            entry_rules = λ r below. (rules r below).entry_rules;
          }
