-- The table test passes exactly if the table rules hold: fact by fact, in the order of the paper.
use mathlib.Core.Path.{◌≡◌, sym, ◌∙◌}
use Prim.Native.Nat.{ℕ, suc, ◌+◌, ◌≤◌, ◌<◌, zero-le}
use native.Mathlib.Omega.{arith}
use lib.ListN.{length, get_or, take}
use lib.Seq.{get_or-take, length-take-le}
use Rattle.rules.specs.Numbers.{max_nodes, max_weight, invalid}
use Rattle.rules.specs.Columns.{Table, Entry, Hierarchy, Side, forward, backward, table, entry, rank, begin, places, room, equally_long, EquallyLong}
use Rattle.rules.specs.TableRules.{tail_of, head_of, used, NeighboursDiffer, Fitting, EntryRules, SideRules, EachDiffers, TableRules, opens_test, numbers_test, entry_test, shape_test, rank_test, side_test, ranks_test, table_test}
use Rattle.rules.specs.Lists.{Decides}
use Rattle.rules.proofs.Decides.{ltb_decides, leb_decides, eqb_decides, and_decides, or_decides, if_decides, decides_as}
use Rattle.rules.proofs.Ranges.{all_decides, distinct_decides, Differ, places_differ}

pub columns_decided : (t : Table) → Decides (equally_long t) (EquallyLong t)
unfolding equally_long
columns_decided t =
    decides_as
    (and_decides
    (and_decides
    (and_decides (eqb_decides (length t.neighbours) (room t)) (eqb_decides (length t.weights) (room t)))
    (eqb_decides (length t.in_numbers) (room t)))
    (eqb_decides (length t.out_numbers) (room t))) (
      λ f. record { neighbours = f.0.0.0; weights = f.0.0.1; in_numbers = f.0.1; out_numbers = f.1 },
      λ r. (((r.neighbours, r.weights), r.in_numbers), r.out_numbers),
    )

module _ (n : ℕ) (h : Hierarchy) where
  opens_decided : (s : Side) (e i o : Entry) → Decides (opens_test n h s e i o) (Fitting n h s e i o)
  unfolding opens_test
  opens_decided s e i o =
      decides_as
      (and_decides
      (and_decides
      (and_decides
      (and_decides
      (and_decides
      (and_decides (ltb_decides e.in_number (used n h.backward)) (ltb_decides e.out_number (used n h.forward)))
      (eqb_decides i.base o.base))
      (ltb_decides (rank h i.base) (rank h e.base)))
      (eqb_decides i.neighbour (tail_of s e)))
      (eqb_decides o.neighbour (head_of s e)))
      (eqb_decides (i.weight + o.weight) e.weight)) (
        λ f.
            record {
              in_used = f.0.0.0.0.0.0;
              out_used = f.0.0.0.0.0.1;
              one_node = f.0.0.0.0.1;
              lower = f.0.0.0.1;
              from_tail = f.0.0.1;
              to_head = f.0.1;
              sum = f.1;
            },
        λ r. ((((((r.in_used, r.out_used), r.one_node), r.lower), r.from_tail), r.to_head), r.sum),
      )

  pub entry_decided : (s : Side) (r : ℕ) (e : Entry) → Decides (entry_test n h s r e) (EntryRules n h s r e)
  unfolding entry_test numbers_test
  entry_decided s r e =
      decides_as
      (and_decides
      (and_decides
      (and_decides
      (and_decides
      (and_decides
      (and_decides (ltb_decides e.base n) (eqb_decides (rank h e.base) r))
      (ltb_decides e.neighbour n))
      (ltb_decides r (rank h e.neighbour)))
      (leb_decides 1 e.weight))
      (leb_decides e.weight max_weight))
      (or_decides
      (and_decides (eqb_decides e.in_number invalid) (eqb_decides e.out_number invalid))
      (opens_decided s e (entry h.backward e.in_number) (entry h.forward e.out_number)))) (
        λ f.
            record {
              base_below = f.0.0.0.0.0.0;
              base_rank = f.0.0.0.0.0.1;
              neighbour_below = f.0.0.0.0.1;
              neighbour_higher = f.0.0.0.1;
              weight_low = f.0.0.1;
              weight_high = f.0.1;
              numbers = f.1;
            },
        λ x. (
          (
            ((((x.base_below, x.base_rank), x.neighbour_below), x.neighbour_higher), x.weight_low),
            x.weight_high,
          ),
          x.numbers,
        ),
      )

  pub side_decided : (s : Side) → Decides (side_test n h s) (SideRules n h s × EachDiffers n h s)
  unfolding side_test shape_test rank_test places
  side_decided s =
      decides_as
      (if_decides
      (and_decides
      (and_decides
      (and_decides
      (and_decides (columns_decided (table h s)) (leb_decides (suc n) (length (table h s).starts)))
      (eqb_decides (begin (table h s) 0) 0))
      (all_decides _ (λ r. begin (table h s) r ≤ begin (table h s) (suc r)) 0 n
      (λ r. leb_decides (begin (table h s) r) (begin (table h s) (suc r)))))
      (leb_decides (used n (table h s)) (room (table h s))))
      (all_decides _
      (λ r.
      ((e : ℕ) → begin (table h s) r ≤ e → e < begin (table h s) (suc r) → EntryRules n h s r (entry (table h s) e)) ×
      NeighboursDiffer (table h s) (begin (table h s) r) (begin (table h s) (suc r))) 0 n
      (λ r.
      and_decides
      (all_decides _ (λ e. EntryRules n h s r (entry (table h s) e)) (begin (table h s) r) (begin (table h s) (suc r))
      (λ e. entry_decided s r (entry (table h s) e)))
      (places_differ (λ e. (entry (table h s) e).neighbour) (begin (table h s) r) (begin (table h s) (suc r)))))) (
        λ f. (
          record {
            columns = f.0.0.0.0.0;
            places_for_starts = f.0.0.0.0.1;
            begin_at_0 = f.0.0.0.1;
            never_fall = λ r below. f.0.0.1 r zero-le below;
            end_within = f.0.1;
            entry_rules = λ r below. (f.1 r zero-le below).0;
          },
          λ r below. (f.1 r zero-le below).1,
        ),
        λ (x, apart). (
          (
            (((x.columns, x.places_for_starts), x.begin_at_0), λ r _ below. x.never_fall r below),
            x.end_within,
          ),
          λ r _ below. (x.entry_rules r below, apart r below),
        ),
      )

  -- the first n ranks as a list, and as a function of the nodes
  module _ (enough : n ≤ length h.ranks) where
    front_rank : (v : ℕ) → v < n → get_or (take n h.ranks) v invalid ≡ rank h v
    unfolding rank
    front_rank v below = get_or-take n h.ranks v invalid below

    front_length : length (take n h.ranks) ≡ n
    front_length = length-take-le n h.ranks enough

    list_differ : Differ (take n h.ranks) invalid → (u v : ℕ) → u < n → v < n → rank h u ≡ rank h v → u ≡ v
    list_differ d u v hu hv same =
        d u v (omega (arith, front_length)) (omega (arith, front_length))
        (front_rank u hu ∙ same ∙ sym (front_rank v hv))

    ranks_differ_list : ((u v : ℕ) → u < n → v < n → rank h u ≡ rank h v → u ≡ v) → Differ (take n h.ranks) invalid
    ranks_differ_list f i j hi hj same =
        let hi' : i < n = omega (arith, front_length) in
        let hj' : j < n = omega (arith, front_length) in
        f i j hi' hj' (sym (front_rank i hi') ∙ same ∙ front_rank j hj')

  pub tables_decided : Decides (table_test n h) (TableRules n h)
  unfolding table_test ranks_test
  tables_decided =
      decides_as
      (if_decides (leb_decides n max_nodes)
      (and_decides
      (and_decides
      (and_decides
      (and_decides (leb_decides n (length h.ranks))
      (all_decides _ (λ v. rank h v < n) 0 n (λ v. ltb_decides (rank h v) n)))
      (distinct_decides (take n h.ranks) invalid))
      (side_decided forward))
      (side_decided backward))) (
        λ f.
            record {
              nodes = f.0;
              places_for_ranks = f.1.0.0.0.0;
              ranks_below = λ v below. f.1.0.0.0.1 v zero-le below;
              ranks_differ = list_differ f.1.0.0.0.0 f.1.0.0.1;
              side_rules = elim [ forward ↦ f.1.0.1.0 | backward ↦ f.1.1.0 ];
              neighbours_differ = elim [ forward ↦ f.1.0.1.1 | backward ↦ f.1.1.1 ];
            },
        λ x. (
          x.nodes,
          (
            (
              (
                (x.places_for_ranks, λ v _ below. x.ranks_below v below),
                ranks_differ_list x.places_for_ranks x.ranks_differ,
              ),
              (x.side_rules forward, x.neighbours_differ forward),
            ),
            (x.side_rules backward, x.neighbours_differ backward),
          ),
        ),
      )
