-- Of tables that keep document 01's own rules, those with two entries of one node to one neighbour break a table rule, and no others do; and
-- there are such tables.
use mathlib.Core.Path.{◌≡◌, refl, sym, ◌∙◌}
use mathlib.Core.Bool.{Bool, true, false}
use mathlib.Core.List.{[], ◌∷◌, map}
use Prim.Native.Nat.{ℕ, suc, ◌+◌, ◌-◌, ◌≤◌, ◌<◌, zero-le}
use native.Mathlib.Omega.{arith}
use Rattle.rules.specs.Lists.{all, distinct, range}
use Rattle.rules.specs.Columns.{Hierarchy, Side, forward, backward, table, entry, begin, places}
use Rattle.rules.specs.TableRules.{NeighboursDiffer, EachDiffers, EntryRules, SideRules, TableRules}
use Rattle.rules.specs.FirstDemand.{PaperRules, Twins}
use Rattle.rules.specs.Bench.{plain}
use Rattle.rules.specs.Edges.{three, empty, edging}
use Rattle.rules.proofs.Cases.{on_test}
use Rattle.rules.proofs.Prefixes.{range_length, range_at}
use Rattle.rules.proofs.Decides.{leb_decides}
use Rattle.rules.proofs.TablesDecided.{columns_decided, entry_decided, side_decided, tables_decided}
use Rattle.rules.proofs.Ranges.{all_decides, places_differ, told_length, told_at}
use Rattle.rules.proofs.Refutes.{Twice, all_refutes, distinct_refutes}

module _ (n : ℕ) (h : Hierarchy) where
  pub twins_break : Twins n h → TableRules n h → ⊥
  twins_break t rules =
      omega (
        arith,
        t.later,
        rules.neighbours_differ t.side t.rank t.below t.first t.second t.from (omega (arith, t.later, t.to))
            (omega (arith, t.from, t.later)) t.to t.alike,
      )

  pub paper_weaker : TableRules n h → PaperRules n h
  paper_weaker r =
      record {
        nodes = omega (arith, r.nodes);
        places_for_ranks = r.places_for_ranks;
        ranks_below = r.ranks_below;
        ranks_differ = r.ranks_differ;
        side_rules = r.side_rules;
      }

  module _ (s : Side) where
    abbrev from : ℕ → ℕ
    from r = begin (table h s) r

    abbrev neighbour : ℕ → ℕ
    neighbour e = (entry (table h s) e).neighbour

    abbrev apart : ℕ → Bool
    apart r = distinct (map neighbour (range (from r) (from (suc r))))

    all_apart : all apart (range 0 n) ≡ true → EachDiffers n h s
    all_apart t r below =
        (all_decides apart (λ r. NeighboursDiffer (table h s) (from r) (from (suc r))) 0 n
        (λ r. places_differ neighbour (from r) (from (suc r)))).0 t r zero-le below

    at_rank : (r : ℕ) → r < n → Twice (map neighbour (range (from r) (from (suc r)))) → Twins n h
    at_rank r below (i, j, less, short, alike) =
        let inside : j < from (suc r) - from r = omega (arith, told_length neighbour (from r) (from (suc r))) in
        record {
          side = s;
          rank = r;
          below = below;
          first = from r + i;
          second = from r + j;
          from = omega arith;
          later = omega arith;
          to = omega arith;
          alike = sym (told_at neighbour (from r) (from (suc r)) i (omega arith)) ∙ alike ∙ told_at neighbour (from r) (from (suc r)) j inside;
        }

    found : all apart (range 0 n) ≡ false → Twins n h
    found f =
        let w = (all_refutes 0 (λ r. Twice (map neighbour (range (from r) (from (suc r))))) apart (range 0 n)
        (λ r. distinct_refutes (map neighbour (range (from r) (from (suc r)))))).0 f in
        at_rank _ (omega (arith, w.1, range_length 0 n, range_at 0 n w.0 0 (omega (arith, w.1, range_length 0 n)))) w.2

  pub twins_found : PaperRules n h → (TableRules n h → ⊥) → Twins n h
  twins_found paper broken =
      on_test (all (apart forward) (range 0 n))
      (λ f. on_test (all (apart backward) (range 0 n)) (λ b. absurd (broken (kept (all_apart forward f) (all_apart backward b)))) (found backward))
      (found forward)
    where
      kept : EachDiffers n h forward → EachDiffers n h backward → TableRules n h
      kept f b =
          record {
            nodes = omega (arith, paper.nodes);
            places_for_ranks = paper.places_for_ranks;
            ranks_below = paper.ranks_below;
            ranks_differ = paper.ranks_differ;
            side_rules = paper.side_rules;
            neighbours_differ = elim [ forward ↦ f | backward ↦ b ];
          }

-- Document 01's own rules do let such tables through: these, of three nodes, have the forward entries 0-1 of 1 and 0-1 of 2.
unfoldable twins_tables : Hierarchy
twins_tables = three (0 ∷ 2 ∷ 2 ∷ 2 ∷ []) (plain 0 1 1 ∷ plain 0 1 2 ∷ []) empty []

twins_side : SideRules 3 twins_tables forward
unfolding twins_tables edging places
twins_side =
    record {
      columns = (columns_decided (table twins_tables forward)).0 refl;
      places_for_starts = omega arith;
      begin_at_0 = refl;
      never_fall =
          λ r below.
          (all_decides _ (λ r. begin (table twins_tables forward) r ≤ begin (table twins_tables forward) (suc r)) 0 3
          (λ r. leb_decides (begin (table twins_tables forward) r) (begin (table twins_tables forward) (suc r)))).0 refl r zero-le below;
      end_within = omega arith;
      entry_rules =
          λ r below.
          (all_decides _
          (λ r. (e : ℕ) → begin (table twins_tables forward) r ≤ e → e < begin (table twins_tables forward) (suc r) → EntryRules 3 twins_tables forward r (entry (table twins_tables forward) e)) 0 3
          (λ r.
          all_decides _ (λ e. EntryRules 3 twins_tables forward r (entry (table twins_tables forward) e)) (begin (table twins_tables forward) r)
          (begin (table twins_tables forward) (suc r))
          (λ e. entry_decided 3 twins_tables forward r (entry (table twins_tables forward) e)))).0 refl r zero-le below;
    }

let_through : PaperRules 3 twins_tables
unfolding twins_tables edging
let_through =
    let one = (tables_decided 3 (three (0 ∷ 1 ∷ 1 ∷ 1 ∷ []) (plain 0 1 1 ∷ []) empty [])).0 refl in
    record {
      nodes = omega arith;
      places_for_ranks = omega arith;
      ranks_below = one.ranks_below;
      ranks_differ = one.ranks_differ;
      side_rules = elim [ forward ↦ twins_side | backward ↦ ((side_decided 3 twins_tables backward).0 refl).0 ];
    }

pub twins_there : (n : ℕ) × (h : Hierarchy) × PaperRules n h × Twins n h
unfolding twins_tables edging
twins_there = (
  3,
  twins_tables,
  let_through,
  record {
    side = forward;
    rank = 0;
    below = omega arith;
    first = 0;
    second = 1;
    from = omega arith;
    later = omega arith;
    to = omega arith;
    alike = refl;
  },
)
