-- What an accepted build gives: each row that was not met.
use mathlib.Core.Path.{◌≡◌}
use mathlib.Core.Bool.{false, not}
use Prim.Native.Nat.{ℕ, suc, ◌≤◌}
use native.Mathlib.Omega.{arith}
use lib.Dec.{eqb, ltb}
use lib.ListN.{length}
use borrow.Author.Tests.{eqb-true, eqb-false, ltb-true, ltb-false, not-false}
use Rattle.rules.specs.Numbers.{max_nodes}
use Rattle.rules.specs.Columns.{link_list, Table, equally_long, EquallyLong}
use Rattle.rules.specs.Refusals.{BuildCall, names_none_above, loop, table_short, lent_short, graph_rows, order_rows, build_refusal}
use Rattle.rules.specs.Accepted.{AcceptedBuild}
use Rattle.rules.proofs.Decides.{and_both}
use Rattle.rules.proofs.TablesDecided.{columns_decided}
use Rattle.rules.proofs.Rows.{not_met}
use Rattle.rules.proofs.Cases.{neither}
use Rattle.rules.proofs.Members.{all_each, none_any}

table_long : (n : ℕ) (t : Table) → table_short n t ≡ false → (suc n ≤ length t.starts) × EquallyLong t
unfolding table_short
table_long n t e =
    let b = neither (ltb (length t.starts) (suc n)) (not (equally_long t)) e in
    (ltb-false (length t.starts) (suc n) b.0, (columns_decided t).0 (not-false (equally_long t) b.1))

not_zero : (w : ℕ) → eqb w 0 ≡ false → 1 ≤ w
not_zero w e = omega (arith, eqb-false w 0 e)

pub accepted_build : (c : BuildCall) → build_refusal c ≡ 0 → AcceptedBuild c
unfolding build_refusal graph_rows order_rows lent_short names_none_above loop
accepted_build c e =
    let r1 = not_met 0 _ _ e in
    let r2 = not_met 1 _ _ r1.1 in
    let r3 = not_met 2 _ _ r2.1 in
    let r4 = not_met 3 _ _ r3.1 in
    let r5 = not_met 4 _ _ r4.1 in
    let r6 = not_met 5 _ _ r5.1 in
    let r7 = not_met 6 _ _ r6.1 in
    let r8 = not_met 7 _ _ r7.1 in
    let r9 = not_met 8 _ _ r8.1 in
    let order = and_both _ _ (not-false _ r8.0) in
    let room = neither _ _ r9.0 in
    let room' = neither _ _ room.0 in
    let room'' = neither _ _ room'.0 in
    let fwd = table_long c.nodes c.lent.forward room''.1 in
    let bwd = table_long c.nodes c.lent.backward room'.1 in
    record {
      nodes = ltb-false max_nodes c.nodes r1.0;
      below =
          λ l m.
          let b = and_both _ _ (all_each (names_none_above c.nodes) (link_list c.links) (not-false _ r3.0) l m) in
          (ltb-true l.tail c.nodes b.0, ltb-true l.head c.nodes b.1);
      loopless = λ l m. eqb-false l.tail l.head (none_any loop (link_list c.links) r4.0 l m);
      positive = λ l m. not_zero l.weight (none_any _ (link_list c.links) r5.0 l m);
      links_ascend = not-false _ r6.0;
      order_length = eqb-true (length c.order) c.nodes (not-false _ r7.0);
      order_below = λ v m. ltb-true v c.nodes (all_each (λ u. ltb u c.nodes) c.order order.0 v m);
      order_distinct = order.1;
      ranks_room = ltb-false (length c.lent.ranks) c.nodes room''.0;
      fwd_starts = fwd.0;
      fwd_columns = fwd.1;
      bwd_starts = bwd.0;
      bwd_columns = bwd.1;
    }
