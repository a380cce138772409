-- What a build promises of its tables holds of all that agree with them and keep the table rules; and tables that agree with such
-- keep the rules too, if their columns have the places.
use mathlib.Core.Path.{◌≡◌, refl, ◌∙◌, ap}
use mathlib.Core.Logic.{inl, inr}
use mathlib.Core.List.{List}
use Prim.Native.Nat.{ℕ, suc, ◌≤◌, ◌<◌}
use native.Mathlib.Omega.{arith}
use lib.ListN.{length}
use Rattle.rules.specs.Columns.{Link, Table, Entry, Hierarchy, Side, forward, backward, table, entry, rank, begin, places, room, EquallyLong}
use Rattle.rules.specs.TableRules.{used, Opens, EntryRules, SideRules, TableRules}
use Rattle.walks.specs.Paths.{Path, stay, step}
use Rattle.walks.specs.Promise.{Entries, Promise}
use Rattle.walks.specs.Agreement.{Agree}
use Rattle.walks.proofs.Places.{rising, used_entry, place_entry, place_used}

module _ {n : ℕ} {h k : Hierarchy} (agree : Agree n h k) where
  used_same : (s : Side) → used n (table k s) ≡ used n (table h s)
  unfolding used
  used_same s = agree.starts s n (omega arith)

  module _ (rules : TableRules n h) (s : Side) where
    -- a node's entries are at the same places
    places_same : (u : ℕ) → u < n → places (table k s) (rank k u) ≡ places (table h s) (rank h u)
    unfolding places
    places_same u below =
        let low = rules.ranks_below u below in
        rw (agree.ranks u below, agree.starts s (rank h u) (omega (arith, low)), agree.starts s (suc (rank h u)) (omega (arith, low))) refl

    entry_kept : (u v w : ℕ) → u < n → Entries h s u v w → Entries k s u v w
    entry_kept u v w below (e, at, neighbour, weight) =
        let same = agree.entries s e (place_used n h rules s u below e at) in
        (e, rw (places_same u below) at, ap (λ x. x.neighbour) same ∙ neighbour, ap (λ x. x.weight) same ∙ weight)

    path_kept : {b a w : ℕ} → a < n → Path (Entries h s) b a w → Path (Entries k s) b a w
    path_kept below (stay same none) = stay same none
    path_kept {a = a} below (step c x y e sum p) =
        let higher : c < n = rw e.2 at (place_entry n h rules s a below e.0 e.1).neighbour_below in
        step c x y (entry_kept a c x below e) sum (path_kept higher p)

  pub promise_kept : {ls : List Link} → TableRules n k → Promise n ls h → Promise n ls k
  promise_kept rules promise =
      record {
        rules = rules;
        few = λ s. rw (used_same s) (promise.few s);
        plain_is_link =
            λ s e below plain.
            let used : e < used n (table h s) = rw (used_same s) at below in
            let same = agree.entries s e used in
            rw same (promise.plain_is_link s e used (rw same at plain));
        up_down =
            λ a b w ha hb p.
            let r = promise.up_down a b w ha hb p in
            let up = path_kept promise.rules forward ha r.3 in
            let down = path_kept promise.rules backward hb r.4 in
            (r.0, r.1, r.2, up, down, r.5);
      }

-- the columns of a table have the places
pub record Shape (n : ℕ) (t : Table) : Type 0 where
  pub columns : EquallyLong t
  pub places_for_starts : suc n ≤ length t.starts
  pub end_within : used n t ≤ room t

module _ {n : ℕ} {h k : Hierarchy} (agree : Agree n h k) (rules : TableRules n h) where
  opens_kept : (s : Side) (e : Entry) → e.base < n → Opens n h s e → Opens n k s e
  unfolding table
  opens_kept s e below o =
      let i : entry k.backward e.in_number ≡ entry h.backward e.in_number = agree.entries backward e.in_number o.in_used in
      let j : entry k.forward e.out_number ≡ entry h.forward e.out_number = agree.entries forward e.out_number o.out_used in
      let lower = (used_entry n h rules backward e.in_number o.in_used).base_below in
      rw (i, j)
      (record {
        in_used = rw (used_same agree backward) o.in_used;
        out_used = rw (used_same agree forward) o.out_used;
        one_node = o.one_node;
        lower = rw (agree.ranks _ lower, agree.ranks _ below) o.lower;
        from_tail = o.from_tail;
        to_head = o.to_head;
        sum = o.sum;
      })

  entry_rules_kept : (s : Side) (r : ℕ) (e : Entry) → EntryRules n h s r e → EntryRules n k s r e
  entry_rules_kept s r e x =
      record {
        base_below = x.base_below;
        base_rank = agree.ranks _ x.base_below ∙ x.base_rank;
        neighbour_below = x.neighbour_below;
        neighbour_higher = rw (agree.ranks _ x.neighbour_below) x.neighbour_higher;
        weight_low = x.weight_low;
        weight_high = x.weight_high;
        numbers = elim x.numbers [ inl plain ↦ inl plain | inr opens ↦ inr (opens_kept s e x.base_below opens) ];
      }

  -- the entry at a place of a rank is the same in both
  same : (s : Side) (r : ℕ) → r < n → (e : ℕ) → begin (table k s) r ≤ e → e < begin (table k s) (suc r) →
      (begin (table h s) r ≤ e) × (e < begin (table h s) (suc r)) × (entry (table k s) e ≡ entry (table h s) e)
  unfolding used
  same s r below e low high =
      let from : begin (table h s) r ≤ e = rw (agree.starts s r (omega arith)) at low in
      let to : e < begin (table h s) (suc r) = rw (agree.starts s (suc r) (omega arith)) at high in
      let last = rising (begin (table h s)) n (rules.side_rules s).never_fall (suc r) below in
      (from, to, agree.entries s e (omega (arith, to, last)))

  side_rules_kept : (s : Side) → Shape n (table k s) → SideRules n k s
  side_rules_kept s shape =
      let old = rules.side_rules s in
      record {
        columns = shape.columns;
        places_for_starts = shape.places_for_starts;
        begin_at_0 = agree.starts s 0 (omega arith) ∙ old.begin_at_0;
        never_fall = λ r below. rw (agree.starts s r (omega arith), agree.starts s (suc r) (omega arith)) (old.never_fall r below);
        end_within = shape.end_within;
        entry_rules =
            λ r below e low high.
            let x = same s r below e low high in
            rw x.2 (entry_rules_kept s r (entry (table h s) e) (old.entry_rules r below e x.0 x.1));
      }

  pub rules_kept : n ≤ length k.ranks → ((s : Side) → Shape n (table k s)) → TableRules n k
  rules_kept long shapes =
      record {
        nodes = rules.nodes;
        places_for_ranks = long;
        ranks_below = λ v below. rw (agree.ranks v below) (rules.ranks_below v below);
        ranks_differ = λ u v hu hv same. rules.ranks_differ u v hu hv (rw (agree.ranks u hu, agree.ranks v hv) at same);
        side_rules = λ s. side_rules_kept s (shapes s);
        neighbours_differ =
            λ s r below d e dl dh el eh alike.
            let x = same s r below d dl dh in
            let y = same s r below e el eh in
            rules.neighbours_differ s r below d e x.0 x.1 y.0 y.1 (rw (x.2, y.2) at alike);
      }
