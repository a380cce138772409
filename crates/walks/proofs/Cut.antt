-- Tables cut to their used places agree with what they were cut from, and keep the table rules.
use mathlib.Core.Path.{◌≡◌, refl, sym, ◌∙◌}
use mathlib.Core.List.{List}
use Prim.Native.Nat.{ℕ, suc, ◌≤◌, ◌<◌}
use native.Mathlib.Omega.{arith}
use lib.ListN.{length, take}
use lib.Seq.{get_or-take, length-take-le}
use Rattle.rules.specs.Numbers.{invalid, no_weight}
use Rattle.rules.specs.Columns.{Table, Hierarchy, Side, forward, backward, table, entry, rank, begin, room, EquallyLong}
use Rattle.rules.specs.TableRules.{used, TableRules}
use Rattle.walks.specs.Agreement.{Agree, cut_table, cut}
use Rattle.walks.proofs.Agreement.{Shape, rules_kept}

module _ (n : ℕ) (t : Table) where
  cut_begin : (r : ℕ) → r ≤ n → begin (cut_table n t) r ≡ begin t r
  unfolding begin cut_table
  cut_begin r le = get_or-take (suc n) t.starts r 0 (omega arith)

  cut_entry : (e : ℕ) → e < used n t → entry (cut_table n t) e ≡ entry t e
  unfolding entry cut_table
  cut_entry e below =
      λ i.
      record {
        base = get_or-take (used n t) t.bases e invalid below i;
        neighbour = get_or-take (used n t) t.neighbours e invalid below i;
        weight = get_or-take (used n t) t.weights e no_weight below i;
        in_number = get_or-take (used n t) t.in_numbers e invalid below i;
        out_number = get_or-take (used n t) t.out_numbers e invalid below i;
      }

  cut_used : used n (cut_table n t) ≡ used n t
  unfolding used
  cut_used = cut_begin n (omega arith)

  cut_length : (xs : List ℕ) → used n t ≤ length xs → length (take (used n t) xs) ≡ used n t
  cut_length xs within = length-take-le (used n t) xs within

  cut_shape : EquallyLong t → suc n ≤ length t.starts → used n t ≤ room t → Shape n (cut_table n t)
  unfolding cut_table room
  cut_shape even starts within =
      let bases = cut_length t.bases within in
      record {
        columns =
            record {
              neighbours = cut_length t.neighbours (omega (arith, within, even.neighbours)) ∙ sym bases;
              weights = cut_length t.weights (omega (arith, within, even.weights)) ∙ sym bases;
              in_numbers = cut_length t.in_numbers (omega (arith, within, even.in_numbers)) ∙ sym bases;
              out_numbers = cut_length t.out_numbers (omega (arith, within, even.out_numbers)) ∙ sym bases;
            };
        places_for_starts = omega (arith, length-take-le (suc n) t.starts starts);
        end_within = omega (arith, cut_used, bases);
      }

module _ (n : ℕ) (h : Hierarchy) where
  cut_side : (s : Side) → table (cut n h) s ≡ cut_table n (table h s)
  unfolding cut table
  cut_side forward = refl
  cut_side backward = refl

  pub cut_agrees : Agree n h (cut n h)
  unfolding cut rank
  cut_agrees =
      record {
        ranks = λ v below. get_or-take n h.ranks v invalid below;
        starts = λ s r le. rw (cut_side s) (cut_begin n (table h s) r le);
        entries = λ s e below. rw (cut_side s) (cut_entry n (table h s) e below);
      }

  pub cut_rules : TableRules n h → TableRules n (cut n h)
  unfolding cut
  cut_rules rules =
      rules_kept cut_agrees rules (omega (arith, length-take-le n h.ranks rules.places_for_ranks))
      (λ s.
      let side = rules.side_rules s in
      rw (cut_side s) (cut_shape n (table h s) side.columns side.places_for_starts side.end_within))
