-- One link or order entry more.
use mathlib.Core.List.{List, [], ◌∷◌, ◌++◌, map, map-append}
use mathlib.Core.Path.{◌≡◌, refl, sym, ap, ◌∙◌}
use Prim.Native.Nat.{ℕ, ◌+◌, ◌≤◌, ◌<◌}
use native.Mathlib.Omega.{arith}
use native.Mathlib.Numerals.{add-one}
use lib.ListN.{length, take, drop, set, length-append}
use lib.Seq.{take-suc-set}
use Rattle.rules.specs.Columns.{Link}
use Rattle.rules.specs.Program.{record_length, u16_at, gathering}
use Rattle.records.specs.Kinds.{whole_kind}
use Rattle.records.specs.Onward.{onward, link_from}
use Rattle.records.proofs.Onward.{first_record, link_record, order_record, whole_within, from_start}
use Rattle.gather.specs.declared.Gathered.{Gathered}
use Rattle.gather.specs.Gathering.{Rooms, Gathering, More, Begun, LinkPut}

abbrev pub state : ℕ → ℕ → ℕ → Gathered
state links orders at = record { links = links; orders = orders; at = at }

column_more : (column : List ℕ) (k x : ℕ) (f : Link → ℕ) (ls : List Link) (l : Link) → k < length column → take k column ≡ map f ls → x ≡ f l →
    take (k + 1) (set column k x) ≡ map f (ls ++ (l ∷ []))
column_more column k x f ls l inside are is =
    ap (λ (j : ℕ). take j (set column k x)) (add-one k) ∙ take-suc-set column k x inside ∙
    rw (are, is, map-append f ls (l ∷ []))

module _ (input : List ℕ) (g : Gathered) (tails heads weights order : List ℕ) (rooms : Rooms input tails heads weights order) (s : Gathering input g tails heads weights order) where
  -- the record that stands here, and that it fits
  module _ (k : ℕ) (here : k ≡ whole_kind (drop g.at input)) where
    -- a link
    module _ (two : k ≡ 2) (none : g.orders ≡ 0) where
      fits : g.at + 11 ≤ length input
      unfolding record_length
      fits = whole_within input g.at k here 10 (ap record_length two)

      pub link_room : (g.links < length tails) × (g.links < length heads) × (g.links < length weights)
      link_room = (
        omega (arith, s.paid, s.within, rooms.small, rooms.tails_room),
        omega (arith, s.paid, s.within, rooms.small, rooms.heads_room),
        omega (arith, s.paid, s.within, rooms.small, rooms.weights_room),
      )

      pub link_more : (tails' heads' weights' : List ℕ) → LinkPut input g.at g.links tails heads weights tails' heads' weights' →
          More input g (state (g.links + 1) 0 (g.at + 11)) tails' heads' weights' order
      link_more tails' heads' weights' p =
          record {
            gathered =
                record {
                  ls = s.ls ++ (link_from input g.at ∷ []);
                  os = [];
                  links_in =
                      record {
                        tails_are = rw p.tail_is (column_more tails g.links _ (λ l. l.tail) s.ls (link_from input g.at) link_room.0 s.links_in.tails_are refl);
                        heads_are = rw p.head_is (column_more heads g.links _ (λ l. l.head) s.ls (link_from input g.at) link_room.1 s.links_in.heads_are refl);
                        weights_are = rw p.weight_is (column_more weights g.links _ (λ l. l.weight) s.ls (link_from input g.at) link_room.2 s.links_in.weights_are refl);
                      };
                  order_is = refl;
                  links_count = length-append s.ls (link_from input g.at ∷ []) ∙ omega (arith, s.links_count);
                  orders_count = refl;
                  same = sym (link_record input g.at k here (u16_at input 3) s.ls two) ∙ ap (λ (os : List ℕ). onward input g.at (gathering (u16_at input 3) s.ls os)) (sym (empty s.os (s.orders_count ∙ none))) ∙ s.same;
                  paid = omega (arith, s.paid, none);
                  within = fits;
                };
            onward_to = omega arith;
            stuck = λ back. absurd (omega (arith, back));
          }
        where
          empty : (l : List ℕ) → length l ≡ 0 → l ≡ []
          empty [] e = refl
          empty (x ∷ l) e = absurd (omega (arith, e))

    -- an order entry
    module _ (three : k ≡ 3) where
      pub order_room : g.orders < length order
      order_room = omega (arith, s.paid, s.within, rooms.small, rooms.order_room)

      pub order_more : (v : ℕ) → v ≡ u16_at input (g.at + 3) → More input g (state g.links (g.orders + 1) (g.at + 5)) tails heads weights (set order g.orders v)
      unfolding record_length
      order_more v is =
          record {
            gathered =
                record {
                  ls = s.ls;
                  os = s.os ++ (u16_at input (g.at + 3) ∷ []);
                  links_in = s.links_in;
                  order_is =
                      ap (λ (j : ℕ). take j (set order g.orders v)) (add-one g.orders) ∙ take-suc-set order g.orders v order_room
                      ∙ rw (s.order_is, is);
                  links_count = s.links_count;
                  orders_count = length-append s.os (u16_at input (g.at + 3) ∷ []) ∙ omega (arith, s.orders_count);
                  same = sym (order_record input g.at k here (u16_at input 3) s.ls s.os three) ∙ s.same;
                  paid = omega (arith, s.paid);
                  within = whole_within input g.at k here 4 (ap record_length three);
                };
            onward_to = omega arith;
            stuck = λ back. absurd (omega (arith, back));
          }

    -- another record, or none
    pub none_more : (k ≡ 2 → g.orders ≡ 0 → ⊥) → (k ≡ 3 → ⊥) → More input g g tails heads weights order
    none_more two three =
        record {
          gathered = s;
          onward_to = omega arith;
          stuck = λ _. record { no_link = λ e. two (here ∙ e); no_order = λ e. three (here ∙ e) };
        }

-- What holds between records; columns keep their lengths.
pub record Going (input tails₀ heads₀ weights₀ order₀ : List ℕ) (g : Gathered) (tails heads weights order : List ℕ) : Type 0 where
  pub gathered : Gathering input g tails heads weights order
  pub tails_long : length tails ≡ length tails₀
  pub heads_long : length heads ≡ length heads₀
  pub weights_long : length weights ≡ length weights₀
  pub order_long : length order ≡ length order₀

module _ (input tails₀ heads₀ weights₀ order₀ : List ℕ) (rooms : Rooms input tails₀ heads₀ weights₀ order₀) where
  pub begins : Begun input → Going input tails₀ heads₀ weights₀ order₀ (state 0 0 5) tails₀ heads₀ weights₀ order₀
  unfolding record_length
  begins b =
      record {
        gathered =
            record {
              ls = [];
              os = [];
              links_in = record { tails_are = refl; heads_are = refl; weights_are = refl };
              order_is = refl;
              links_count = refl;
              orders_count = refl;
              same = sym (first_record input 0 1 b.first refl) ∙ sym (from_start input rooms.small);
              paid = omega arith;
              within = whole_within input 0 1 b.first 4 refl;
            };
        tails_long = refl;
        heads_long = refl;
        weights_long = refl;
        order_long = refl;
      }
