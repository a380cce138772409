-- From the first byte to record 4, and the bound of what is written.
use mathlib.Core.List.Memᴰ
use mathlib.Core.List.{List, [], ◌∷◌}
use mathlib.Core.Logic.{inl, inr}
use mathlib.Core.Path.{◌≡◌, sym, ap, ◌∙◌}
use Prim.Native.Nat.{ℕ, suc, ◌≤◌, ◌<◌}
use native.Mathlib.Omega.{arith}
use lib.ListN.{length, get_or, take, drop, length-map}
use borrow.Author.Tests.{lt-ltb}
use Rattle.rules.specs.Numbers.{max_input}
use Rattle.rules.specs.Program.{word_too_long, line, u16_at, bad_record, program}
use Rattle.routes.specs.Records.{AllBytes}
use Rattle.routes.proofs.Records.{records}
use Rattle.records.specs.Kinds.{whole_kind}
use Rattle.records.proofs.Onward.{limit_record, no_gathering, no_first, from_start}
use Rattle.text.specs.Wrote.{Fits, Wrote}
use Rattle.gather.specs.declared.Gathered.{Gathered}
use Rattle.gather.specs.Gathering.{Gathering, Done}
use Rattle.gateway.specs.Answering.{AtLimit, Limits, from_limit}

-- whatever bytes are read, a number of 64 bits holds how much is written
all_bytes : (xs : List ℕ) → ((i : ℕ) → get_or xs i 0 < 256) → AllBytes xs
all_bytes [] each b m = absurd (Memᴰ.not-nil m)
all_bytes (x ∷ xs) each b m =
    elim (Memᴰ.cases_cons m) [
      | inl here ↦ rw here (each 0)
      | inr later ↦ all_bytes xs (λ i. each (suc i)) b later
    ]

pub all_fits : (input : List ℕ) → ((i : ℕ) → get_or input i 0 < 256) → Fits 0 (program input)
all_fits input each = record { fits = omega (arith, records.output_bound input (all_bytes input each)) }

-- too long, or no first record
module _ (input : List ℕ) where
  pub is_too_long : 16384 < length input → program input ≡ line word_too_long
  unfolding program
  is_too_long long = rw (lt-ltb max_input (length input) long, program)

  pub is_bad : (k : ℕ) → k ≡ whole_kind (drop 0 input) → length input ≤ 16384 → (k ≡ 1 → ⊥) → program input ≡ bad_record 0
  is_bad k here low other = from_start input low ∙ no_first input 0 k here other

-- at the record where gathering ends
module _ (input : List ℕ) (g : Gathered) (tails heads weights order : List ℕ) (d : Done input g tails heads weights order) where
  s : Gathering input g tails heads weights order
  s = d.gathered

  -- as many places as were counted
  pub tails_long : g.links ≡ length (take g.links tails)
  tails_long = sym (ap length s.links_in.tails_are ∙ length-map s.ls (λ l. l.tail) ∙ s.links_count)

  pub heads_long : g.links ≡ length (take g.links heads)
  heads_long = sym (ap length s.links_in.heads_are ∙ length-map s.ls (λ l. l.head) ∙ s.links_count)

  pub weights_long : g.links ≡ length (take g.links weights)
  weights_long = sym (ap length s.links_in.weights_are ∙ length-map s.ls (λ l. l.weight) ∙ s.links_count)

  pub order_long : g.orders ≡ length (take g.orders order)
  order_long = sym (ap length s.order_is ∙ s.orders_count)

  module _ (k : ℕ) (here : k ≡ whole_kind (drop g.at input)) where
    ends_badly : (k ≡ 4 → ⊥) → program input ≡ bad_record g.at
    ends_badly four =
        sym s.same
        ∙ no_gathering input g.at k here (u16_at input 3) s.ls s.os
        (λ two none. d.stuck.no_link (sym here ∙ two) (sym s.orders_count ∙ none))
        (λ three. d.stuck.no_order (sym here ∙ three))
        four

    pub bad_fits : (k ≡ 4 → ⊥) → Fits 0 (program input) → Fits 0 (bad_record g.at)
    bad_fits four fits = rw (ends_badly four) at fits

    pub bad_wrote : {out out' : List ℕ} {r : ℕ} → (k ≡ 4 → ⊥) → Wrote out 0 (bad_record g.at) r out' → Wrote out 0 (program input) r out'
    bad_wrote four w = rw (ends_badly four) w

    module _ (four : k ≡ 4) (n : ℕ) (nodes : n ≡ u16_at input 3) (low : length input ≤ 16384) (fits : Fits 0 (program input)) where
      is_limit : program input ≡ from_limit input g.at n s.ls (take g.orders order)
      is_limit =
          rw (nodes, s.order_is)
          (sym s.same ∙ limit_record input g.at k here (u16_at input 3) s.ls s.os four)

      pub at_limit : AtLimit input g.at n (take g.links tails) (take g.links heads) (take g.links weights) (take g.orders order)
      at_limit =
          record {
            ls = s.ls;
            links_in = s.links_in;
            short = low;
            within = s.within;
            fits = rw is_limit at fits;
          }

      pub limit_wrote : {out out' : List ℕ} {r : ℕ} →
          Limits input g.at n (take g.links tails) (take g.links heads) (take g.links weights) (take g.orders order) out r out' → Wrote out 0 (program input) r out'
      unfolding at_limit
      limit_wrote l = rw is_limit (l.wrote at_limit)
