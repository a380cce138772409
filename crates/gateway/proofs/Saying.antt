-- Line after line: what is written so far, and what is left to write.
use mathlib.Core.List.{List, [], ◌++◌, append_assoc}
use mathlib.Core.Path.{◌≡◌, refl, sym, ap, ◌∙◌}
use Prim.Native.Nat.{ℕ, ◌+◌, ◌≤◌, ◌<◌}
use lib.ListN.{length, drop}
use Rattle.rules.specs.Columns.{Hierarchy}
use Rattle.rules.specs.Query.{query}
use Rattle.rules.specs.Program.{u16_at, query_call, answering, answer_line, bad_record}
use Rattle.records.specs.Kinds.{whole_kind}
use Rattle.records.specs.Onward.{onward}
use Rattle.records.proofs.Onward.{query_record, no_query, at_the_end}
use Rattle.text.specs.Wrote.{Fits, Wrote}
use Rattle.text.proofs.Writing.{wrote_none, wrote_both, fits_first, fits_then}

pub record Said (input out₀ : List ℕ) (at₀ end₀ n : ℕ) (h : Hierarchy) (at end : ℕ) (out : List ℕ) : Type 0 where
  pub done : List ℕ
  pub wrote : Wrote out₀ end₀ done end out
  pub same : onward input at₀ (answering n h) ≡ done ++ onward input at (answering n h)
  pub long : length out ≡ length out₀

pub says_nothing : (input out : List ℕ) (at end n : ℕ) (h : Hierarchy) → Said input out at end n h at end out
says_nothing input out at end n h = record { done = []; wrote = wrote_none out end; same = refl; long = refl }

module _ {input out₀ : List ℕ} {at₀ end₀ n : ℕ} {h : Hierarchy} {at end : ℕ} {out : List ℕ} (s : Said input out₀ at₀ end₀ n h at end out) where
  -- what is left fits
  rest_fits : Fits end₀ (onward input at₀ (answering n h)) → Fits end (onward input at (answering n h))
  rest_fits fits = fits_then s.done (onward input at (answering n h)) (rw s.same at fits) s.wrote

  all_said : {r : ℕ} {out' : List ℕ} → Wrote out end (onward input at (answering n h)) r out' → Wrote out₀ end₀ (onward input at₀ (answering n h)) r out'
  all_said w = rw s.same (wrote_both s.done (onward input at (answering n h)) s.wrote w)

  pub ends : length input ≤ at → Wrote out₀ end₀ (onward input at₀ (answering n h)) end out
  ends past = all_said (rw (at_the_end input at n h past) (wrote_none out end))

  module _ (k : ℕ) (here : k ≡ whole_kind (drop at input)) where
    -- no query stands here
    module _ (other : k ≡ 5 → ⊥) (inside : at < length input) where
      pub bad_fits : Fits end₀ (onward input at₀ (answering n h)) → Fits end (bad_record at)
      bad_fits fits = rw (no_query input at k here n h other inside) at (rest_fits fits)

      pub ends_badly : {r : ℕ} {out' : List ℕ} → Wrote out end (bad_record at) r out' → Wrote out₀ end₀ (onward input at₀ (answering n h)) r out'
      ends_badly w = all_said (rw (no_query input at k here n h other inside) w)

    -- a query
    module _ (five : k ≡ 5) where
      abbrev line : List ℕ
      line = answer_line (query (query_call n h (u16_at input (at + 3)) (u16_at input (at + 5))))

      pub line_fits : Fits end₀ (onward input at₀ (answering n h)) → Fits end line
      line_fits fits = fits_first end line (onward input (at + 7) (answering n h)) (rw (query_record input at k here n h five) at (rest_fits fits))

      pub says_more : {r : ℕ} {out' : List ℕ} → Wrote out end line r out' → length out' ≡ length out → Said input out₀ at₀ end₀ n h (at + 7) r out'
      says_more w keeps =
          record {
            done = s.done ++ line;
            wrote = wrote_both s.done line s.wrote w;
            same =
                s.same ∙ ap (λ (l : List ℕ). s.done ++ l) (query_record input at k here n h five)
                ∙ sym (append_assoc s.done line (onward input (at + 7) (answering n h)));
            long = keeps ∙ s.long;
          }
