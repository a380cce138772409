-- What is laid leaves the columns as long as they were, and as even.
use mathlib.Core.Path.{◌≡◌, refl, sym, ◌∙◌}
use mathlib.Core.List.{List, map}
use Prim.Native.Nat.{ℕ, ◌≤◌}
use native.Mathlib.Omega.{arith}
use lib.ListN.{length, length-map}
use Rattle.rules.specs.Lists.{over}
use Rattle.rules.specs.Columns.{Side, Table, EquallyLong, room}
use Rattle.rules.specs.Build.{Level, Raw, raws}
use Rattle.rules.proofs.Prefixes.{over_length}
use Rattle.entries.specs.Laid.{part_of, Even, laid_part, four_over, begun_of}
use Rattle.entries.proofs.Laying.{begun_count}

module _ (s : Side) (ls : List Level) (t : Table) (equal : EquallyLong t) (within : length (raws s ls) ≤ room t) where
  column : (f : Raw → ℕ) (lent : List ℕ) → length lent ≡ room t → length (over lent (map f (raws s ls))) ≡ room t
  column f lent e = over_length lent (map f (raws s ls)) (omega (arith, length-map (raws s ls) f)) ∙ e

  pub laid_long : length (laid_part s ls (part_of t)).entries.bases ≡ room t
  unfolding laid_part four_over room
  laid_long = column (λ r. r.base) t.bases refl

  pub laid_even : Even (laid_part s ls (part_of t)).entries
  unfolding laid_part four_over room
  laid_even =
      let bases = column (λ r. r.base) t.bases refl in
      record {
        neighbours = column (λ r. r.neighbour) t.neighbours equal.neighbours ∙ sym bases;
        weights = column (λ r. r.weight) t.weights equal.weights ∙ sym bases;
        centres = column (λ r. r.centre) t.in_numbers equal.in_numbers ∙ sym bases;
      }

  pub laid_starts : length ls ≤ length t.starts → length (laid_part s ls (part_of t)).starts ≡ length t.starts
  unfolding laid_part
  laid_starts h = over_length t.starts (begun_of s ls) (omega (arith, begun_count s ls))
