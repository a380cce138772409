-- The line of a build, and what follows it.
use mathlib.Core.List.{List, ◌++◌}
use mathlib.Core.Path.{◌≡◌, refl}
use Prim.Native.Nat.{ℕ, zero, suc}
use lib.ListN.{get_or}
use Rattle.rules.specs.Columns.{Hierarchy, begin}
use Rattle.rules.specs.TableRules.{used}
use Rattle.rules.specs.Program.{counts_line, built_line, refused_line, answering, after_build, follow}
use Rattle.fast_graph_builder.specs.Promises.{answer}
use Rattle.records.specs.Onward.{onward}
use Rattle.text.specs.Wrote.{Fits, Wrote}
use Rattle.text.proofs.Writing.{wrote_both, fits_first, fits_then}
use Rattle.gateway.specs.Answering.{after}

module _ (input : List ℕ) (at n number : ℕ) (h : Hierarchy) where
  stopped : (number ≡ 0 → ⊥) → after input at n (answer number h) ≡ refused_line number
  unfolding after_build follow
  stopped some = go number some
    where
      go : (k : ℕ) → (k ≡ 0 → ⊥) → after input at n (answer k h) ≡ refused_line k
      go zero more = absurd (more refl)
      go (suc k) more = refl

  went_on : number ≡ 0 → after input at n (answer number h) ≡ counts_line (get_or h.forward.starts n 0) (get_or h.backward.starts n 0) ++ onward input at (answering n h)
  unfolding after_build follow built_line used begin
  went_on none = rw (none, after_build, follow)

  pub stop_fits : (number ≡ 0 → ⊥) → Fits 0 (after input at n (answer number h)) → Fits 0 (refused_line number)
  stop_fits some fits = rw (stopped some) at fits

  pub stop_wrote : {out out' : List ℕ} {r : ℕ} → (number ≡ 0 → ⊥) → Wrote out 0 (refused_line number) r out' → Wrote out 0 (after input at n (answer number h)) r out'
  stop_wrote some w = rw (stopped some) w

  module _ (none : number ≡ 0) where
    abbrev counts : List ℕ
    counts = counts_line (get_or h.forward.starts n 0) (get_or h.backward.starts n 0)

    pub counts_fit : Fits 0 (after input at n (answer number h)) → Fits 0 counts
    counts_fit fits = fits_first 0 counts (onward input at (answering n h)) (rw (went_on none) at fits)

    pub onward_fits : {out out' : List ℕ} {r : ℕ} → Fits 0 (after input at n (answer number h)) → Wrote out 0 counts r out' → Fits r (onward input at (answering n h))
    onward_fits fits w = fits_then counts (onward input at (answering n h)) (rw (went_on none) at fits) w

    pub go_wrote : {out out' out'' : List ℕ} {r e : ℕ} → Wrote out 0 counts r out' → Wrote out' r (onward input at (answering n h)) e out'' →
        Wrote out 0 (after input at n (answer number h)) e out''
    go_wrote a b = rw (went_on none) (wrote_both counts (onward input at (answering n h)) a b)
