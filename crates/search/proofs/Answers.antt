-- Laws of the answer: at once, or after a run.
use mathlib.Core.Path.{◌≡◌, refl, sym, ap, ◌∙◌}
use mathlib.Core.Bool.{Bool, true, false, ◌||◌}
use Prim.Native.Nat.{ℕ, ◌<◌, ◌≤◌}
use native.Mathlib.Omega.{arith}
use lib.Dec.{leb}
use borrow.Author.Tests.{le-leb, lt-leb}
use Rattle.rules.specs.Search.{Search, run, search_fuel, answer, find_max_weight}
use Rattle.rules.specs.Search as Rules
use Rattle.rules.proofs.Decides.{left_or, right_or}
use Rattle.search.specs.declared.witness_search.WitnessSearch.{WitnessSearch}
use Rattle.search.specs.Labels.{label_at, settled_at}
use Rattle.search.specs.Searching.{World, Lent, Ready}
use Rattle.search.specs.Promises.{Progress, SameStart, found, Asked, Ran, Answered}

abbrev pub moved : WitnessSearch → ℕ → ℕ → WitnessSearch
moved search len settled = record { base = search.base; len = len; settled = settled; avoid = search.avoid }

-- only the count and the heap moved on
pub moved_is : (r r' : WitnessSearch) → SameStart r r' → moved r r'.len r'.settled ≡ r'
moved_is r r' same = λ k. record { base = (sym same.base) k; len = r'.len; settled = r'.settled; avoid = (sym same.avoid) k }

module _ (search : WitnessSearch) {m : Lent} {target sum : ℕ} {w : World} {s : Search}
    (x : Asked m search.base search.len search.settled target sum w s) (limit : ℕ) where
  label_now : s.label target ≡ label_at m.labels search.base target
  label_now = x.ready.searching.labelled.weight target x.inside

  settled_now : s.settled target ≡ settled_at m.labels search.base target
  settled_now = x.ready.searching.labelled.done target x.inside

  abbrev at_once : Bool
  at_once = s.settled target || leb (s.label target) sum

  answered : {m' : Lent} {len settled weight : ℕ} (t : Search) → find_max_weight w.graph search.avoid limit target sum s ≡ answer w.graph search.avoid limit target sum t →
      Ready w m' search.base len settled t → weight ≡ label_at m'.labels search.base target →
      Answered m' search target sum limit (found weight (moved search len settled)) w s
  unfolding answer
  answered t e r h =
      record {
        weight = h ∙ sym (r.searching.labelled.weight target x.inside) ∙ ap (λ (f : Rules.Found). f.weight) (sym e);
        ready = rw e r;
        base = refl;
        avoid = refl;
      }

  now : {weight : ℕ} → at_once ≡ true → weight ≡ label_at m.labels search.base target →
      Answered m search target sum limit (found weight search) w s
  unfolding find_max_weight
  now t h = answered s (rw (t, find_max_weight)) x.ready h

  pub answered_labelled : {weight : ℕ} → weight ≡ label_at m.labels search.base target → weight ≤ sum →
      Answered m search target sum limit (found weight search) w s
  answered_labelled h below = now (right_or (s.settled target) _ (le-leb (s.label target) sum (omega (arith, label_now)))) h

  pub answered_settled : {weight : ℕ} → weight ≡ label_at m.labels search.base target → settled_at m.labels search.base target ≡ true →
      Answered m search target sum limit (found weight search) w s
  answered_settled h on = now (left_or (s.settled target) _ (settled_now ∙ on)) h

  pub answered_run : (r : Progress) {m' : Lent} {before weight : ℕ} → before ≡ label_at m.labels search.base target → sum < before →
      settled_at m.labels search.base target ≡ false → Ran m' search.base search.avoid target sum limit r w s →
      weight ≡ label_at m'.labels search.base target →
      Answered m' search target sum limit (found weight (moved search r.len r.settled)) w s
  unfolding find_max_weight
  answered_run r b above off ran h =
      let t : at_once ≡ false = rw (settled_now ∙ off) (lt-leb (s.label target) sum (omega (arith, label_now, b))) in
      answered (run w.graph search.avoid limit target sum (search_fuel w.graph search.avoid limit target sum s) s)
      (rw (t, find_max_weight)) ran h
