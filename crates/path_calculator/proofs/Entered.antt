-- From labels of earlier queries and the ends to the first round.
use mathlib.Core.List.Memᴰ
use mathlib.Core.List.{List, [], ◌∷◌}
use mathlib.Core.Path.{◌≡◌, refl, sym, ap, ◌∙◌}
use Prim.Native.Nat.{ℕ, zero, suc, ◌+◌, ◌*◌, ◌<◌, ◌≤◌}
use native.Mathlib.Omega.{arith}
use lib.ListN.{length, get_or, drop}
use Rattle.rules.specs.Numbers.{max_ends}
use Rattle.rules.specs.Lists.{In}
use Rattle.rules.specs.Columns.{Hierarchy, opposite, table, begin}
use Rattle.rules.specs.TableRules.{used}
use Rattle.rules.specs.Refusals.{QueryCall}
use Rattle.rules.specs.Query.{Best, untouched, zip_ends, end_list, enter, first_step, rounds, query_fuel, entered, searched}
use Rattle.query_laws.specs.Accepted.{EndRules, EndsRules}
use Rattle.query_laws.proofs.State.{counting_fits}
use Rattle.query_laws.specs.Sound.{Both}
use Rattle.query_laws.proofs.Accepted.{entered_both}
use Rattle.halves.specs.Labels.{Before, half}
use Rattle.halves.specs.Promises.{Entering, Enters}
use Rattle.halves.proofs.Entering.{ends_from, half_untouched}
use Rattle.rounds.specs.Rounds.{halves, Running, Ran}
use Rattle.ends.specs.Given.{end, given, AllSmall, none}
use Rattle.path_calculator.specs.Searching.{call, Searching}

in_drop : {A : Type 0} (k : ℕ) (l : List A) (x : A) → In x (drop k l) → In x l
in_drop zero l x m = m
in_drop (suc k) [] x m = m
in_drop (suc k) (y ∷ l) x m = Memᴰ.tail (in_drop k l x m)

-- The ends of one side.
module _ (n : ℕ) (nodes offsets : List ℕ) (r : EndsRules n (given nodes offsets)) where
  each_end : (k : ℕ) → k < length nodes → EndRules n (end (get_or nodes k 0) (get_or offsets k 0))
  unfolding end_list
  each_end k h =
      r.each (end (get_or nodes k 0) (get_or offsets k 0))
      (in_drop k (zip_ends nodes offsets) _ (rw (ends_from nodes offsets k r.columns h) (Memᴰ.head refl)))

  pub all_small : AllSmall (given nodes offsets)
  all_small = record { even = r.columns; small = λ k h light. counting_fits (each_end k h) light }

  pub entering : (labels heap : List ℕ) (u : ℕ) → 4 * n ≤ length labels → 2 * (u + max_ends) ≤ length heap → Entering nodes offsets labels heap
  entering labels heap u room heap_room =
      record {
        even = r.columns;
        label_room = λ k h. omega (arith, (each_end k h).node_below);
        heap_room = omega (arith, r.few);
      }

  pub entered_half : (labels heap labels' heap' : List ℕ) (len base : ℕ) → Before n base labels → Enters nodes offsets labels heap labels' heap' base len →
      half n base labels' heap' len ≡ enter (end_list (given nodes offsets)) untouched
  unfolding end_list
  entered_half labels heap labels' heap' len base old e =
      e.half_is n (λ k h. (each_end k h).node_below)
      ∙ ap (enter (zip_ends nodes offsets)) (half_untouched n base labels heap old)

module _ (n : ℕ) (h : Hierarchy) (sources so targets to fl bl fh bh : List ℕ) (base : ℕ) (s : Searching n h sources so targets to fl bl fh bh base) where
  abbrev c : QueryCall
  c = call n h sources so targets to s.path s.scratch

  module _ (fl' bl' fh' bh' : List ℕ) (f b : ℕ) (best : Best)
      (enter_f : Enters sources so fl fh fl' fh' base f) (enter_b : Enters targets to bl bh bl' bh' base b)
      (first : best ≡ first_step (zip_ends sources so) (zip_ends targets to) none)
      (lf : length fl' ≡ length fl) (lb : length bl' ≡ length bl) (hf : length fh' ≡ length fh) (hb : length bh' ≡ length bh) where
    at_start : halves n base fl' bl' fh' bh' f b best ≡ entered c
    unfolding entered end_list
    at_start =
        let x = entered_half n sources so s.accepted.sources fl fh fl' fh' f base s.earlier.fwd enter_f in
        let y = entered_half n targets to s.accepted.targets bl bh bl' bh' b base s.earlier.bwd enter_b in
        λ i. record { fwd = x i; bwd = y i; best = first i }

    pub running : Running n h.ranks h.forward.starts h.forward.neighbours h.forward.weights h.backward.starts h.backward.neighbours h.backward.weights
        fl' bl' fh' bh' base f b best (length sources + length targets + get_or h.forward.starts n 0 + get_or h.backward.starts n 0)
    unfolding table used begin opposite
    running =
        record {
          rounding =
              record {
                h = h;
                sources = end_list (given sources so);
                targets = end_list (given targets to);
                rules = s.accepted.rules;
                view =
                    record {
                      ranks_are = refl;
                      starts_are = refl;
                      neighbours_are = refl;
                      weights_are = refl;
                      other_starts = refl;
                      other_neighbours = refl;
                      other_weights = refl;
                    };
                both = both;
                fwd = record { ordered = enter_f.ordered; held = omega (arith, enter_f.most, s.accepted.sources.few, s.fwd_heap, hf) };
                bwd = record { ordered = enter_b.ordered; held = omega (arith, enter_b.most, s.accepted.targets.few, s.bwd_heap, hb) };
                fwd_room = omega (arith, s.accepted.sources.listed, s.accepted.sources.few, s.fwd_heap, hf);
                bwd_room = omega (arith, s.accepted.targets.listed, s.accepted.targets.few, s.bwd_heap, hb);
                fwd_labels = omega (arith, s.fwd_labels, lf);
                bwd_labels = omega (arith, s.bwd_labels, lb);
                stamps = s.stamps;
              };
          enough = omega (arith, both.fwd.room, both.bwd.room, s.accepted.sources.listed, s.accepted.targets.listed);
        }
      where
        both : Both n h (end_list (given sources so)) (end_list (given targets to)) (halves n base fl' bl' fh' bh' f b best)
        both = rw at_start (entered_both c s.accepted)

    module _ (fl'' bl'' fh'' bh'' : List ℕ) (best' : Best)
        (r : Ran n h.ranks h.forward.starts h.forward.neighbours h.forward.weights h.backward.starts h.backward.neighbours h.backward.weights
        fl' bl' fh' bh' base f b best (length sources + length targets + get_or h.forward.starts n 0 + get_or h.backward.starts n 0) fl'' bl'' fh'' bh'' best') where
      pub searched_is : (path scratch : List ℕ) → searched (call n h sources so targets to path scratch) ≡ halves n base fl'' bl'' fh'' bh'' 0 0 best'
      unfolding searched query_fuel used begin running entered
      searched_is path scratch =
          ap (rounds h (length sources + length targets + get_or h.forward.starts n 0 + get_or h.backward.starts n 0)) (sym at_start)
          ∙ r.is running

-- The stamps that a search leaves.
module _ {n : ℕ} {h : Hierarchy} {sources so targets to fl bl fh bh fl' bl' fh' bh' fl'' bl'' fh'' bh'' : List ℕ} {base f b fuel : ℕ} {best best' : Best}
    {ranks fs fm fw bs bm bw : List ℕ} (s : Searching n h sources so targets to fl bl fh bh base) where
  pub fwd_left : Enters sources so fl fh fl' fh' base f → Ran n ranks fs fm fw bs bm bw fl' bl' fh' bh' base f b best fuel fl'' bl'' fh'' bh'' best' →
      Before n (base + 2) fl''
  fwd_left e r = r.fwd_stamps n (e.stamps n (λ v below. omega (arith, s.earlier.fwd v below)))

  pub bwd_left : Enters targets to bl bh bl' bh' base b → Ran n ranks fs fm fw bs bm bw fl' bl' fh' bh' base f b best fuel fl'' bl'' fh'' bh'' best' →
      Before n (base + 2) bl''
  bwd_left e r = r.bwd_stamps n (e.stamps n (λ v below. omega (arith, s.earlier.bwd v below)))
