-- What a build and a query answer, in each of their three ends, and what every lent place then holds.
use mathlib.Core.Path.{◌≡◌, refl, sym, ◌∙◌, ap, ap₂}
use mathlib.Core.List.{List, ◌++◌, map}
use Prim.Native.Nat.{ℕ, zero, suc, ◌+◌, ◌-◌, ◌≤◌}
use native.Mathlib.Omega.{arith}
use native.Mathlib.Nat.{zero-add}
use lib.ListN.{length, get_or, drop, length-map, length-replicate, get_or-replicate}
use lib.Seq.{get_or-append-add, get_or-drop}
use Rattle.rules.specs.Numbers.{invalid, no_weight}
use Rattle.rules.specs.Lists.{over, filled, range}
use Rattle.rules.specs.Columns.{Table, Entry, Hierarchy, Side, forward, backward, room, marked_table, marked, EquallyLong}
use Rattle.rules.specs.Refusals.{BuildCall, build_refusal}
use Rattle.rules.specs.Build.{Step, went, refused, Level, arcs_of, level_raws, raws, Building, contraction, starts_of, finished, laid, ranks_of, finish_contraction, built, unless_refused, build}
use Rattle.rules.specs.FirstDemand.{Filled, FilledTable, FilledAll, Beyond, BeyondTable, BeyondAll, last_start}
use Rattle.rules.proofs.Prefixes.{prefix, sums_at, sums_length, flat_length, over_at, over_length, range_length}
use Rattle.rules.proofs.Accepted.{accepted_build}
use Rattle.rules.proofs.Ranks.{same_sizes, contraction_levels}
use Rattle.rules.proofs.Numbers.{build_refusal_most, contraction_numbers}

-- The three ends of a build.
pub data Ended (c : BuildCall) : Type 0 where
  early : (r : ℕ) → build_refusal c ≡ r → 1 ≤ r → r ≤ 9 → build c ≡ record { number = r; hierarchy = c.lent } → Ended c
  late : (r : ℕ) → build_refusal c ≡ 0 → contraction c ≡ refused r → 10 ≤ r → r ≤ 12 → build c ≡ record { number = r; hierarchy = marked c.lent } → Ended c
  whole : (b : Building) → build_refusal c ≡ 0 → contraction c ≡ went b → build c ≡ record { number = 0; hierarchy = finish_contraction c b.levels } → Ended c

pub ended : (c : BuildCall) → Ended c
unfolding build unless_refused built
ended c = go (build_refusal c) refl (contraction c) refl
  where
    go : (k : ℕ) → build_refusal c ≡ k → (m : Step Building) → contraction c ≡ m → Ended c
    go zero p (went b) q = whole b p q (ap (unless_refused c) p ∙ ap (built c) q)
    go zero p (refused r) q = let n = contraction_numbers c r q in late r p q n.0 n.1 (ap (unless_refused c) p ∙ ap (built c) q)
    go (suc k) p m q = early (suc k) p (omega arith) (omega (arith, build_refusal_most c)) (ap (unless_refused c) p)

-- Every place set to a mark.
filled_all : (mark : ℕ) (lent : List ℕ) → Filled mark lent (filled mark lent)
unfolding filled
filled_all mark lent =
    record {
      places = length-replicate (length lent) mark;
      each = λ i d h. get_or-replicate (length lent) i mark d (omega (arith, length-replicate (length lent) mark));
    }

filled_table : (t : Table) → FilledTable t (marked_table t)
unfolding marked_table
filled_table t =
    record {
      starts = filled_all invalid t.starts;
      bases = filled_all invalid t.bases;
      neighbours = filled_all invalid t.neighbours;
      weights = filled_all no_weight t.weights;
      in_numbers = filled_all invalid t.in_numbers;
      out_numbers = filled_all invalid t.out_numbers;
    }

pub marked_fills : (h : Hierarchy) → FilledAll h (marked h)
unfolding marked
marked_fills h =
    record { ranks = filled_all invalid h.ranks; forward = filled_table h.forward; backward = filled_table h.backward }

-- Values written over the front leave what is beyond.
pub over_beyond : (lent values : List ℕ) (n : ℕ) → length values ≡ n → n ≤ length lent → Beyond n lent (over lent values)
unfolding over
over_beyond lent values n long fits =
    record {
      places = over_length lent values (omega arith);
      room = fits;
      each =
          λ i d h.
          let at : i ≡ length values + (i - length values) = omega arith in
          ap (λ k. get_or (values ++ drop (length values) lent) k d) at ∙
          get_or-append-add values (drop (length values) lent) (i - length values) d ∙
          get_or-drop (length values) lent (i - length values) d ∙
          ap (λ k. get_or lent k d) (sym at);
    }

-- A table that was laid, for n levels.
module _ (n : ℕ) (s : Side) (ls : List Level) (t : Table) (levels : length ls ≡ n) (starts : suc n ≤ length t.starts) (even : EquallyLong t)
    (fits : length (raws s ls) ≤ room t) where
  starts_long : length (starts_of s ls) ≡ n + 1
  unfolding starts_of
  starts_long = sums_length (map (λ l. length (arcs_of s l)) ls) 0 ∙ omega (arith, length-map ls (λ l. length (arcs_of s l)))

  -- the last start is the number of entries
  last_start_is : last_start n (laid t (starts_of s ls) (finished s ls)) ≡ length (raws s ls)
  unfolding laid starts_of raws
  last_start_is =
      let lengths = map (λ l. length (arcs_of s l)) ls in
      over_at t.starts (starts_of s ls) n 0 (omega (arith, starts_long)) ∙
      sums_at lengths 0 n 0 (omega (arith, length-map ls (λ l. length (arcs_of s l)))) ∙
      zero-add (prefix lengths n) ∙
      ap₂ prefix (sym (same_sizes s ls)) (sym levels) ∙
      sym (flat_length (level_raws s) ls)

  column : (lent : List ℕ) (f : Entry → ℕ) → length lent ≡ room t → Beyond (length (raws s ls)) lent (over lent (map f (finished s ls)))
  unfolding finished
  column lent f long = over_beyond lent (map f (finished s ls)) (length (raws s ls)) (length-map (finished s ls) f ∙ length-map (raws s ls) _) (omega arith)

  pub laid_beyond : BeyondTable n (last_start n (laid t (starts_of s ls) (finished s ls))) t (laid t (starts_of s ls) (finished s ls))
  unfolding laid room
  laid_beyond =
      rw last_start_is
      (record {
        starts = over_beyond t.starts (starts_of s ls) (n + 1) starts_long (omega arith);
        bases = column t.bases (λ e. e.base) refl;
        neighbours = column t.neighbours (λ e. e.neighbour) even.neighbours;
        weights = column t.weights (λ e. e.weight) even.weights;
        in_numbers = column t.in_numbers (λ e. e.in_number) even.in_numbers;
        out_numbers = column t.out_numbers (λ e. e.out_number) even.out_numbers;
      })

-- What a build that was not refused leaves alone.
pub built_beyond : (c : BuildCall) (b : Building) → build_refusal c ≡ 0 → contraction c ≡ went b → BeyondAll c.nodes c.lent (finish_contraction c b.levels)
unfolding finish_contraction ranks_of
built_beyond c b fine e =
    let ok = accepted_build c fine in
    let l = contraction_levels c b e in
    let many = l.0 ∙ ok.order_length in
    record {
      ranks =
          over_beyond c.lent.ranks (ranks_of c.order c.nodes) c.nodes
          (length-map (range 0 c.nodes) _ ∙ range_length 0 c.nodes ∙ omega arith) ok.ranks_room;
      forward = laid_beyond c.nodes forward b.levels c.lent.forward many ok.fwd_starts ok.fwd_columns l.1.fwd;
      backward = laid_beyond c.nodes backward b.levels c.lent.backward many ok.bwd_starts ok.bwd_columns l.1.bwd;
    }
