-- What the table rules say of a used entry, and of the entries of a node.
use mathlib.Core.Path.{◌≡◌}
use Prim.Native.Nat.{ℕ, zero, suc, ◌-◌, ◌≤◌, ◌<◌}
use native.Mathlib.Omega.{arith}
use native.Mathlib.Decide.{dec_lt, ℕ_discrete}
use lib.ListN.{length}
use Rattle.rules.specs.Lists.{In}
use Rattle.rules.specs.Columns.{Table, Hierarchy, Side, table, entry, rank, begin, places}
use Rattle.rules.specs.TableRules.{used, EntryRules, SideRules, TableRules}
use Rattle.rules.proofs.Prefixes.{range_in, in_range, range_length}

-- of the numbers below the last of rising starts, each lies between two of them
stands_between : (f : ℕ → ℕ) (n : ℕ) → f 0 ≡ 0 → (e : ℕ) → e < f n → (r : ℕ) × (r < n) × (f r ≤ e) × (e < f (suc r))
stands_between f zero first e below = absurd (omega arith)
stands_between f (suc n) first e below =
    elim (dec_lt e (f n)) [
      | yes early ↦ let r = stands_between f n first e early in (r.0, omega (arith, r.1), r.2, r.3)
      | no late ↦ (n, omega arith, omega arith, below)
    ]

pub rising : (f : ℕ → ℕ) (n : ℕ) → ((r : ℕ) → r < n → f r ≤ f (suc r)) → (a : ℕ) → a ≤ n → f a ≤ f n
rising f zero up a le = let same : a ≡ 0 = omega arith in rw same (omega arith)
rising f (suc n) up a le =
    elim (ℕ_discrete a (suc n)) [
      | yes same ↦ rw same (omega arith)
      | no other ↦ omega (arith, rising f n (λ r below. up r (omega arith)) a (omega arith), up n (omega arith))
    ]

module _ (n : ℕ) (h : Hierarchy) (rules : TableRules n h) (s : Side) where
  side_of_rules : SideRules n h s
  side_of_rules = rules.side_rules s

  pub used_entry : (e : ℕ) → e < used n (table h s) → EntryRules n h s (rank h (entry (table h s) e).base) (entry (table h s) e)
  unfolding used
  used_entry e below =
      let r = stands_between (begin (table h s)) n side_of_rules.begin_at_0 e below in
      let x = side_of_rules.entry_rules r.0 r.1 e r.2 r.3 in
      rw x.base_rank x

  pub place_entry : (v : ℕ) → v < n → (e : ℕ) → In e (places (table h s) (rank h v)) → EntryRules n h s (rank h v) (entry (table h s) e)
  unfolding places
  place_entry v below e m =
      let r = in_range (begin (table h s) (rank h v)) (begin (table h s) (suc (rank h v))) e m in
      side_of_rules.entry_rules (rank h v) (rules.ranks_below v below) e r.0 r.1

  pub place_base : (v : ℕ) → v < n → (e : ℕ) → In e (places (table h s) (rank h v)) → (entry (table h s) e).base ≡ v
  place_base v below e m =
      let x = place_entry v below e m in
      rules.ranks_differ (entry (table h s) e).base v x.base_below below x.base_rank

  pub places_within : (v : ℕ) → v < n →
      (begin (table h s) (rank h v) ≤ begin (table h s) (suc (rank h v))) × (begin (table h s) (suc (rank h v)) ≤ used n (table h s))
  unfolding used
  places_within v below = (
    side_of_rules.never_fall (rank h v) (rules.ranks_below v below),
    rising (begin (table h s)) n side_of_rules.never_fall (suc (rank h v)) (rules.ranks_below v below),
  )

  pub place_used : (v : ℕ) → v < n → (e : ℕ) → In e (places (table h s) (rank h v)) → e < used n (table h s)
  unfolding places
  place_used v below e m =
      let r = in_range (begin (table h s) (rank h v)) (begin (table h s) (suc (rank h v))) e m in
      omega (arith, r.1, (places_within v below).1)

pub in_places : (t : Table) (r e : ℕ) → begin t r ≤ e → e < begin t (suc r) → In e (places t r)
unfolding places
in_places t r e low high = range_in (begin t r) (begin t (suc r)) e low high

pub places_length : (t : Table) (r : ℕ) → length (places t r) ≡ begin t (suc r) - begin t r
unfolding places
places_length t r = range_length (begin t r) (begin t (suc r))
