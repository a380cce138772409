-- An entry keeps the rules: what the code's tests of its numbers say.
use mathlib.Core.Bool.{Bool, true, false}
use mathlib.Core.List.{List, [], ◌∷◌}
use mathlib.Core.Logic.{◌↔◌, ◌⊎◌, inl, inr}
use mathlib.Core.Path.{◌≡◌, refl, sym, ap, ◌∙◌}
use Prim.Native.Nat.{ℕ, zero, suc, ◌+◌, ◌≤◌, ◌<◌}
use native.Mathlib.Numerals.{add-one}
use native.Mathlib.Omega.{arith}
use native.Mathlib.Decide.{dec_lt}
use lib.ListN.{length, get_or, set, get_or-eq_default}
use Rattle.rules.specs.Numbers.{max_weight, invalid, no_weight}
use Rattle.rules.specs.Lists.{Decides}
use Rattle.rules.specs.Columns.{Table, Entry, Hierarchy, Side, forward, backward, table, entry, rank, begin, room, EquallyLong}
use Rattle.rules.specs.TableRules.{used, tail_of, head_of, Opens, EntryRules}
use Rattle.rules.proofs.Decides.{decides_as, denied}
use Rattle.tables.specs.Lent.{lent, either, sided, read}
use Rattle.tables.specs.Shapes.{Shape, Shaped, Readable, Opening, RankRules, Earlier, RanksRules, EntriesRules}
use Rattle.tables.proofs.Marks.{Marked, none_marked, twice, one_more, mark_more}

-- within a column it does not matter what stands beyond it
pub get_d_any : (xs : List ℕ) (i d k : ℕ) → i < length xs → get_or xs i d ≡ get_or xs i k
get_d_any [] i d k h = absurd (omega arith)
get_d_any (x ∷ xs) zero d k h = refl
get_d_any (x ∷ xs) (suc i) d k h = get_d_any xs i d k (omega arith)

pub entry_read : (n : ℕ) (t : Table) → Shape n t → (e : ℕ) → e < room t → entry t e ≡ read t e
unfolding entry room
entry_read n t shape e h =
    let c = shape.columns in
    let b = get_d_any t.bases e invalid 0 h in
    let m = get_d_any t.neighbours e invalid 0 (omega (arith, c.neighbours)) in
    let w = get_d_any t.weights e no_weight 0 (omega (arith, c.weights)) in
    let i = get_d_any t.in_numbers e invalid 0 (omega (arith, c.in_numbers)) in
    let o = get_d_any t.out_numbers e invalid 0 (omega (arith, c.out_numbers)) in
    λ k. record { base = b k; neighbour = m k; weight = w k; in_number = i k; out_number = o k }

pub readable : (n : ℕ) (t : Table) → Shape n t → Readable n t
unfolding room used begin
readable n t shape =
    record {
      starts = shape.places_for_starts;
      within = shape.end_within;
      neighbours = shape.columns.neighbours;
      weights = shape.columns.weights;
    }

shape_either : {n : ℕ} {own other : Table} (s : Side) → Shape n own → Shape n other → Shape n (either s own other)
shape_either forward a b = a
shape_either backward a b = b

-- The two entries that open an entry of rank r.
module _ (n : ℕ) (ranks : List ℕ) (f b : Table) (shape_f : Shape n f) (shape_b : Shape n b) where
  -- a rank below any number of nodes is a rank that stands in the column
  ranked_of : (v r : ℕ) → get_or ranks v invalid < r → r ≤ 1024 → v < length ranks
  ranked_of v r low few =
      elim (dec_lt v (length ranks)) [
        | yes h ↦ h
        | no h ↦ absurd (omega (arith, get_or-eq_default ranks invalid {n = v} (omega arith)))
      ]

  pub fits : (s : Side) (e : Entry) (r : ℕ) → r ≤ 1024 → rank (lent ranks f b) e.base ≡ r →
      Opening n ranks f b r (tail_of s e) (head_of s e) e.weight e.in_number e.out_number ↔ Opens n (lent ranks f b) s e
  unfolding rank used begin
  fits s e r few is = (
    λ o.
        let i = at_b o.in_used in
        let j = at_f o.out_used in
        record {
          in_used = o.in_used;
          out_used = o.out_used;
          one_node = ap (λ (x : Entry). x.base) i ∙ o.one_node ∙ sym (ap (λ (x : Entry). x.base) j);
          lower = rw (ap (λ (x : Entry). x.base) i, is, get_d_any ranks (get_or b.bases e.in_number 0) invalid 0 o.ranked) o.lower;
          from_tail = ap (λ (x : Entry). x.neighbour) i ∙ o.from_tail;
          to_head = ap (λ (x : Entry). x.neighbour) j ∙ o.to_head;
          sum = rw (ap (λ (x : Entry). x.weight) i, ap (λ (x : Entry). x.weight) j) o.sum;
        },
    λ o.
        let i = at_b o.in_used in
        let j = at_f o.out_used in
        let low : get_or ranks (get_or b.bases e.in_number 0) invalid < r = rw (ap (λ (x : Entry). x.base) i, is) at o.lower in
        let known = ranked_of (get_or b.bases e.in_number 0) r low few in
        record {
          in_used = o.in_used;
          out_used = o.out_used;
          one_node = sym (ap (λ (x : Entry). x.base) i) ∙ o.one_node ∙ ap (λ (x : Entry). x.base) j;
          ranked = known;
          lower = rw (get_d_any ranks (get_or b.bases e.in_number 0) invalid 0 known) at low;
          from_tail = sym (ap (λ (x : Entry). x.neighbour) i) ∙ o.from_tail;
          to_head = sym (ap (λ (x : Entry). x.neighbour) j) ∙ o.to_head;
          sum = rw (ap (λ (x : Entry). x.weight) i, ap (λ (x : Entry). x.weight) j) at o.sum;
        },
  )
    where
      at_b : e.in_number < used n b → entry b e.in_number ≡ read b e.in_number
      at_b h = entry_read n b shape_b e.in_number (omega (arith, shape_b.end_within))

      at_f : e.out_number < used n f → entry f e.out_number ≡ read f e.out_number
      at_f h = entry_read n f shape_f e.out_number (omega (arith, shape_f.end_within))

own_is : (s : Side) (ranks : List ℕ) (own other : Table) → table (sided s ranks own other) s ≡ own
unfolding table
own_is forward ranks own other = refl
own_is backward ranks own other = refl

pub each_within : (t : Table) → EquallyLong t →
    (length t.neighbours ≡ length t.bases) × (length t.weights ≡ length t.bases) ×
    (length t.in_numbers ≡ length t.bases) × (length t.out_numbers ≡ length t.bases)
unfolding room
each_within t even = (even.neighbours, even.weights, even.in_numbers, even.out_numbers)

-- of starts that never fall none is above the last
rising : (f : ℕ → ℕ) (n : ℕ) → ((r : ℕ) → r < n → f r ≤ f (suc r)) → (a : ℕ) → a ≤ n → f a ≤ f n
rising f zero up a le = let same : a ≡ 0 = omega arith in rw same (omega arith)
rising f (suc n) up a le =
    elim (dec_lt a (suc n)) [
      | yes less ↦ omega (arith, rising f n (λ r below. up r (omega arith)) a (omega arith), up n (omega arith))
      | no more ↦ let same : a ≡ suc n = omega arith in rw same (omega arith)
    ]

-- What is known of a rank's entries before e, and of the marks, of which this rank's is k.
module _ (n : ℕ) (h : Hierarchy) (s : Side) (r k begin : ℕ) where
  pub record Passed (e : ℕ) (marks : List ℕ) : Type 0 where
    pub rules : RankRules n h s r begin e
    pub marked : Marked (λ d. (entry (table h s) d).neighbour) k begin e marks

  pub none_passed : (marks : List ℕ) → Earlier k marks → Passed begin marks
  none_passed marks early =
      record {
        rules = record { entry_rules = λ e low high. absurd (omega arith); neighbours_differ = λ d e dl dh el eh same. absurd (omega arith) };
        marked = none_marked (λ d. (entry (table h s) d).neighbour) k begin marks early;
      }

  -- what holds of all before e holds of all before an end that is no further
  pub all_passed : (e end : ℕ) (marks : List ℕ) → Passed e marks → end ≤ e → RankRules n h s r begin end
  all_passed e end marks p done =
      record {
        entry_rules = λ d low high. p.rules.entry_rules d low (omega arith);
        neighbours_differ = λ d c dl dh cl ch same. p.rules.neighbours_differ d c dl (omega arith) cl (omega arith) same;
      }

module _ (n : ℕ) (ranks : List ℕ) (own other : Table) (shaped : Shaped n ranks own other) (s : Side) where
  abbrev h : Hierarchy
  h = sided s ranks own other

  pub rank_is : (v : ℕ) → v < n → rank h v ≡ get_or ranks v 0
  unfolding rank
  rank_is v below = get_d_any ranks v invalid 0 (omega (arith, shaped.places_for_ranks))

  -- what an entry keeps before its two numbers are asked
  pub record Kept (r : ℕ) (e : Entry) : Type 0 where
    pub base_below : e.base < n
    pub base_rank : get_or ranks e.base 0 ≡ r
    pub neighbour_below : e.neighbour < n
    pub neighbour_higher : r < get_or ranks e.neighbour 0
    pub weight_low : 1 ≤ e.weight
    pub weight_high : e.weight ≤ max_weight

  -- a rule that its rank breaks
  pub other_rank : (r : ℕ) (e : Entry) → e.base < n → (get_or ranks e.base 0 ≡ r → ⊥) → EntryRules n h s r e → ⊥
  other_rank r e below differ f = differ (sym (rank_is e.base below) ∙ f.base_rank)

  pub no_higher : (r : ℕ) (e : Entry) → e.neighbour < n → get_or ranks e.neighbour 0 ≤ r → EntryRules n h s r e → ⊥
  no_higher r e below low f = omega (arith, rank_is e.neighbour below, f.neighbour_higher)

  module _ (r : ℕ) (e : Entry) (k : Kept r e) where
    entry_rules : ((e.in_number ≡ invalid) × (e.out_number ≡ invalid)) ⊎ Opens n h s e → EntryRules n h s r e
    entry_rules m =
        record {
          base_below = k.base_below;
          base_rank = rank_is e.base k.base_below ∙ k.base_rank;
          neighbour_below = k.neighbour_below;
          neighbour_higher = rw (rank_is e.neighbour k.neighbour_below) k.neighbour_higher;
          weight_low = k.weight_low;
          weight_high = k.weight_high;
          numbers = m;
        }

    -- a link, or a shortcut
    pub plain : e.in_number ≡ invalid → e.out_number ≡ invalid → EntryRules n h s r e
    plain i o = entry_rules (inl (i, o))

    by_opening : {x : Bool} → ((e.in_number ≡ invalid) × (e.out_number ≡ invalid) → ⊥) → Decides x (Opens n h s e) →
        Decides x (EntryRules n h s r e)
    by_opening not_plain d =
        decides_as d (
          λ o. entry_rules (inr o),
          λ f. elim f.numbers [ inl p ↦ absurd (not_plain p) | inr o ↦ o ],
        )

    -- by the two entries that its numbers name
    pub opened : {x : Bool} → ((e.in_number ≡ invalid) × (e.out_number ≡ invalid) → ⊥) → r < n →
        Decides x (Opening n ranks (either s own other) (either s other own) r (tail_of s e) (head_of s e) e.weight e.in_number e.out_number) →
        Decides x (EntryRules n h s r e)
    opened not_plain below d =
        by_opening not_plain
        (decides_as d
        (fits n ranks (either s own other) (either s other own) (shape_either s shaped.own_shape shaped.other_shape)
        (shape_either s shaped.other_shape shaped.own_shape) s e r (omega (arith, shaped.nodes))
        (rank_is e.base k.base_below ∙ k.base_rank)))

  -- Entry by entry, and rank by rank.
  own_table : table h s ≡ own
  own_table = own_is s ranks own other

  at_own : (e : ℕ) → e < length own.bases → entry (table h s) e ≡ read own e
  unfolding room
  at_own e inside = rw own_table (entry_read n own shaped.own_shape e inside)

  -- y is entry e, as the code reads it
  module _ (r begin end e : ℕ) (y : Entry) (is : y ≡ read own e) {x : Bool} (d : Decides x (EntryRules n h s r y)) (low : begin ≤ e)
      (high : e < end) (within : end ≤ length own.bases) where
    is_own : entry (table h s) e ≡ y
    is_own = at_own e (omega arith) ∙ sym is

    pub fails_here : x ≡ false → RankRules n h s r begin end → ⊥
    fails_here f all = denied d f (rw is_own at (all.entry_rules e low high))

    module _ (t : x ≡ true) where
      pub neighbour_inside : y.neighbour < 1024
      neighbour_inside = omega (arith, (d.0 t).neighbour_below, shaped.nodes)

      neighbour_is : (entry (table h s) e).neighbour ≡ y.neighbour
      neighbour_is = ap (λ (z : Entry). z.neighbour) is_own

      -- the entry's neighbour has this rank's mark, or gets it
      module _ (k : ℕ) (marks : List ℕ) (p : Passed n h s r k begin e marks) where
        pub twin_here : get_or marks y.neighbour 0 ≡ k → RankRules n h s r begin end → ⊥
        twin_here has all =
            twice (λ d. (entry (table h s) d).neighbour) k begin e marks low p.marked end high (rw neighbour_is has)
            all.neighbours_differ

        pub holds_here : (get_or marks y.neighbour 0 ≡ k → ⊥) → Passed n h s r k begin (e + 1) (set marks y.neighbour k)
        holds_here other =
            record {
              rules =
                  record {
                    entry_rules =
                        λ c low' high'.
                        elim (dec_lt c e) [
                          | yes before ↦ p.rules.entry_rules c low' before
                          | no after ↦
                              let same : c ≡ e = omega arith in
                              rw (same, is_own) (d.0 t)
                        ];
                    neighbours_differ =
                        one_more (λ d. (entry (table h s) d).neighbour) k begin e marks low p.marked
                        (λ has. other (rw neighbour_is at has)) p.rules.neighbours_differ;
                  };
              marked =
                  rw neighbour_is at
                  (mark_more (λ d. (entry (table h s) d).neighbour) k begin e marks low p.marked
                  (rw neighbour_is neighbour_inside));
            }

  -- where the code reads that a rank's entries begin and end
  from_is : (r : ℕ) → begin (table h s) r ≡ get_or own.starts r 0
  unfolding begin
  from_is r = rw own_table

  to_is : (r : ℕ) → begin (table h s) (suc r) ≡ get_or own.starts (r + 1) 0
  unfolding begin
  to_is r = rw (own_table, add-one)

  module _ (r : ℕ) (below : r < n) {x : Bool} (d : Decides x (RankRules n h s r (get_or own.starts r 0) (get_or own.starts (r + 1) 0))) where
    pub rank_fails : x ≡ false → EntriesRules n h s → ⊥
    rank_fails f all = denied d f (rw (from_is r, to_is r) at (all r below))

    pub rank_holds : x ≡ true → RanksRules n h s r → RanksRules n h s (r + 1)
    rank_holds t so_far k high =
        elim (dec_lt k r) [
          | yes before ↦ so_far k before
          | no after ↦
              let same : k ≡ r = omega arith in
              rw (same, from_is r, to_is r) (d.0 t)
        ]

  -- the stretch of a rank lies within the columns
  pub stretch_within : (r : ℕ) → r < n → get_or own.starts (r + 1) 0 ≤ length own.bases
  unfolding begin used room
  stretch_within r below =
      rw add-one
      (omega (
        arith,
        rising (begin own) n shaped.own_shape.never_fall (suc r) (omega arith),
        shaped.own_shape.end_within,
      ))

-- the code asks which side it is
module _ (n : ℕ) (ranks : List ℕ) (own other : Table) (shaped : Shaped n ranks own other) (r : ℕ) (e : Entry) {x : Bool}
    (not_plain : (e.in_number ≡ invalid) × (e.out_number ≡ invalid) → ⊥) (below : r < n) where
  pub opened_forward : Kept n ranks own other shaped forward r e →
      Decides x (Opening n ranks own other r e.base e.neighbour e.weight e.in_number e.out_number) →
      Decides x (EntryRules n (sided forward ranks own other) forward r e)
  unfolding tail_of head_of
  opened_forward k d = opened n ranks own other shaped forward r e k not_plain below d

  pub opened_backward : Kept n ranks own other shaped backward r e →
      Decides x (Opening n ranks other own r e.neighbour e.base e.weight e.in_number e.out_number) →
      Decides x (EntryRules n (sided backward ranks own other) backward r e)
  unfolding tail_of head_of
  opened_backward k d = opened n ranks own other shaped backward r e k not_plain below d
