-- "Table rules (20)", and what request 7 adds to them. First as a record to be read beside the paper, then as a test that decides it.
use Rattle.std.specs.Prelude.{◌≡◌, ◌⊎◌, Bool, true, false, ◌&&◌, ◌||◌, map, ℕ, suc, ◌+◌, ◌≤◌, ◌<◌, eqb, ltb, leb, length, take}
use Rattle.rules.specs.Numbers.{max_nodes, max_weight, invalid}
use Rattle.rules.specs.Lists.{TellsApart, all, distinct, range}
use Rattle.rules.specs.Columns.{Table, Entry, Hierarchy, Side, forward, backward, table, entry, rank, begin, places, room, equally_long, EquallyLong}

-- an entry leads from its tail to its head
unfoldable pub tail_of : Side → Entry → ℕ
tail_of forward e = e.base
tail_of backward e = e.neighbour

unfoldable pub head_of : Side → Entry → ℕ
head_of forward e = e.neighbour
head_of backward e = e.base

-- how many entries a table has
unfoldable pub used : ℕ → Table → ℕ
used n t = begin t n

-- no two of the entries from a to b lead to one neighbour
abbrev pub NeighboursDiffer : Table → ℕ → ℕ → Type 0
NeighboursDiffer t a b = TellsApart (λ e. (entry t e).neighbour) a b

module _ (n : ℕ) (h : Hierarchy) where
  -- "both entries of one node of lower rank than the base, with fitting ends and weights summing to its own":
  -- i and o are the backward and the forward entry that e's numbers name
  pub record Fitting (s : Side) (e i o : Entry) : Type 0 where
    pub in_used : e.in_number < used n h.backward
    pub out_used : e.out_number < used n h.forward
    pub one_node : i.base ≡ o.base
    pub lower : rank h i.base < rank h e.base
    pub from_tail : i.neighbour ≡ tail_of s e
    pub to_head : o.neighbour ≡ head_of s e
    pub sum : i.weight + o.weight ≡ e.weight

  abbrev pub Opens : Side → Entry → Type 0
  Opens s e = Fitting s e (entry h.backward e.in_number) (entry h.forward e.out_number)

  -- "each used entry's base has the range's rank, its neighbour a higher one; weight 1 to 2^40; its two numbers both
  -- invalid, or .."
  pub record EntryRules (s : Side) (r : ℕ) (e : Entry) : Type 0 where
    pub base_below : e.base < n
    pub base_rank : rank h e.base ≡ r
    pub neighbour_below : e.neighbour < n
    pub neighbour_higher : r < rank h e.neighbour
    pub weight_low : 1 ≤ e.weight
    pub weight_high : e.weight ≤ max_weight
    pub numbers : ((e.in_number ≡ invalid) × (e.out_number ≡ invalid)) ⊎ Opens s e

  pub record SideRules (s : Side) : Type 0 where
    pub columns : EquallyLong (table h s)
    pub places_for_starts : suc n ≤ length (table h s).starts
    pub begin_at_0 : begin (table h s) 0 ≡ 0
    pub never_fall : (r : ℕ) → r < n → begin (table h s) r ≤ begin (table h s) (suc r)
    pub end_within : used n (table h s) ≤ room (table h s)
    pub entry_rules : (r : ℕ) → r < n → (e : ℕ) → begin (table h s) r ≤ e → e < begin (table h s) (suc r) → EntryRules s r (entry (table h s) e)

  -- request 7, of one table: no two entries of one node lead to one neighbour
  abbrev pub EachDiffers : Side → Type 0
  EachDiffers s = (r : ℕ) → r < n → NeighboursDiffer (table h s) (begin (table h s) r) (begin (table h s) (suc r))

  -- "the first n ranks a permutation": each is below n, and no two are the same
  pub record TableRules : Type 0 where
    pub nodes : n ≤ max_nodes
    pub places_for_ranks : n ≤ length h.ranks
    pub ranks_below : (v : ℕ) → v < n → rank h v < n
    pub ranks_differ : (u v : ℕ) → u < n → v < n → rank h u ≡ rank h v → u ≡ v
    pub side_rules : (s : Side) → SideRules s
    pub neighbours_differ : (s : Side) → EachDiffers s

  -- The test, in the same order.
  unfoldable pub opens_test : Side → Entry → Entry → Entry → Bool
  opens_test s e i o =
      ltb e.in_number (used n h.backward) && ltb e.out_number (used n h.forward) && eqb i.base o.base &&
      ltb (rank h i.base) (rank h e.base) && eqb i.neighbour (tail_of s e) && eqb o.neighbour (head_of s e) &&
      eqb (i.weight + o.weight) e.weight

  unfoldable pub numbers_test : Side → Entry → Bool
  numbers_test s e =
      eqb e.in_number invalid && eqb e.out_number invalid ||
      opens_test s e (entry h.backward e.in_number) (entry h.forward e.out_number)

  unfoldable pub entry_test : Side → ℕ → Entry → Bool
  entry_test s r e =
      ltb e.base n && eqb (rank h e.base) r && ltb e.neighbour n && ltb r (rank h e.neighbour) &&
      leb 1 e.weight && leb e.weight max_weight && numbers_test s e

  -- the columns and the starts
  unfoldable pub shape_test : Side → Bool
  shape_test s =
      equally_long (table h s) && leb (suc n) (length (table h s).starts) && eqb (begin (table h s) 0) 0 &&
      all (λ r. leb (begin (table h s) r) (begin (table h s) (suc r))) (range 0 n) &&
      leb (used n (table h s)) (room (table h s))

  unfoldable pub rank_test : Side → ℕ → Bool
  rank_test s r =
      all (λ e. entry_test s r (entry (table h s) e)) (places (table h s) r) &&
      distinct (map (λ e. (entry (table h s) e).neighbour) (places (table h s) r))

  -- the entries are looked at once their numbers are known to lie within the table
  unfoldable pub side_test : Side → Bool
  side_test s = elim (shape_test s) [ true ↦ all (rank_test s) (range 0 n) | false ↦ false ]

  unfoldable pub ranks_test : Bool
  ranks_test = leb n (length h.ranks) && all (λ v. ltb (rank h v) n) (range 0 n) && distinct (take n h.ranks)

  unfoldable pub table_test : Bool
  table_test = elim (leb n max_nodes) [ true ↦ ranks_test && side_test forward && side_test backward | false ↦ false ]
