-- The tables of a build: what each place holds, and that the table rules hold.
use mathlib.Core.Path.{◌≡◌, refl, sym, ◌∙◌, ap, ap₂, subst}
use mathlib.Core.Logic.{inl, inr}
use mathlib.Core.Bool.{Bool, true, ◌&&◌}
use mathlib.Core.List.Memᴰ
use mathlib.Core.List.{List, [], map, append-nil}
use Prim.Native.Nat.{ℕ, suc, ◌+◌, ◌-◌, ◌≤◌, ◌<◌, zero-le}
use native.Mathlib.Omega.{arith}
use native.Mathlib.Nat.{zero-add, add-sub_of_le}
use lib.Dec.{eqb}
use lib.ListN.{length, get_or, length-map}
use borrow.Author.Tests.{eqb-true, eq-eqb, ne_eqb}
use Rattle.rules.specs.Numbers.{max_link_weight, invalid, no_weight}
use Rattle.rules.specs.Lists.{In, distinct, position, over, range}
use Rattle.rules.specs.Columns.{Link, link_list, Table, Entry, Hierarchy, Side, forward, backward, table, entry, rank, begin, room, EquallyLong}
use Rattle.rules.specs.TableRules.{tail_of, head_of, used, NeighboursDiffer, Opens, EntryRules, SideRules, TableRules}
use Rattle.rules.specs.Refusals.{BuildCall}
use Rattle.rules.specs.Graph.{Arc, Apart}
use Rattle.rules.specs.Build.{Level, Raw, arcs_of, neighbour_of, raw, level_raws, raws, Building, place, open_entry, finish, running_sums, starts_of, laid, finished, ranks_of, finish_contraction}
use Rattle.rules.proofs.Decides.{and_both, both_and}
use Rattle.rules.proofs.Ranges.{Differ, distinct_decides}
use Rattle.rules.proofs.Cases.{on_test}
use Rattle.rules.proofs.Members.{get_d_in, in_get_d, in_map, map_in}
use Rattle.rules.proofs.Positions.{position_below, position_passes, position_first, position_is, same_position}
use Rattle.rules.proofs.Prefixes.{prefix, prefix_next, prefix_most, sums_at, sums_length, sizes, flat_length, flat_at, in_flat, flat_in, over_at, over_length, map_at, range_length, range_at}
use Rattle.rules.proofs.Ranks.{level_size, same_sizes}
use Rattle.rules.specs.Accepted.{AcceptedBuild}
use Rattle.build_laws.specs.Runs.{rank_of, Opened, LevelOk, own_end}
use Rattle.build_laws.proofs.Levels.{apart_same}
use Rattle.build_laws.proofs.Room.{codes_distinct}
use Rattle.build_laws.proofs.Starts.{Contracted, ranked}

-- nothing, where a list is asked beyond its end
pub no_arc : Arc
no_arc = record { tail = 0; head = 0; weight = 0; centre = 0 }

pub no_raw : Raw
no_raw = record { base = 0; neighbour = 0; weight = 0; centre = 0 }

pub no_level : Level
no_level = record { node = 0; outs = []; ins = [] }

pub no_entry : Entry
no_entry = record { base = 0; neighbour = 0; weight = 0; in_number = 0; out_number = 0 }

-- an entry of a table that was laid
pub laid_entry : (lent : Table) (starts : List ℕ) (es : List Entry) (e : ℕ) (z : Entry) → e < length es → entry (laid lent starts es) e ≡ get_or es e z
unfolding entry laid
laid_entry lent starts es e z h =
    λ i.
    record {
      base = col lent.bases (λ x. x.base) invalid i;
      neighbour = col lent.neighbours (λ x. x.neighbour) invalid i;
      weight = col lent.weights (λ x. x.weight) no_weight i;
      in_number = col lent.in_numbers (λ x. x.in_number) invalid i;
      out_number = col lent.out_numbers (λ x. x.out_number) invalid i;
    }
  where
    col : (column : List ℕ) (f : Entry → ℕ) (d : ℕ) → get_or (over column (map f es)) e d ≡ f (get_or es e z)
    col column f d = over_at column (map f es) e d (rw (length-map es f) h) ∙ map_at f es e z d h

-- the ends of an arc, by side
pub ends_by_side : (s : Side) (x y : Arc) → own_end s x ≡ own_end s y → neighbour_of s x ≡ neighbour_of s y → (x.tail ≡ y.tail) × (x.head ≡ y.head)
unfolding own_end neighbour_of
ends_by_side forward x y p q = (p, q)
ends_by_side backward x y p q = (q, p)

-- arcs of one end in common have no neighbour twice
pub neighbours_distinct : (s : Side) (v : ℕ) (xs : List Arc) → Apart xs → ((x : Arc) → In x xs → own_end s x ≡ v) → distinct (map (neighbour_of s) xs) ≡ true
neighbours_distinct s v xs a own =
    codes_distinct (neighbour_of s) xs a (λ x y mx my same. ends_by_side s x y (own x mx ∙ sym (own y my)) same)

-- what rule 5 leaves as it was
pub record Kept (r : Raw) (e : Entry) : Type 0 where
  pub base : e.base ≡ r.base
  pub neighbour : e.neighbour ≡ r.neighbour
  pub weight : e.weight ≡ r.weight

pub finish_keeps : (fwd bwd : List Raw) (s : Side) (r : Raw) → Kept r (finish fwd bwd s r)
unfolding finish open_entry
finish_keeps fwd bwd s r =
    on_test (eqb r.centre invalid)
    (λ t. rw (t, finish) (record { base = refl; neighbour = refl; weight = refl }))
    (λ t. rw (t, finish) (record { base = refl; neighbour = refl; weight = refl }))

pub finish_plain : (fwd bwd : List Raw) (s : Side) (r : Raw) → r.centre ≡ invalid → ((finish fwd bwd s r).in_number ≡ invalid) × ((finish fwd bwd s r).out_number ≡ invalid)
unfolding finish open_entry
finish_plain fwd bwd s r e = rw (eq-eqb r.centre invalid e, finish) (refl, refl)

pub finish_open : (fwd bwd : List Raw) (s : Side) (r : Raw) → (r.centre ≡ invalid → ⊥) →
    ((finish fwd bwd s r).in_number ≡ place bwd r.centre (tail_of s (finish fwd bwd s r))) ×
    ((finish fwd bwd s r).out_number ≡ place fwd r.centre (head_of s (finish fwd bwd s r)))
unfolding finish open_entry tail_of head_of
finish_open fwd bwd forward r e = rw (ne_eqb r.centre invalid e, finish) (refl, refl)
finish_open fwd bwd backward r e = rw (ne_eqb r.centre invalid e, finish) (refl, refl)

-- the ends of an entry are those of its arc
pub entry_ends : (s : Side) (v : ℕ) (x : Arc) (e : Entry) → own_end s x ≡ v → Kept (raw s v x) e → (tail_of s e ≡ x.tail) × (head_of s e ≡ x.head)
unfolding own_end raw neighbour_of tail_of head_of
entry_ends forward v x e own k = (k.base ∙ sym own, k.neighbour)
entry_ends backward v x e own k = (k.neighbour, k.base ∙ sym own)

pub ranks_length : (order : List ℕ) (n : ℕ) → length (ranks_of order n) ≡ n
unfolding ranks_of
ranks_length order n = length-map (range 0 n) _ ∙ range_length 0 n ∙ omega arith

pub ranks_at : (order : List ℕ) (n v d : ℕ) → v < n → get_or (ranks_of order n) v d ≡ position (eqb v) order
unfolding ranks_of
ranks_at order n v d h =
    map_at (λ v. position (eqb v) order) (range 0 n) v 0 d (rw (range_length 0 n) (omega arith)) ∙
    ap (λ u. position (eqb u) order) (range_at 0 n v 0 (omega arith) ∙ zero-add v)

-- a table's columns stay as long as they were lent
laid_columns : (lent : Table) (starts : List ℕ) (es : List Entry) → EquallyLong lent → length es ≤ room lent → EquallyLong (laid lent starts es) × (room (laid lent starts es) ≡ room lent)
unfolding laid room
laid_columns lent starts es k h =
    let bases = col lent.bases (λ x. x.base) refl in (
      record {
        neighbours = col lent.neighbours (λ x. x.neighbour) k.neighbours ∙ sym bases;
        weights = col lent.weights (λ x. x.weight) k.weights ∙ sym bases;
        in_numbers = col lent.in_numbers (λ x. x.in_number) k.in_numbers ∙ sym bases;
        out_numbers = col lent.out_numbers (λ x. x.out_number) k.out_numbers ∙ sym bases;
      },
      bases,
    )
  where
    col : (column : List ℕ) (f : Entry → ℕ) → length column ≡ room lent → length (over column (map f es)) ≡ room lent
    col column f e = over_length column (map f es) (omega (arith, length-map es f)) ∙ e

-- an entry for each arc
module _ (c : BuildCall) (ok : AcceptedBuild c) (small : (w : ℕ) → In w c.links.weights → w ≤ max_link_weight)
    (b : Building) (done : Contracted c ok small b) where
  abbrev pub links : List Link
  links = link_list c.links

  abbrev pub L : List Level
  L = b.levels

  abbrev pub built_tables : Hierarchy
  built_tables = finish_contraction c L

  differ : Differ c.order 0
  differ = (distinct_decides c.order 0).0 ok.order_distinct

  nodes_order : map (λ l. l.node) L ≡ c.order
  nodes_order = sym (append-nil (map (λ l. l.node) L)) ∙ done.run.nodes

  pub level_count : length L ≡ c.nodes
  level_count = sym (length-map L (λ l. l.node)) ∙ ap length nodes_order ∙ ok.order_length

  pub level_is : (l : Level) → In l L → LevelOk c.order links L l
  level_is = done.run.levels

  starts_is : (s : Side) (lent : List ℕ) (r : ℕ) → r ≤ c.nodes → get_or (over lent (starts_of s L)) r 0 ≡ prefix (sizes (level_raws s) L) r
  unfolding starts_of
  starts_is s lent r h =
      let arcs = map (λ l. length (arcs_of s l)) L in
      let long : length arcs ≡ c.nodes = length-map L _ ∙ level_count in
      over_at lent (running_sums 0 arcs) r 0 (omega (arith, sums_length arcs 0, long)) ∙
      sums_at arcs 0 r 0 (omega (arith, long)) ∙ zero-add (prefix arcs r) ∙ ap (λ xs. prefix xs r) (sym (same_sizes s L))

  -- a level, by the place of its node in the order
  pub level_at : (r : ℕ) → r < c.nodes → ((get_or L r no_level).node ≡ get_or c.order r 0) × In (get_or L r no_level) L
  level_at r h =
      let short : r < length L = omega (arith, level_count) in (
        sym (map_at (λ l. l.node) L r no_level 0 short) ∙ ap (λ xs. get_or xs r 0) nodes_order,
        get_d_in L r no_level short,
      )

  -- the rank of a node is its place in the order
  pub rank_is : (v : ℕ) → v < c.nodes → rank built_tables v ≡ rank_of c.order v
  unfolding rank finish_contraction
  rank_is v h = over_at c.lent.ranks (ranks_of c.order c.nodes) v invalid (rw (ranks_length c.order c.nodes) h) ∙ ranks_at c.order c.nodes v invalid h

  pub rank_at : (r : ℕ) → r < c.nodes → rank_of c.order (get_or c.order r 0) ≡ r
  rank_at r h =
      let inside : r < length c.order = omega (arith, ok.order_length) in
      let first = position_first (eqb (get_or c.order r 0)) c.order r 0 inside (eq-eqb (get_or c.order r 0) _ refl) in
      differ _ r (omega arith) inside (position_is c.order (get_or c.order r 0) 0 (omega arith))

  -- a node in the order is below the count
  pub ranked_below : (v : ℕ) → rank_of c.order v < length c.order → v < c.nodes
  ranked_below v h =
      ok.order_below v (Memᴰ.cast (sym (position_is c.order v 0 h)) (get_d_in c.order (rank_of c.order v) 0 h))

  -- two levels of one node are one
  one_level : (l k : Level) → In l L → In k L → l.node ≡ k.node → l ≡ k
  one_level l k ml mk same =
      let i = in_get_d l L no_level ml in
      let j = in_get_d k L no_level mk in
      let li = level_at i.0 (omega (arith, level_count, i.1)) in
      let lj = level_at j.0 (omega (arith, level_count, j.1)) in
      let meet : i.0 ≡ j.0 =
      differ i.0 j.0 (omega (arith, level_count, ok.order_length, i.1)) (omega (arith, level_count, ok.order_length, j.1))
      (sym li.0 ∙ ap (λ x. x.node) i.2 ∙ same ∙ sym (ap (λ x. x.node) j.2) ∙ lj.0)
      in
      sym i.2 ∙ ap (λ r. get_or L r no_level) meet ∙ j.2

  -- where the entries of a rank begin
  abbrev pub starts_at : Side → ℕ → ℕ
  starts_at s r = prefix (sizes (level_raws s) L) r

  pub begin_is : (s : Side) (r : ℕ) → r ≤ c.nodes → begin (table built_tables s) r ≡ starts_at s r
  unfolding begin table finish_contraction laid
  begin_is forward r h = starts_is forward c.lent.forward.starts r h
  begin_is backward r h = starts_is backward c.lent.backward.starts r h

  abbrev pub entry_count : Side → ℕ
  entry_count s = length (raws s L)

  pub used_is : (s : Side) → used c.nodes (table built_tables s) ≡ entry_count s
  unfolding used raws
  used_is s =
      begin_is s c.nodes (omega arith) ∙ ap (λ n. prefix (sizes (level_raws s) L) n) (sym level_count) ∙
      sym (flat_length (level_raws s) L)

  -- the entries as rule 5 leaves them
  pub entry_is : (s : Side) (e : ℕ) → e < entry_count s → entry (table built_tables s) e ≡ finish (raws forward L) (raws backward L) s (get_or (raws s L) e no_raw)
  unfolding table finish_contraction finished
  entry_is forward e h =
      laid_entry c.lent.forward (starts_of forward L) (finished forward L) e no_entry (rw (length-map (raws forward L) _) h) ∙
      map_at _ (raws forward L) e no_raw no_entry h
  entry_is backward e h =
      laid_entry c.lent.backward (starts_of backward L) (finished backward L) e no_entry (rw (length-map (raws backward L) _) h) ∙
      map_at _ (raws backward L) e no_raw no_entry h

  -- the next rank's start
  pub starts_next : (s : Side) (r : ℕ) → r < c.nodes → starts_at s (suc r) ≡ starts_at s r + length (arcs_of s (get_or L r no_level))
  starts_next s r h =
      let inside : r < length L = omega (arith, level_count) in
      prefix_next (sizes (level_raws s) L) r 0 (rw (length-map L (λ l. length (level_raws s l))) inside) ∙
      ap (λ n. starts_at s r + n) (map_at (λ l. length (level_raws s l)) L r no_level 0 inside ∙ level_size s (get_or L r no_level))

  -- An entry of rank r is an arc of that level.
  pub raw_at : (s : Side) (r i : ℕ) → r < c.nodes → i < length (arcs_of s (get_or L r no_level)) →
      get_or (raws s L) (starts_at s r + i) no_raw ≡ raw s (get_or L r no_level).node (get_or (arcs_of s (get_or L r no_level)) i no_arc)
  unfolding raws level_raws
  raw_at s r i h k =
      flat_at (level_raws s) L r i no_level no_raw (omega (arith, level_count)) (rw (length-map (arcs_of s (get_or L r no_level)) _) k) ∙
      map_at (raw s (get_or L r no_level).node) (arcs_of s (get_or L r no_level)) i no_arc no_raw k

  -- an entry is told by its base and neighbour
  one_arc : (s : Side) (k l : Level) → In k L → In l L → (z y : Arc) → In z (arcs_of s k) → In y (arcs_of s l) →
      k.node ≡ l.node → neighbour_of s z ≡ neighbour_of s y → raw s k.node z ≡ raw s l.node y
  one_arc s k l mk ml z y mz my node nb =
      let m : In z (arcs_of s l) = subst (λ x. In z (arcs_of s x)) (one_level k l mk ml node) mz in
      let ends = ends_by_side s z y ((level_is l ml).own s z m ∙ sym ((level_is l ml).own s y my)) nb in
      ap₂ (λ v x. raw s v x) node (apart_same (arcs_of s l) ((level_is l ml).apart s) z y m my ends.0 ends.1)

  one_raw : (s : Side) (r : Raw) → In r (raws s L) → (l : Level) → In l L → (y : Arc) → In y (arcs_of s l) →
      r.base ≡ l.node → r.neighbour ≡ neighbour_of s y → r ≡ raw s l.node y
  unfolding raws level_raws raw
  one_raw s r m l ml y my base nb =
      let from = in_flat (level_raws s) r L m in
      let arc = in_map (raw s from.0.node) r (arcs_of s from.0) from.2 in
      arc.2 ∙
      one_arc s from.0 l from.1 ml arc.0 y arc.1 my (sym (ap (λ x. x.base) arc.2) ∙ base)
      (sym (ap (λ x. x.neighbour) arc.2) ∙ nb)

  -- Rule 5's lookup finds the arc.
  pub found : (s : Side) (l : Level) → In l L → (y : Arc) → In y (arcs_of s l) →
      (place (raws s L) l.node (neighbour_of s y) < entry_count s) ×
      (get_or (raws s L) (place (raws s L) l.node (neighbour_of s y)) no_raw ≡ raw s l.node y)
  unfolding place raws level_raws raw
  found s l ml y my =
      let test : Raw → Bool = λ r. eqb r.base l.node && eqb r.neighbour (neighbour_of s y) in
      let there : In (raw s l.node y) (raws s L) =
      flat_in (level_raws s) (raw s l.node y) L l ml (map_in (raw s l.node) y (arcs_of s l) my)
      in
      let below = position_below test (raws s L) (raw s l.node y) there (both_and _ _ (eq-eqb l.node _ refl) (eq-eqb (neighbour_of s y) _ refl)) in
      let passes = and_both _ _ (position_passes test (raws s L) no_raw below) in (
        below,
        one_raw s _ (get_d_in (raws s L) (position test (raws s L)) no_raw below) l ml y my (eqb-true _ _ passes.0)
            (eqb-true _ _ passes.1),
      )

  abbrev pub n : ℕ
  n = c.nodes

  abbrev pub h : Hierarchy
  h = built_tables

  abbrev pub opened : Side → Raw → Entry
  opened s r = finish (raws forward L) (raws backward L) s r

  -- the entry of an arc that a level holds
  pub found_entry : (s : Side) (l : Level) → In l L → (y : Arc) → In y (arcs_of s l) →
      (place (raws s L) l.node (neighbour_of s y) < used n (table h s)) ×
      Kept (raw s l.node y) (entry (table h s) (place (raws s L) l.node (neighbour_of s y)))
  found_entry s l ml y my =
      let f = found s l ml y my in (
        rw (used_is s) f.0,
        rw (entry_is s _ f.0, f.1) (finish_keeps (raws forward L) (raws backward L) s (raw s l.node y)),
      )

  pub node_below : (l : Level) → In l L → l.node < n
  node_below l ml = ranked_below l.node (level_is l ml).node_in

  -- an arc with a centre opens into two entries of its centre's level
  pub opens : (s : Side) (l : Level) → In l L → (x : Arc) → In x (arcs_of s l) →
      Opened c.order L (rank_of c.order l.node) x → Opens n h s (opened s (raw s l.node x))
  unfolding raw neighbour_of table arcs_of
  opens s l ml x mx o =
      let e = opened s (raw s l.node x) in
      let kept = finish_keeps (raws forward L) (raws backward L) s (raw s l.node x) in
      let ends = entry_ends s l.node x e ((level_is l ml).own s x mx) kept in
      let off : x.centre ≡ invalid → ⊥ = λ z. absurd (omega (arith, node_below o.level o.written, o.node, z, ok.nodes)) in
      let numbers = finish_open (raws forward L) (raws backward L) s (raw s l.node x) off in
      let i = found_entry backward o.level o.written o.into o.into_in in
      let j = found_entry forward o.level o.written o.out o.out_in in
      let at_in : e.in_number ≡ place (raws backward L) o.level.node o.into.tail =
      numbers.0 ∙ ap₂ (λ v u. place (raws backward L) v u) (sym o.node) (ends.0 ∙ sym o.into_tail)
      in
      let at_out : e.out_number ≡ place (raws forward L) o.level.node o.out.head =
      numbers.1 ∙ ap₂ (λ v u. place (raws forward L) v u) (sym o.node) (ends.1 ∙ sym o.out_head)
      in
      let I = ap (entry h.backward) at_in in
      let J = ap (entry h.forward) at_out in
      let base_in = ap (λ x. x.base) I ∙ i.1.base in
      let base_out = ap (λ x. x.base) J ∙ j.1.base in
      record {
        in_used = rw at_in i.0;
        out_used = rw at_out j.0;
        one_node = base_in ∙ sym base_out;
        lower =
            omega (
              arith,
              ap (rank h) base_in ∙ rank_is o.level.node (node_below o.level o.written),
              ap (rank h) kept.base ∙ rank_is l.node (node_below l ml),
              o.lower,
            );
        from_tail = ap (λ x. x.neighbour) I ∙ i.1.neighbour ∙ o.into_tail ∙ sym ends.0;
        to_head = ap (λ x. x.neighbour) J ∙ j.1.neighbour ∙ o.out_head ∙ sym ends.1;
        sum = ap₂ (λ x y. x + y) (ap (λ x. x.weight) I ∙ i.1.weight) (ap (λ x. x.weight) J ∙ j.1.weight) ∙ o.sum ∙ sym kept.weight;
      }

  -- the entry of every arc of a level is as the table rules ask
  arc_rules : (s : Side) (l : Level) → In l L → (x : Arc) → In x (arcs_of s l) →
      EntryRules n h s (rank_of c.order l.node) (opened s (raw s l.node x))
  unfolding raw
  arc_rules s l ml x mx =
      let kept = finish_keeps (raws forward L) (raws backward L) s (raw s l.node x) in
      let arc = (level_is l ml).arcs s x mx in
      let up = (level_is l ml).higher s x mx in
      let nb = ranked_below (neighbour_of s x) up.1 in
      record {
        base_below = rw kept.base (node_below l ml);
        base_rank = ap (rank h) kept.base ∙ rank_is l.node (node_below l ml);
        neighbour_below = rw kept.neighbour nb;
        neighbour_higher = omega (arith, ap (rank h) kept.neighbour ∙ rank_is (neighbour_of s x) nb, up.0);
        weight_low = rw kept.weight arc.low;
        weight_high = rw kept.weight arc.high;
        numbers =
            elim arc.centred [
              | inl plain ↦ inl (finish_plain (raws forward L) (raws backward L) s (raw s l.node x) plain.0)
              | inr o ↦ inr (opens s l ml x mx o)
            ];
      }

  -- an entry of a rank, as an arc of its level
  pub record At (s : Side) (r e : ℕ) : Type 0 where
    pub level : Level
    pub written : In level L
    pub node_rank : rank_of c.order level.node ≡ r
    pub arc : Arc
    pub arc_in : In arc (arcs_of s level)
    pub is : entry (table h s) e ≡ opened s (raw s level.node arc)

  pub before_end : (s : Side) (r : ℕ) {e : ℕ} → r ≤ n → e < starts_at s r → e < entry_count s
  unfolding raws
  before_end s r hr h =
      let xs = sizes (level_raws s) L in
      let long : length xs ≡ length L = length-map L (λ l. length (level_raws s l)) in
      omega (
        arith,
        prefix_most xs r (omega (arith, long, level_count)),
        ap (λ k. prefix xs k) long,
        flat_length (level_raws s) L,
      )

  -- the i-th entry of a rank is the i-th arc of its level
  entry_at : (s : Side) (r i : ℕ) → r < n → i < length (arcs_of s (get_or L r no_level)) →
      entry (table h s) (starts_at s r + i) ≡ opened s (raw s (get_or L r no_level).node (get_or (arcs_of s (get_or L r no_level)) i no_arc))
  entry_at s r i hr k = entry_is s _ (before_end s (suc r) hr (omega (arith, starts_next s r hr))) ∙ ap (opened s) (raw_at s r i hr k)

  pub within_rank : (s : Side) (r e : ℕ) → r < n → starts_at s r ≤ e → e < starts_at s (suc r) → At s r e
  within_rank s r e hr low high =
      let l = get_or L r no_level in
      let at = level_at r hr in
      let i : ℕ = e - starts_at s r in
      let k : i < length (arcs_of s l) = omega (arith, starts_next s r hr) in
      record {
        level = l;
        written = at.1;
        node_rank = ap (λ v. rank_of c.order v) at.0 ∙ rank_at r hr;
        arc = get_or (arcs_of s l) i no_arc;
        arc_in = get_d_in (arcs_of s l) i no_arc k;
        is = ap (entry (table h s)) (sym (add-sub_of_le low)) ∙ entry_at s r i hr k;
      }

  -- A level's arcs have no neighbour twice, so the entries of its rank have none.
  module _ (s : Side) (r : ℕ) (hr : r < n) where
    abbrev neighbours : List ℕ
    neighbours = map (neighbour_of s) (arcs_of s (get_or L r no_level))

    neighbours_apart : Differ neighbours 0
    neighbours_apart =
        let level = level_is (get_or L r no_level) (level_at r hr).1 in
        (distinct_decides neighbours 0).0 (neighbours_distinct s _ _ (level.apart s) (level.own s))

    -- the neighbour at a place of the rank, counted from its start
    neighbour_at : (e : ℕ) → begin (table h s) r ≤ e → e < begin (table h s) (suc r) →
        (e - starts_at s r < length neighbours) × ((entry (table h s) e).neighbour ≡ get_or neighbours (e - starts_at s r) 0)
    unfolding raw
    neighbour_at e low high =
        let arcs = arcs_of s (get_or L r no_level) in
        let from : starts_at s r ≤ e = omega (arith, begin_is s r (omega arith)) in
        let k : e - starts_at s r < length arcs = omega (arith, begin_is s (suc r) hr, starts_next s r hr) in (
          omega (arith, length-map arcs (neighbour_of s)),
          ap (λ d. (entry (table h s) d).neighbour) (sym (add-sub_of_le from)) ∙ ap (λ x. x.neighbour) (entry_at s r _ hr k) ∙
              (finish_keeps (raws forward L) (raws backward L) s _).neighbour ∙ sym (map_at (neighbour_of s) arcs _ no_arc 0 k),
        )

    rank_differs : NeighboursDiffer (table h s) (begin (table h s) r) (begin (table h s) (suc r))
    rank_differs d e dl dh el eh same =
        let x = neighbour_at d dl dh in
        let y = neighbour_at e el eh in
        omega (
          arith,
          neighbours_apart (d - starts_at s r) (e - starts_at s r) x.0 y.0 (sym x.1 ∙ same ∙ y.1),
          begin_is s r (omega arith),
        )

  starts_length : (s : Side) → length (starts_of s L) ≡ suc n
  unfolding starts_of
  starts_length s = sums_length (map (λ l. length (arcs_of s l)) L) 0 ∙ ap suc (length-map L _ ∙ level_count)

  -- a side's table, over what was lent for it
  pub record Columns (t lent : Table) (entries : ℕ) : Type 0 where
    pub equal : EquallyLong t
    pub within : entries ≤ room t
    pub starts : suc n ≤ length t.starts

  laid_side : (s : Side) (lent : Table) → EquallyLong lent → entry_count s ≤ room lent → suc n ≤ length lent.starts →
      Columns (laid lent (starts_of s L) (finished s L)) lent (entry_count s)
  unfolding laid finished
  laid_side s lent equal fit long =
      let k = laid_columns lent (starts_of s L) (finished s L) equal (omega (arith, length-map (raws s L) (opened s))) in
      record {
        equal = k.0;
        within = omega (arith, k.1);
        starts = omega (arith, over_length lent.starts (starts_of s L) (omega (arith, starts_length s)));
      }

  columns_are : (s : Side) → Columns (table h s) (table c.lent s) (entry_count s)
  unfolding table finish_contraction
  columns_are forward = laid_side forward c.lent.forward ok.fwd_columns done.fit.fwd ok.fwd_starts
  columns_are backward = laid_side backward c.lent.backward ok.bwd_columns done.fit.bwd ok.bwd_starts

  side_is : (s : Side) → SideRules n h s
  unfolding prefix
  side_is s =
      let k = columns_are s in
      record {
        columns = k.equal;
        places_for_starts = k.starts;
        begin_at_0 = begin_is s 0 zero-le;
        never_fall = λ r hr. omega (arith, begin_is s r (omega arith), begin_is s (suc r) hr, starts_next s r hr);
        end_within = omega (arith, used_is s, k.within);
        entry_rules =
            λ r hr e low high.
            let at = within_rank s r e hr (omega (arith, begin_is s r (omega arith))) (omega (arith, begin_is s (suc r) hr)) in
            rw at.is (subst (λ r. EntryRules n h s r (opened s (raw s at.level.node at.arc))) at.node_rank (arc_rules s at.level at.written at.arc at.arc_in));
      }

  -- A build's tables pass the table check.
  pub tables_rule : TableRules n h
  unfolding finish_contraction
  tables_rule =
      record {
        nodes = ok.nodes;
        places_for_ranks =
            omega (
              arith,
              over_length c.lent.ranks (ranks_of c.order n) (omega (arith, ranks_length c.order n, ok.ranks_room)),
              ok.ranks_room,
            );
        ranks_below = λ v hv. omega (arith, rank_is v hv, ranked c ok small v hv, ok.order_length);
        ranks_differ =
            λ u v hu hv same.
            same_position c.order u v (sym (rank_is u hu) ∙ same ∙ rank_is v hv) (ranked c ok small u hu);
        side_rules = side_is;
        neighbours_differ = rank_differs;
      }
