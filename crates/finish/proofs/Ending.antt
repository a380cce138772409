-- Rule 5 as a whole.
use mathlib.Core.Path.{◌≡◌, refl, sym, ◌∙◌, ap, ap₂}
use mathlib.Core.List.{List, [], ◌∷◌, ◌++◌, map}
use Prim.Native.Nat.{ℕ, suc, ◌+◌, ◌^◌, ◌≤◌, ◌<◌}
use native.Mathlib.Omega.{arith}
use native.Mathlib.Nat.{add-zero, zero-add}
use lib.ListN.{length, get_or, set, drop, length-append, length-map}
use lib.Seq.{drop_at}
use Rattle.rules.specs.Lists.{In, over, flat_map, distinct}
use Rattle.rules.specs.Columns.{Table, Side, forward, backward, EquallyLong, room}
use Rattle.rules.specs.Refusals.{BuildCall}
use Rattle.rules.specs.TableRules.{tail_of, head_of}
use Rattle.rules.specs.Build.{Level, Raw, arcs_of, level_raws, raws, Building, open_entry, finished, running_sums, starts_of, ranks_of}
use Rattle.rules.proofs.Pigeonhole.{every_below}
use Rattle.rules.proofs.Ranges.{distinct_decides}
use Rattle.rules.proofs.Prefixes.{over_at, over_length, over_next}
use Rattle.build_laws.proofs.BuiltTables.{level_count}
use Rattle.build_laws.proofs.Promised.{entries_few}
use Rattle.entries.specs.Laid.{begun, begun_of}
use Rattle.entries.proofs.Laying.{level_size, begun_count}
use Rattle.finish.specs.Promises.{Whole, Columns, raw_tail, raw_head, Finishing, Finished, Finishes, Inverse, Ranks, Ending, Ended}
use Rattle.finish.proofs.Seeking.{done}

-- written over what was written, as much of it
over_over : (lent xs ys : List ℕ) → length xs ≡ length ys → over (over lent xs) ys ≡ over lent ys
unfolding over
over_over lent xs ys e =
    ap (λ l. ys ++ l) (drop_at xs (drop (length xs) lent) (length ys) e ∙ ap (λ k. drop k lent) e)

-- the last start is how many entries there are
sums_begun : (s : Side) (a : ℕ) (ls : List Level) →
    running_sums a (map (λ l. length (arcs_of s l)) ls) ≡ begun a (map (λ l. length (arcs_of s l)) ls) ++ (a + length (raws s ls)) ∷ []
unfolding begun raws flat_map running_sums
sums_begun s a [] = ap (λ k. k ∷ []) (sym (add-zero a))
sums_begun s a (l ∷ ls) =
    ap (λ t. a ∷ t)
    (sums_begun s (a + length (arcs_of s l)) ls ∙
    ap (λ n. begun (a + length (arcs_of s l)) (map (λ l. length (arcs_of s l)) ls) ++ n ∷ [])
    (omega (arith, length-append (level_raws s l) (flat_map (level_raws s) ls), level_size s l)))

last_start : (s : Side) (ls : List Level) → starts_of s ls ≡ begun_of s ls ++ length (raws s ls) ∷ []
unfolding starts_of begun_of
last_start s ls = sums_begun s 0 ls ∙ ap (λ n. begun 0 (map (λ l. length (arcs_of s l)) ls) ++ n ∷ []) (zero-add (length (raws s ls)))

module _ {c : BuildCall} {b : Building} (w : Whole c b) where
  pub inverse : {n : ℕ} {order ranks : List ℕ} → c.nodes ≡ n → c.order ≡ order → ranks ≡ c.lent.ranks → Inverse n order ranks
  inverse {n} {order} {ranks} e o r =
      let length_is : length order ≡ n = ap length (sym o) ∙ w.ok.order_length ∙ e in
      let distinct_is = ap (λ l. distinct l) (sym o) ∙ w.ok.order_distinct in
      let below : (v : ℕ) → In v order → v < n = λ v m. omega (arith, w.ok.order_below v (rw o m), e) in
      record {
        long = length_is;
        few = omega (arith, w.ok.nodes, e);
        below = below;
        every = λ v h. every_below n order distinct_is below length_is v h;
        apart = (distinct_decides order 0).0 distinct_is;
        room = omega (arith, w.ok.ranks_room, e, ap length r);
      }

  pub few_entries : (s : Side) → length (raws s b.levels) < 2 ^ 32
  few_entries s = omega (arith, entries_few c w.ok w.weights b (done w) s)

  -- a side, of the table t
  module _ (s : Side) (t : Table) (equal : EquallyLong t) (within : length (raws s b.levels) ≤ room t) (starts_room : suc c.nodes ≤ length t.starts) where
    pub started : {starts : List ℕ} {n count : ℕ} → c.nodes ≡ n → starts ≡ over t.starts (begun_of s b.levels) → count ≡ length (raws s b.levels) →
        set starts n count ≡ over t.starts (starts_of s b.levels)
    started {starts} {n} {count} e is k =
        let long = begun_count s b.levels ∙ level_count c w.ok w.weights b (done w) ∙ e in
        ap₂ (λ l m. set l n m) is k ∙ over_next t.starts (begun_of s b.levels) n (length (raws s b.levels)) long (omega (arith, e, starts_room)) ∙
        sym (ap (over t.starts) (last_start s b.levels))

    pub start_there : {starts : List ℕ} {n : ℕ} → c.nodes ≡ n → starts ≡ over t.starts (begun_of s b.levels) → n < length starts
    start_there e is =
        let long = begun_count s b.levels ∙ level_count c w.ok w.weights b (done w) in
        omega (arith, ap length is, over_length t.starts (begun_of s b.levels) (omega (arith, long, starts_room)), starts_room, e)

    column_long : (f : Raw → ℕ) (lent now : List ℕ) → length lent ≡ room t → now ≡ over lent (map f (raws s b.levels)) → length (raws s b.levels) ≤ length now
    column_long f lent now e is =
        omega (arith, ap length is, over_length lent (map f (raws s b.levels)) (omega (arith, length-map (raws s b.levels) f)), e)

    column_at : (f : Raw → ℕ) (lent now : List ℕ) → now ≡ over lent (map f (raws s b.levels)) → (e : ℕ) → e < length (raws s b.levels) →
        get_or now e 0 ≡ get_or (map f (raws s b.levels)) e 0
    column_at f lent now is e h = ap (λ l. get_or l e 0) is ∙ over_at lent (map f (raws s b.levels)) e 0 (rw (length-map (raws s b.levels) f) h)

    module _ {ranks fs fn bs bn bases neighbours centres outs : List ℕ} {count : ℕ} (k : Columns c b ranks fs fn bs bn)
        (count_is : count ≡ length (raws s b.levels)) (bases_are : bases ≡ over t.bases (map (λ r. r.base) (raws s b.levels)))
        (neighbours_are : neighbours ≡ over t.neighbours (map (λ r. r.neighbour) (raws s b.levels)))
        (centres_are : centres ≡ over t.in_numbers (map (λ r. r.centre) (raws s b.levels))) (outs_are : outs ≡ t.out_numbers) where
      bases_long : count ≤ length bases
      unfolding room
      bases_long = omega (arith, count_is, column_long (λ r. r.base) t.bases bases refl bases_are)

      neighbours_long : count ≤ length neighbours
      neighbours_long = omega (arith, count_is, column_long (λ r. r.neighbour) t.neighbours neighbours equal.neighbours neighbours_are)

      pub by_ends : {tails heads : List ℕ} →
          ((e : ℕ) → e < count → get_or tails e 0 ≡ get_or (map (raw_tail s) (raws s b.levels)) e 0) →
          ((e : ℕ) → e < count → get_or heads e 0 ≡ get_or (map (raw_head s) (raws s b.levels)) e 0) → count ≤ length tails → count ≤ length heads →
          Finishing c b s count ranks fs fn bs bn tails heads centres outs
      by_ends tails_are heads_are tails_room heads_room =
          record {
            columns = k;
            count_is = count_is;
            ins_are = λ e h. column_at (λ r. r.centre) t.in_numbers centres centres_are e (omega (arith, count_is));
            tails_are = tails_are;
            heads_are = heads_are;
            tails_room = tails_room;
            heads_room = heads_room;
            ins_room = omega (arith, count_is, column_long (λ r. r.centre) t.in_numbers centres equal.in_numbers centres_are);
            outs_room = omega (arith, count_is, within, ap length outs_are, equal.out_numbers);
          }

      pub as_forward : s ≡ forward → Finishing c b s count ranks fs fn bs bn bases neighbours centres outs
      unfolding tail_of head_of open_entry
      as_forward e =
          by_ends
          (λ i h. column_at (λ r. r.base) t.bases bases bases_are i (omega (arith, count_is)) ∙ ap (λ z. get_or (map (raw_tail z) (raws s b.levels)) i 0) (sym e))
          (λ i h. column_at (λ r. r.neighbour) t.neighbours neighbours neighbours_are i (omega (arith, count_is)) ∙ ap (λ z. get_or (map (raw_head z) (raws s b.levels)) i 0) (sym e))
          bases_long
          neighbours_long

      pub as_backward : s ≡ backward → Finishing c b s count ranks fs fn bs bn neighbours bases centres outs
      unfolding tail_of head_of open_entry
      as_backward e =
          by_ends
          (λ i h. column_at (λ r. r.neighbour) t.neighbours neighbours neighbours_are i (omega (arith, count_is)) ∙ ap (λ z. get_or (map (raw_tail z) (raws s b.levels)) i 0) (sym e))
          (λ i h. column_at (λ r. r.base) t.bases bases bases_are i (omega (arith, count_is)) ∙ ap (λ z. get_or (map (raw_head z) (raws s b.levels)) i 0) (sym e))
          neighbours_long
          bases_long

      pub over_lent : {ins' outs' : List ℕ} → Finished b s centres outs ins' outs' →
          (ins' ≡ over t.in_numbers (map (λ e. e.in_number) (finished s b.levels))) × (outs' ≡ over t.out_numbers (map (λ e. e.out_number) (finished s b.levels)))
      unfolding finished
      over_lent f = (
        f.ins_are ∙ ap (λ l. over l (map (λ e. e.in_number) (finished s b.levels))) centres_are ∙
            over_over t.in_numbers (map (λ r. r.centre) (raws s b.levels)) (map (λ e. e.in_number) (finished s b.levels))
            (length-map (raws s b.levels) (λ r. r.centre) ∙ sym (length-map (finished s b.levels) (λ e. e.in_number) ∙ length-map (raws s b.levels) _)),
        f.outs_are ∙ ap (λ l. over l (map (λ e. e.out_number) (finished s b.levels))) outs_are,
      )

module _ {c : BuildCall} {b : Building} {n : ℕ} {order : List ℕ} {fwd bwd : ℕ} {ranks fs fb fn fi fo bs bb bn bi bo : List ℕ}
    (p : Ending c b n order fwd bwd ranks fs fb fn fi fo bs bb bn bi bo) where
  abbrev w : Whole c b
  w = p.whole

  pub ending_inverse : Inverse n order ranks
  ending_inverse = inverse w p.nodes_are p.order_is p.ranks_are

  pub small_fwd : fwd < 2 ^ 32
  small_fwd = omega (arith, p.fwd_count, few_entries w forward)

  pub small_bwd : bwd < 2 ^ 32
  small_bwd = omega (arith, p.bwd_count, few_entries w backward)

  pub fwd_start_there : n < length fs
  fwd_start_there = start_there w forward c.lent.forward w.ok.fwd_columns (done w).fit.fwd w.ok.fwd_starts p.nodes_are p.fwd_starts

  pub bwd_start_there : n < length bs
  bwd_start_there = start_there w backward c.lent.backward w.ok.bwd_columns (done w).fit.bwd w.ok.bwd_starts p.nodes_are p.bwd_starts

  module _ {ranks' : List ℕ} (ranked : Ranks order ranks ranks') where
    ranks_written : ranks' ≡ over c.lent.ranks (ranks_of c.order c.nodes)
    ranks_written =
        ranked n ending_inverse ∙ ap (λ l. over l (ranks_of order n)) p.ranks_are ∙
        ap₂ (λ o m. over c.lent.ranks (ranks_of o m)) (sym p.order_is) (sym p.nodes_are)

    columns : Columns c b ranks' (set fs n fwd) fn (set bs n bwd) bn
    columns =
        record {
          whole = w;
          ranks_are = ranks_written;
          fwd_starts = started w forward c.lent.forward w.ok.fwd_columns (done w).fit.fwd w.ok.fwd_starts p.nodes_are p.fwd_starts p.fwd_count;
          fwd_neighbours = p.fwd_neighbours;
          bwd_starts = started w backward c.lent.backward w.ok.bwd_columns (done w).fit.bwd w.ok.bwd_starts p.nodes_are p.bwd_starts p.bwd_count;
          bwd_neighbours = p.bwd_neighbours;
        }

    pub finishing_forward : Finishing c b forward fwd ranks' (set fs n fwd) fn (set bs n bwd) bn fb fn fi fo
    finishing_forward =
        as_forward w forward c.lent.forward w.ok.fwd_columns (done w).fit.fwd w.ok.fwd_starts columns p.fwd_count p.fwd_bases p.fwd_neighbours
        p.fwd_ins
        p.fwd_outs
        refl

    pub finishing_backward : Finishing c b backward bwd ranks' (set fs n fwd) fn (set bs n bwd) bn bn bb bi bo
    finishing_backward =
        as_backward w backward c.lent.backward w.ok.bwd_columns (done w).fit.bwd w.ok.bwd_starts columns p.bwd_count p.bwd_bases p.bwd_neighbours
        p.bwd_ins
        p.bwd_outs
        refl

    pub ended : {fi' fo' bi' bo' : List ℕ} → Finishes fwd ranks' (set fs n fwd) fn (set bs n bwd) bn fb fn fi fo fi' fo' →
        Finishes bwd ranks' (set fs n fwd) fn (set bs n bwd) bn bn bb bi bo bi' bo' → Ended c b ranks' (set fs n fwd) fi' fo' (set bs n bwd) bi' bo'
    ended f g =
        let forwards =
        over_lent w forward c.lent.forward w.ok.fwd_columns (done w).fit.fwd w.ok.fwd_starts columns p.fwd_count p.fwd_bases p.fwd_neighbours
        p.fwd_ins
        p.fwd_outs
        (f c b forward finishing_forward)
        in
        let backwards =
        over_lent w backward c.lent.backward w.ok.bwd_columns (done w).fit.bwd w.ok.bwd_starts columns p.bwd_count p.bwd_bases p.bwd_neighbours
        p.bwd_ins
        p.bwd_outs
        (g c b backward finishing_backward)
        in
        record {
          ranks_are = ranks_written;
          fwd_starts = columns.fwd_starts;
          fwd_ins = forwards.0;
          fwd_outs = forwards.1;
          bwd_starts = columns.bwd_starts;
          bwd_ins = backwards.0;
          bwd_outs = backwards.1;
        }
