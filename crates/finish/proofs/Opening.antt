-- One entry is opened: its centre's rank has both entries.
use mathlib.Core.Path.{◌≡◌, refl, sym, ◌∙◌, ap, ap₂, subst}
use mathlib.Core.Logic.{inl, inr}
use mathlib.Core.List.{List, map}
use Prim.Native.Nat.{ℕ, suc, ◌+◌, ◌≤◌, ◌<◌}
use native.Mathlib.Omega.{arith}
use lib.ListN.{length, get_or, length-map}
use Rattle.rules.specs.Numbers.{invalid}
use Rattle.rules.specs.Lists.{In, over}
use Rattle.rules.specs.Columns.{Side, forward, backward, table, Table, room}
use Rattle.rules.specs.Refusals.{BuildCall}
use Rattle.rules.specs.TableRules.{tail_of, head_of}
use Rattle.rules.specs.Graph.{Arc}
use Rattle.rules.specs.Build.{Level, Raw, arcs_of, neighbour_of, raw, level_raws, raws, Building, place, open_entry, finish, starts_of, ranks_of}
use Rattle.rules.proofs.Members.{in_map}
use Rattle.rules.proofs.Prefixes.{prefix, prefix_most, sizes, flat_length, in_flat, over_at, over_length, sums_length}
use Rattle.build_laws.specs.Runs.{rank_of, Opened as FromCentre}
use Rattle.build_laws.proofs.BuiltTables.{Kept, finish_keeps, finish_plain, finish_open, entry_ends, level_count, level_is, node_below, starts_at, ranks_length, ranks_at}
use Rattle.finish.specs.Promises.{Seekable, Sought, Whole, Columns, raw_tail, raw_head, Opening, Opened}
use Rattle.finish.proofs.Seeking.{done, ranked, start_is, sought_place}

-- rule 5 leaves the ends as they were
same_tail : (fwd bwd : List Raw) (s : Side) (x : Raw) → tail_of s (finish fwd bwd s x) ≡ raw_tail s x
unfolding tail_of open_entry
same_tail fwd bwd forward x = (finish_keeps fwd bwd forward x).base
same_tail fwd bwd backward x = (finish_keeps fwd bwd backward x).neighbour

same_head : (fwd bwd : List Raw) (s : Side) (x : Raw) → head_of s (finish fwd bwd s x) ≡ raw_head s x
unfolding head_of open_entry
same_head fwd bwd forward x = (finish_keeps fwd bwd forward x).neighbour
same_head fwd bwd backward x = (finish_keeps fwd bwd backward x).base

kept_open : (x : Raw) → Kept x (open_entry x invalid invalid)
unfolding open_entry
kept_open x = record { base = refl; neighbour = refl; weight = refl }

module _ {c : BuildCall} {b : Building} (w : Whole c b) where
  -- where a rank ends is within the table
  module _ (s : Side) (t : Table) (starts neighbours : List ℕ) (starts_are : starts ≡ over t.starts (starts_of s b.levels))
      (neighbours_are : neighbours ≡ over t.neighbours (map (λ r. r.neighbour) (raws s b.levels)))
      (starts_room : suc c.nodes ≤ length t.starts) (room_for : length (raws s b.levels) ≤ length t.neighbours)
      (is_table : (i : ℕ) → i ≤ c.nodes → get_or starts i 0 ≡ starts_at c w.ok w.weights b (done w) s i) where
    seekable : (r : ℕ) → r < c.nodes → Seekable starts (length neighbours) r
    unfolding starts_of raws
    seekable r h =
        let xs = sizes (level_raws s) b.levels in
        let long : length xs ≡ length b.levels = length-map b.levels (λ l. length (level_raws s l)) in
        let count = level_count c w.ok w.weights b (done w) in
        let arcs = map (λ l. length (arcs_of s l)) b.levels in
        let size : length (starts_of s b.levels) ≡ suc c.nodes = sums_length arcs 0 ∙ ap suc (length-map b.levels _ ∙ count) in
        record {
          room = omega (arith, ap length starts_are, over_length t.starts (starts_of s b.levels) (omega (arith, size)), starts_room);
          within =
              omega (
                arith,
                is_table (r + 1) (omega arith),
                prefix_most xs (r + 1) (omega (arith, long, count)),
                flat_length (level_raws s) b.levels,
                ap (prefix xs) long,
                ap length neighbours_are,
                over_length t.neighbours (map (λ r. r.neighbour) (raws s b.levels)) (omega (arith, length-map (raws s b.levels) (λ (r : Raw). r.neighbour))),
              );
        }

-- The columns that are read.
module _ {c : BuildCall} {b : Building} {ranks fs fn bs bn : List ℕ} (k : Columns c b ranks fs fn bs bn) where
  abbrev w : Whole c b
  w = k.whole

  pub rank_read : (v : ℕ) → v < c.nodes → get_or ranks v 0 ≡ rank_of c.order v
  rank_read v h =
      ap (λ l. get_or l v 0) k.ranks_are ∙
      over_at c.lent.ranks (ranks_of c.order c.nodes) v 0 (rw (ranks_length c.order c.nodes) h) ∙
      ranks_at c.order c.nodes v 0 h

  pub ranks_room : c.nodes ≤ length ranks
  ranks_room =
      omega (
        arith,
        ap length k.ranks_are,
        over_length c.lent.ranks (ranks_of c.order c.nodes) (omega (arith, ranks_length c.order c.nodes, w.ok.ranks_room)),
        w.ok.ranks_room,
      )

  forward_start : (i : ℕ) → i ≤ c.nodes → get_or fs i 0 ≡ starts_at c w.ok w.weights b (done w) forward i
  unfolding table
  forward_start = start_is w forward fs fn k.fwd_starts k.fwd_neighbours

  backward_start : (i : ℕ) → i ≤ c.nodes → get_or bs i 0 ≡ starts_at c w.ok w.weights b (done w) backward i
  unfolding table
  backward_start = start_is w backward bs bn k.bwd_starts k.bwd_neighbours

  pub forward_seekable : (r : ℕ) → r < c.nodes → Seekable fs (length fn) r
  unfolding room
  forward_seekable =
      seekable w forward c.lent.forward fs fn k.fwd_starts k.fwd_neighbours w.ok.fwd_starts
      (omega (arith, (done w).fit.fwd, w.ok.fwd_columns.neighbours))
      forward_start

  pub backward_seekable : (r : ℕ) → r < c.nodes → Seekable bs (length bn) r
  unfolding room
  backward_seekable =
      seekable w backward c.lent.backward bs bn k.bwd_starts k.bwd_neighbours w.ok.bwd_starts
      (omega (arith, (done w).fit.bwd, w.ok.bwd_columns.neighbours))
      backward_start

module _ {c : BuildCall} {b : Building} {s : Side} {x : Raw} {centre tail head : ℕ} {ranks fs fn bs bn : List ℕ}
    (p : Opening c b s x centre tail head ranks fs fn bs bn) where
  abbrev w' : Whole c b
  w' = p.columns.whole

  pub plain : centre ≡ invalid → Opened b s x (record { into = invalid; out = invalid })
  plain e =
      let f = finish_plain (raws forward b.levels) (raws backward b.levels) s x (sym p.centre_is ∙ e) in
      record { into = sym f.0; out = sym f.1 }

  module _ (off : centre ≡ invalid → ⊥) where
    from : (l : Level) × In l b.levels × (y : Arc) × In y (arcs_of s l) × (x ≡ raw s l.node y)
    unfolding raws level_raws
    from =
        let f = in_flat (level_raws s) x b.levels p.written in
        let a = in_map (raw s f.0.node) x (arcs_of s f.0) f.2 in
        (f.0, f.1, a.0, a.1, a.2)

    abbrev l : Level
    l = from.0

    abbrev y : Arc
    y = from.2

    centre_arc : x.centre ≡ y.centre
    unfolding raw
    centre_arc = ap (λ r. r.centre) from.4

    o : FromCentre c.order b.levels (rank_of c.order l.node) y
    o =
        elim ((level_is c w'.ok w'.weights b (done w') l from.1).arcs s y from.3).centred [
          | inl none ↦ absurd (off (p.centre_is ∙ centre_arc ∙ none.0))
          | inr found ↦ found
        ]

    centre_node : centre ≡ o.level.node
    centre_node = p.centre_is ∙ centre_arc ∙ sym o.node

    pub centre_below : centre < c.nodes
    centre_below = rw centre_node (node_below c w'.ok w'.weights b (done w') o.level o.written)

    rank_here : get_or ranks centre 0 ≡ rank_of c.order o.level.node
    rank_here = rank_read p.columns centre centre_below ∙ ap (λ v. rank_of c.order v) centre_node

    pub rank_below : get_or ranks centre 0 < c.nodes
    rank_below = let r = ranked w' o.level o.written in omega (arith, rank_here, r.3, r.1)

    -- the ends are those of the arc
    ends : (raw_tail s x ≡ y.tail) × (raw_head s x ≡ y.head)
    ends =
        entry_ends s l.node y (open_entry x invalid invalid) ((level_is c w'.ok w'.weights b (done w') l from.1).own s y from.3)
        (subst (λ z. Kept z (open_entry x invalid invalid)) from.4 (kept_open x))

    pub opened : (e i : ℕ) → Sought bs bn (get_or ranks centre 0) tail e → Sought fs fn (get_or ranks centre 0) head i →
        Opened b s x (record { into = e; out = i })
    unfolding table arcs_of neighbour_of
    opened e i back on =
        let fwd = raws forward b.levels in
        let bwd = raws backward b.levels in
        let numbers = finish_open fwd bwd s x (λ z. off (p.centre_is ∙ z)) in
        let at_in =
        sought_place w' backward bs bn p.columns.bwd_starts p.columns.bwd_neighbours o.level o.written o.into o.into_in
        (get_or ranks centre 0) tail e rank_here (p.tail_is ∙ ends.0 ∙ sym o.into_tail) back
        in
        let at_out =
        sought_place w' forward fs fn p.columns.fwd_starts p.columns.fwd_neighbours o.level o.written o.out o.out_in
        (get_or ranks centre 0) head i rank_here (p.head_is ∙ ends.1 ∙ sym o.out_head) on
        in
        let node : o.level.node ≡ x.centre = sym centre_node ∙ p.centre_is in
        record {
          into = at_in ∙ ap₂ (λ v u. place bwd v u) node (p.tail_is ∙ sym (same_tail fwd bwd s x)) ∙ sym numbers.0;
          out = at_out ∙ ap₂ (λ v u. place fwd v u) node (p.head_is ∙ sym (same_head fwd bwd s x)) ∙ sym numbers.1;
        }
