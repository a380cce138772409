-- What a build promises a query, proved of every build that was not refused.
use mathlib.Core.Path.{◌≡◌, sym, ◌∙◌, ap}
use mathlib.Core.Logic.{inl, inr}
use mathlib.Core.Bool.{true, false, true≢false}
use mathlib.Core.List.{map}
use Prim.Native.Nat.{ℕ, suc, ◌*◌, ◌≤◌, ◌<◌}
use native.Mathlib.Omega.{arith}
use native.Mathlib.Nat.{mul-le-mul, le_trans}
use lib.ListN.{length, length-map}
use borrow.Author.Tests.{ne_eqb}
use Rattle.rules.specs.Numbers.{max_link_weight, invalid}
use Rattle.rules.specs.Lists.{In, flat_map}
use Rattle.rules.specs.Columns.{link_list, Entry, Hierarchy, Side, forward, backward, table, entry, rank, begin, places}
use Rattle.rules.specs.TableRules.{tail_of, head_of, used}
use Rattle.rules.specs.Refusals.{BuildCall}
use Rattle.rules.specs.Build.{Level, arcs_of, neighbour_of, raw, level_raws, raws, Building, place, finish_contraction}
use Rattle.rules.specs.Unpack.{is_shortcut}
use Rattle.rules.proofs.Members.{in_map}
use Rattle.rules.proofs.Pigeonhole.{at_most}
use Rattle.rules.proofs.Prefixes.{prefix, sizes, locate, flat_length, flat_at_most, range_in}
use Rattle.rules.proofs.Ranks.{level_size}
use Rattle.rules.specs.Accepted.{AcceptedBuild}
use Rattle.walks.specs.Walks.{Linked}
use Rattle.walks.specs.Promise.{Entries, Promise}
use Rattle.walks.proofs.Paths.{Lighter, lighter_path}
use Rattle.build_laws.specs.Runs.{rank_of}
use Rattle.build_laws.proofs.Runs.{LevelEdges}
use Rattle.build_laws.proofs.Starts.{Contracted}
use Rattle.build_laws.proofs.BuiltTables.{neighbours_distinct, tables_rule, At, within_rank, used_is, level_is, level_count, ranked_below, node_below, finish_keeps, opens, entry_ends, found_entry, begin_is, rank_is}

-- an entry with a number is a shortcut
numbered : (e : Entry) → (e.in_number ≡ invalid → ⊥) → is_shortcut e ≡ true
unfolding is_shortcut
numbered e off = rw (ne_eqb e.in_number invalid off, is_shortcut)

module _ (c : BuildCall) (ok : AcceptedBuild c) (small : (w : ℕ) → In w c.links.weights → w ≤ max_link_weight)
    (b : Building) (done : Contracted c ok small b) where
  -- a level has no more arcs than there are nodes
  level_few : (s : Side) (l : Level) → In l b.levels → length (arcs_of s l) ≤ c.nodes
  level_few s l m =
      let lev = level_is c ok small b done l m in
      omega (
        arith,
        length-map (arcs_of s l) (neighbour_of s),
        at_most c.nodes (map (neighbour_of s) (arcs_of s l)) (neighbours_distinct s l.node (arcs_of s l) (lev.apart s) (lev.own s))
            (λ u mu.
            let x = in_map (neighbour_of s) u (arcs_of s l) mu in
            rw x.2 (ranked_below c ok small b done (neighbour_of s x.0) (lev.higher s x.0 x.1).1)),
      )

  -- so an entry's number is never the mark
  pub entries_few : (s : Side) → length (raws s b.levels) ≤ 1024 * 1024
  unfolding raws
  entries_few s =
      le_trans
      (flat_at_most (level_raws s) c.nodes b.levels (λ l m. rw (level_size s l) (level_few s l m)))
      (rw (level_count c ok small b done) (mul-le-mul ok.nodes ok.nodes))

  abbrev tables : Hierarchy
  tables = finish_contraction c b.levels

  -- the entry at a place of a table: its rank, and its arc
  pub record Located (s : Side) (e : ℕ) : Type 0 where
    pub rank : ℕ
    pub inside : rank < c.nodes
    pub low : begin (table tables s) rank ≤ e
    pub high : e < begin (table tables s) (suc rank)
    pub at : At c ok small b done s rank e

  located : (s : Side) (e : ℕ) → e < used c.nodes (table tables s) → Located s e
  unfolding raws
  located s e below =
      let xs = sizes (level_raws s) b.levels in
      let long : length xs ≡ c.nodes = length-map b.levels (λ l. length (level_raws s l)) ∙ level_count c ok small b done in
      let end : prefix xs (length xs) ≡ length (flat_map (level_raws s) b.levels) =
      ap (λ k. prefix xs k) (length-map b.levels (λ l. length (level_raws s l))) ∙ sym (flat_length (level_raws s) b.levels)
      in
      let at = locate xs e (omega (arith, used_is c ok small b done s, end)) in
      let inside : at.0 < c.nodes = omega (arith, at.1, long) in
      record {
        rank = at.0;
        inside = inside;
        low = omega (arith, begin_is c ok small b done s at.0 (omega arith), at.2);
        high = omega (arith, begin_is c ok small b done s (suc at.0) inside, at.3);
        at = within_rank c ok small b done s at.0 e inside at.2 at.3;
      }

  plain_is_link : (s : Side) (e : ℕ) → e < used c.nodes (table tables s) →
      is_shortcut (entry (table tables s) e) ≡ false →
      Linked (link_list c.links) (tail_of s (entry (table tables s) e))
      (head_of s (entry (table tables s) e))
      (entry (table tables s) e).weight
  unfolding raw table
  plain_is_link s e below plain =
      let at = (located s e below).at in
      let x = at.arc in
      let lev = level_is c ok small b done at.level at.written in
      let kept = finish_keeps (raws forward b.levels) (raws backward b.levels) s (raw s at.level.node x) in
      let ends = entry_ends s at.level.node x _ (lev.own s x at.arc_in) kept in
      elim (lev.arcs s x at.arc_in).centred [
        | inl link ↦ rw (at.is, ends.0, ends.1, kept.weight) link.1
        | inr o ↦
            let number = (opens c ok small b done s at.level at.written x at.arc_in o).in_used in
            absurd
            (true≢false
            (sym (numbered _ (λ z. absurd (omega (arith, z, number, used_is c ok small b done backward, entries_few backward)))) ∙
            ap is_shortcut (sym at.is) ∙ plain))
      ]

  -- an arc of a level is an entry of its node
  level_entry : (s : Side) (u v w : ℕ) → LevelEdges b.levels s u v w → Entries tables s u v w
  unfolding raw places
  level_entry s u v w (l, m, node, x, mx, nb, weight) =
      let f = found_entry c ok small b done s l m x mx in
      let e = place (raws s b.levels) l.node (neighbour_of s x) in
      let k = located s e f.0 in
      let same : k.at.level.node ≡ u =
      sym (finish_keeps (raws forward b.levels) (raws backward b.levels) s (raw s k.at.level.node k.at.arc)).base ∙
      ap (λ y. y.base) (sym k.at.is) ∙ f.1.base ∙ node
      in
      let at : rank tables u ≡ k.rank =
      rank_is c ok small b done u (rw node at (node_below c ok small b done l m)) ∙
      ap (λ y. rank_of c.order y) (sym same) ∙ k.at.node_rank
      in
      (e, rw at (range_in _ _ e k.low k.high), f.1.neighbour ∙ nb, f.1.weight ∙ weight)

  level_lighter : (s : Side) → Lighter (LevelEdges b.levels s) (Entries tables s)
  level_lighter s u v w e = (w, level_entry s u v w e, omega arith)

  pub promise : Promise c.nodes (link_list c.links) tables
  promise =
      record {
        rules = tables_rule c ok small b done;
        few = λ s. omega (arith, used_is c ok small b done s, entries_few s);
        plain_is_link = plain_is_link;
        up_down =
            λ a e w ha he p.
            let r = done.goes a e w ha he p in
            let x = lighter_path (level_lighter forward) r.3 in
            let y = lighter_path (level_lighter backward) r.4 in
            (r.0, x.0, y.0, x.1, y.1, omega (arith, r.5, x.2, y.2));
      }
