-- One rank.
use mathlib.Core.Path.{◌≡◌, refl, sym, ◌∙◌, ap}
use mathlib.Core.Bool.{◌&&◌}
use mathlib.Core.List.Memᴰ
use mathlib.Core.List.{List, [], ◌∷◌, ◌++◌, map}
use Prim.Native.Nat.{ℕ, ◌+◌, ◌*◌, ◌-◌, ◌^◌, ◌≤◌, ◌<◌}
use native.Mathlib.Omega.{arith}
use lib.ListN.{length, get_or, length-append, length-map}
use borrow.Author.Tests.{le-leb, lt-leb}
use Rattle.rules.specs.Numbers.{invalid}
use Rattle.rules.specs.Lists.{In, keep}
use Rattle.rules.specs.Columns.{Side, forward, backward, link_list, room}
use Rattle.rules.specs.Refusals.{BuildCall}
use Rattle.rules.specs.Graph.{Arc, outs, ins}
use Rattle.rules.specs.Build.{Step, went, refused, and_then, in_tables, contract_node, Level, arcs_of, level_raws, raws, Building, rank_step}
use Rattle.rules.proofs.Lists.{keep_length}
use Rattle.rules.proofs.Prefixes.{flat_at_most}
use Rattle.rules.proofs.Ranges.{distinct_decides}
use Rattle.rules.proofs.Ranks.{level_of, with_level}
use Rattle.build_laws.proofs.Runs.{next_inside}
use Rattle.build_laws.proofs.Enough.{level_short}
use Rattle.std.specs.Prelude.{Result, Ok, Err}
use Rattle.rules.specs.declared.Refusal.{Refusal}
use Rattle.rules.specs.declared.Refusal.TheVariants.{Entries}
use Rattle.rules.specs.Refused.{number_of}
use Rattle.lists.specs.Memory.{memory, ends_at, touches}
use Rattle.lists.specs.Walks.{Walk}
use Rattle.lists.proofs.Walks.{first_out}
use Rattle.graph.specs.Stands.{Stands}
use Rattle.graph.proofs.Reading.{own_walk, outs_walk, own_arcs, reads_outs, reads_ins}
use Rattle.search.specs.Searching.{Lent}
use Rattle.node_contractor.specs.Work.{Work}
use Rattle.node_contractor.specs.Promises.{Contractible, Contracts}
use Rattle.entries.specs.Laid.{side_of, part_of, laid_part}
use Rattle.entries.specs.Promises.{Layable, Lays}
use Rattle.entries.proofs.Laying.{raws_more, level_size}
use Rattle.contraction.specs.Ranks.{Stage}
use Rattle.contraction.specs.Ranks.{Given, call, Parts, parts, laid_parts, At}
use Rattle.contraction.specs.Promises.{Came, Stepping}
use Rattle.contraction.proofs.Laid.{laid_long, laid_even, laid_starts}

-- What a step came to.
pub came : {c : BuildCall} {s : Step Building} {t : Parts} {m : Lent} {x : Stage} (b : Building) → s ≡ went b → At c b t m x.work x.fwd x.bwd →
    Came c s t m (Ok x)
came {x = x} b e at =
    record {
      came = λ x' h. let p : x' ≡ x = cc in (b, e, rw p at);
      no = λ k h. absurd (cc);
    }

pub stopped : {c : BuildCall} {s : Step Building} {t : Parts} {m : Lent} {r : Refusal} → s ≡ refused (number_of r) → Came c s t m (Err r)
stopped {r = r} e =
    record {
      came = λ x h. absurd (cc);
      no = λ r' h. let q : r' ≡ r = cc in rw q e;
    }

-- one level more
pub count_more : (s : Side) (ls : List Level) (l : Level) → length (raws s (ls ++ l ∷ [])) ≡ length (raws s ls) + length (arcs_of s l)
count_more s ls l =
    ap length (raws_more s ls l) ∙ length-append (raws s ls) (level_raws s l) ∙ ap (λ k. length (raws s ls) + k) (level_size s l)

-- The definition, by what the tests said.
module _ (c : BuildCall) (v : ℕ) (b : Building) where
  abbrev pub more : Side → ℕ
  more s = length (raws s b.levels) + length (arcs_of s (level_of v b.graph))

  pub short_forward : room c.lent.forward < more forward → rank_step c v b ≡ refused 11
  unfolding rank_step in_tables and_then ◌&&◌
  short_forward h =
      rw (
        lt-leb (length (raws forward (with_level b.levels v b.graph))) (room c.lent.forward)
            (omega (arith, count_more forward b.levels (level_of v b.graph))),
        rank_step,
        in_tables,
      )

  pub short_backward : more forward ≤ room c.lent.forward → room c.lent.backward < more backward → rank_step c v b ≡ refused 11
  unfolding rank_step in_tables and_then ◌&&◌
  short_backward f h =
      rw (
        le-leb (length (raws forward (with_level b.levels v b.graph))) (room c.lent.forward)
            (omega (arith, count_more forward b.levels (level_of v b.graph))),
        lt-leb (length (raws backward (with_level b.levels v b.graph))) (room c.lent.backward)
            (omega (arith, count_more backward b.levels (level_of v b.graph))),
        rank_step,
        in_tables,
      )

  module _ (f : more forward ≤ room c.lent.forward) (g : more backward ≤ room c.lent.backward) where
    held : in_tables (room c.lent.forward) (room c.lent.backward) (with_level b.levels v b.graph) ≡ went (with_level b.levels v b.graph)
    unfolding in_tables ◌&&◌
    held =
        rw (
          le-leb (length (raws forward (with_level b.levels v b.graph))) (room c.lent.forward)
              (omega (arith, count_more forward b.levels (level_of v b.graph))),
          le-leb (length (raws backward (with_level b.levels v b.graph))) (room c.lent.backward)
              (omega (arith, count_more backward b.levels (level_of v b.graph))),
          in_tables,
        )

    pub step_goes : (k : List Arc) → contract_node c.pool c.limit v b.graph ≡ went k →
        rank_step c v b ≡ went (record { graph = k; levels = with_level b.levels v b.graph })
    unfolding rank_step and_then
    step_goes k e = rw (held, e, rank_step)

    pub step_stops : (k : ℕ) → contract_node c.pool c.limit v b.graph ≡ refused k → rank_step c v b ≡ refused k
    unfolding rank_step and_then
    step_stops k e = rw (held, e, rank_step)

-- What holds before a rank.
module _ {g : Given} {b : Building} {vs : List ℕ} {limit pool r v : ℕ} {t : Parts} {m : Lent} {x : Work} {fwd bwd : ℕ}
    (p : Stepping g b vs limit pool r v t m x fwd bwd) where
  abbrev c : BuildCall
  c = call g limit pool

  abbrev level : Level
  level = level_of v b.graph

  inside : r < length g.order
  inside =
      omega (
        arith,
        p.rank,
        next_inside c (link_list g.links) 0 ((distinct_decides g.order 0).0 p.ok.build.order_distinct) v vs b p.run,
      )

  pub few_ranks : r < 1024
  few_ranks = omega (arith, inside, p.ok.build.order_length, p.ok.build.nodes)

  pub node_in : v < g.nodes
  node_in =
      p.ok.build.order_below v
      (rw (← p.run.nodes) (Memᴰ.append_right (map (λ l. l.node) b.levels) (Memᴰ.head refl)))

  -- a rank has fewer than 1,024 entries a side
  few_each : (s : Side) (l : Level) → In l b.levels → length (level_raws s l) ≤ 1024
  few_each s l k =
      omega (
        arith,
        level_size s l,
        level_short g.order (link_list g.links) b.levels l (p.run.levels l k) s,
        p.ok.build.order_length,
        p.ok.build.nodes,
      )

  few_entries : (s : Side) → length (raws s b.levels) ≤ 1024 * length b.levels
  unfolding raws
  few_entries s = flat_at_most (level_raws s) 1024 b.levels (few_each s)

  pub small_forward : fwd < 2 ^ 32
  small_forward = omega (arith, p.at.fwd_count.is, few_entries forward, p.rank, few_ranks)

  pub small_backward : bwd < 2 ^ 32
  small_backward = omega (arith, p.at.bwd_count.is, few_entries backward, p.rank, few_ranks)

  forward_laid : t.forward ≡ laid_part forward b.levels (part_of g.lent.forward)
  unfolding laid_parts
  forward_laid = ap (λ t. t.forward) p.at.laid

  backward_laid : t.backward ≡ laid_part backward b.levels (part_of g.lent.backward)
  unfolding laid_parts
  backward_laid = ap (λ t. t.backward) p.at.laid

  within_forward : length (raws forward b.levels) ≤ room g.lent.forward
  within_forward = omega (arith, p.at.fwd_count.is, p.at.fwd_count.within)

  within_backward : length (raws backward b.levels) ≤ room g.lent.backward
  within_backward = omega (arith, p.at.bwd_count.is, p.at.bwd_count.within)

  -- the columns are as long as lent
  pub forward_long : length t.forward.entries.bases ≡ room g.lent.forward
  forward_long = ap (λ t. length t.entries.bases) forward_laid ∙ laid_long forward b.levels g.lent.forward p.ok.build.fwd_columns within_forward

  pub backward_long : length t.backward.entries.bases ≡ room g.lent.backward
  backward_long = ap (λ t. length t.entries.bases) backward_laid ∙ laid_long backward b.levels g.lent.backward p.ok.build.bwd_columns within_backward

  pub forward_within : fwd ≤ length t.forward.entries.bases
  forward_within = omega (arith, forward_long, p.at.fwd_count.within)

  pub backward_within : bwd ≤ length t.backward.entries.bases
  backward_within = omega (arith, backward_long, p.at.bwd_count.within)

  abbrev pub held_graph : Stands g.nodes pool (memory m.arcs m.nodes) m.weights x.state b.graph
  held_graph = p.at.rests.standing.stands

  -- the places of v's lists, from where the code reads the first
  pub walk_out : Walk m.arcs 3 (get_or m.nodes (4 * v) 0) (keep (ends_at (memory m.arcs m.nodes) 0 v) held_graph.ids)
  walk_out = outs_walk held_graph v node_in

  pub walk_in : Walk m.arcs 4 (get_or m.nodes (4 * v + 2) 0) (keep (ends_at (memory m.arcs m.nodes) 1 v) held_graph.ids)
  walk_in = own_walk held_graph 1 v (omega arith) node_in

  -- a list is no longer than the pool
  pub few_places : (s : ℕ) → length (keep (ends_at (memory m.arcs m.nodes) s v) held_graph.ids) ≤ invalid
  few_places s =
      let placed = held_graph.placed in
      omega (arith, keep_length (ends_at (memory m.arcs m.nodes) s v) held_graph.ids, placed.count, placed.within, placed.numbered)

  pub nodes_room : 4 * v + 4 ≤ length m.nodes
  nodes_room = omega (arith, held_graph.placed.nodes_room, node_in)

  module _ {out into : ℕ} (out_is : out ≡ length (keep (ends_at (memory m.arcs m.nodes) 0 v) held_graph.ids))
      (into_is : into ≡ length (keep (ends_at (memory m.arcs m.nodes) 1 v) held_graph.ids)) where
    out_count : out ≡ length (arcs_of forward level)
    unfolding arcs_of outs touches
    out_count =
        let long : length (outs b.graph v) ≡ length (keep (ends_at (memory m.arcs m.nodes) 0 v) held_graph.ids) =
        ap length (own_arcs held_graph 0 v (omega arith) node_in) ∙ length-map (keep (ends_at (memory m.arcs m.nodes) 0 v) held_graph.ids) _ in
        out_is ∙ sym long

    in_count : into ≡ length (arcs_of backward level)
    unfolding arcs_of ins touches
    in_count =
        let long : length (ins b.graph v) ≡ length (keep (ends_at (memory m.arcs m.nodes) 1 v) held_graph.ids) =
        ap length (own_arcs held_graph 1 v (omega arith) node_in) ∙ length-map (keep (ends_at (memory m.arcs m.nodes) 1 v) held_graph.ids) _ in
        into_is ∙ sym long

    more_out : more c v b forward ≡ fwd + out
    more_out = omega (arith, p.at.fwd_count.is, out_count)

    more_in : more c v b backward ≡ bwd + into
    more_in = omega (arith, p.at.bwd_count.is, in_count)

    -- refusal 11
    pub full_forward : {t' : Parts} {m' : Lent} → length t.forward.entries.bases - fwd < out → Came c (rank_step c v b) t' m' (Err Entries)
    full_forward h = stopped (short_forward c v b (omega (arith, more_out, forward_long, forward_within)))

    pub full_backward : {t' : Parts} {m' : Lent} → out ≤ length t.forward.entries.bases - fwd → length t.backward.entries.bases - bwd < into →
        Came c (rank_step c v b) t' m' (Err Entries)
    full_backward f h =
        stopped
        (short_backward c v b (omega (arith, more_out, forward_long, forward_within)) (omega (arith, more_in, backward_long, backward_within)))

    module _ (fits_out : out ≤ length t.forward.entries.bases - fwd) (fits_in : into ≤ length t.backward.entries.bases - bwd) where
      pub layable_forward : Layable (memory m.arcs m.nodes) m.weights 0 (get_or m.nodes (4 * v) 0) (arcs_of forward level) r fwd t.forward
      unfolding arcs_of
      layable_forward =
          record {
            two = omega arith;
            reads = rw (first_out (memory m.arcs m.nodes) v) (reads_outs held_graph v node_in);
            even = rw forward_laid (laid_even forward b.levels g.lent.forward p.ok.build.fwd_columns within_forward);
            room = omega (arith, out_count, fits_out, forward_within);
            start_room =
                omega (
                  arith,
                  ap (λ t. length t.starts) forward_laid,
                  laid_starts forward b.levels g.lent.forward p.ok.build.fwd_columns within_forward
                      (omega (arith, p.ok.build.fwd_starts, p.rank, inside, p.ok.build.order_length)),
                  p.ok.build.fwd_starts,
                  inside,
                  p.ok.build.order_length,
                );
            small = small_forward;
          }

      pub layable_backward : Layable (memory m.arcs m.nodes) m.weights 1 (get_or m.nodes (4 * v + 2) 0) (arcs_of backward level) r bwd t.backward
      unfolding arcs_of
      layable_backward =
          record {
            two = omega arith;
            reads = reads_ins held_graph v node_in;
            even = rw backward_laid (laid_even backward b.levels g.lent.backward p.ok.build.bwd_columns within_backward);
            room = omega (arith, in_count, fits_in, backward_within);
            start_room =
                omega (
                  arith,
                  ap (λ t. length t.starts) backward_laid,
                  laid_starts backward b.levels g.lent.backward p.ok.build.bwd_columns within_backward
                      (omega (arith, p.ok.build.bwd_starts, p.rank, inside, p.ok.build.order_length)),
                  p.ok.build.bwd_starts,
                  inside,
                  p.ok.build.order_length,
                );
            small = small_backward;
          }

      pub contractible : Contractible m pool x v g.nodes b.graph
      contractible =
          record {
            entering =
                record {
                  resting = p.at.rests;
                  node = node_in;
                  fits = omega (arith, p.at.base, p.rank, few_ranks, held_graph.placed.numbered);
                };
            loopless = p.run.graph.loopless;
          }

      enough_out : more c v b forward ≤ room g.lent.forward
      enough_out = omega (arith, more_out, forward_long, forward_within)

      enough_in : more c v b backward ≤ room g.lent.backward
      enough_in = omega (arith, more_in, backward_long, backward_within)

      pub step_stopped : {t'' : Parts} {m'' : Lent} {w : Result Work Refusal} → Contracts m m'' pool x v limit w → (e : Refusal) → w ≡ Err e →
          Came c (rank_step c v b) t'' m'' (Err e)
      step_stopped contracts e is =
          stopped (step_stops c v b enough_out enough_in (number_of e) ((contracts g.nodes b.graph contractible).no e is))

      module _ {t' : Parts}
          (laid_out : Lays m.arcs m.weights 0 (get_or m.nodes (4 * v) 0) v r fwd t.forward t'.forward)
          (laid_in : Lays m.arcs m.weights 1 (get_or m.nodes (4 * v + 2) 0) v r bwd t.backward t'.backward) where
        all_laid : t' ≡ laid_parts (with_level b.levels v b.graph) g.lent
        unfolding laid_parts side_of
        all_laid =
            let f : t'.forward ≡ laid_part forward (with_level b.levels v b.graph) (part_of g.lent.forward) =
            laid_out m.nodes _ layable_forward b.levels level (part_of g.lent.forward) forward_laid (sym p.rank) p.at.fwd_count.is refl refl
            in
            let k : t'.backward ≡ laid_part backward (with_level b.levels v b.graph) (part_of g.lent.backward) =
            laid_in m.nodes _ layable_backward b.levels level (part_of g.lent.backward) backward_laid (sym p.rank) p.at.bwd_count.is refl refl
            in
            λ i. parts (f i) (k i)

        pub step_came : {m' : Lent} {w : Result Work Refusal} → Contracts m m' pool x v limit w → (y : Work) → w ≡ Ok y →
            Came c (rank_step c v b) t' m' (Ok (record { work = y; fwd = fwd + out; bwd = bwd + into }))
        step_came contracts y e =
            let done = (contracts g.nodes b.graph contractible).came y e in
            let long : length (with_level b.levels v b.graph) ≡ length b.levels + 1 = length-append b.levels (level ∷ []) in
            came (record { graph = done.graph; levels = with_level b.levels v b.graph })
            (step_goes c v b enough_out enough_in done.graph done.is)
            (record {
              rests = done.rests;
              base = omega (arith, done.base, p.at.base, long, held_graph.placed.numbered);
              laid = all_laid;
              fwd_count = record { is = sym (count_more forward b.levels level ∙ more_out); within = omega (arith, enough_out, more_out) };
              bwd_count = record { is = sym (count_more backward b.levels level ∙ more_in); within = omega (arith, enough_in, more_in) };
            })
