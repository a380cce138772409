-- Rows 1 to 8, row 9, and then the build.
use mathlib.Core.Path.{◌≡◌, sym, ◌∙◌}
use mathlib.Core.Bool.{Bool, false}
use native.Mathlib.Omega.{arith}
use Rattle.std.proofs.Common.{rules}
use lib.ListN.{length}
use Rattle.std.proofs.lemmas.Result.{err_from_is_err_and}
use Rattle.rules.specs.Refusals.{BuildCall, lent_short, build_refusal}
use Rattle.rules.proofs.Members.{in_get_d}
use Rattle.input_graph.specs.Given.{links}
use Rattle.marks.specs.Tables.{table_of, hierarchy}
use Rattle.contraction.specs.Ranks.{given, call}
use Rattle.refusals.specs.Measures.{Refuses, lent_short_by, uneven_by}
use Rattle.rules.proofs.Refused.{some_number}
use Rattle.fast_graph_builder.specs.Promises.{lengths}
use Rattle.fast_graph_builder.proofs.Passing.{nodes_few, turned_away, too_short, let_in, let_in_built, by_lengths}
use Rattle.fast_graph_builder.proofs.build_with_order.Goals as goal
use Rattle.fast_graph_builder.proofs.build_with_order.Goals.{Start}

-- the call that the arguments are
abbrev asked : (c : Start) → BuildCall
asked s =
    let a = s.args in
    call
    (given a.n (links a.tails.now a.heads.now a.link_weights.now) a.order.now
    (hierarchy a.ranks.now (table_of a.fwd_starts.now a.fwd_bases.now a.fwd_neighbours.now a.fwd_weights.now a.fwd_ins.now a.fwd_outs.now) (table_of a.bwd_starts.now a.bwd_bases.now a.bwd_neighbours.now a.bwd_weights.now a.bwd_ins.now a.bwd_outs.now))
    (lengths a.arcs.now a.weights.now a.nodes.now a.labels.now a.heap.now))
    a.limit
    a.pool

-- row 9 is met exactly where `lent_short` says so
row_nine : (s : Start) {r : Bool} →
    let a = s.args in
    r ≡ lent_short_by a.n a.pool (length a.ranks.now)
    (uneven_by a.n (length a.fwd_starts.now) (length a.fwd_bases.now) (length a.fwd_neighbours.now) (length a.fwd_weights.now) (length a.fwd_ins.now) (length a.fwd_outs.now))
    (uneven_by a.n (length a.bwd_starts.now) (length a.bwd_bases.now) (length a.bwd_neighbours.now) (length a.bwd_weights.now) (length a.bwd_ins.now) (length a.bwd_outs.now))
    (lengths a.arcs.now a.weights.now a.nodes.now a.labels.now a.heap.now) →
    lent_short (asked s) ≡ r
row_nine s e =
    let a = s.args in
    by_lengths a.n a.limit a.pool (links a.tails.now a.heads.now a.link_weights.now) a.order.now a.ranks.now a.fwd_starts.now a.fwd_bases.now a.fwd_neighbours.now a.fwd_weights.now a.fwd_ins.now a.fwd_outs.now a.bwd_starts.now a.bwd_bases.now a.bwd_neighbours.now a.bwd_weights.now a.bwd_ins.now a.bwd_outs.now a.arcs.now a.weights.now a.nodes.now a.labels.now a.heap.now ∙ sym e

-- past both tests no row is met
passed : (s : Start) → Refuses s.args.n (links s.args.tails.now s.args.heads.now s.args.link_weights.now) s.args.order.now 0 →
    lent_short (asked s) ≡ false → build_refusal (asked s) ≡ 0
passed s none = let_in (asked s) (sym none)

pub returns-in_err-refusal : goal.returns-in_err-refusal
returns-in_err-refusal c =
    let told = err_from_is_err_and c.from_residual.result c.from_residual.ensures.1 in
    rw (told.1, told.2) (turned_away _ _ c.in_err-refusal.ensures (some_number _))

pub lent_short-requires : goal.lent_short-requires
lent_short-requires c = nodes_few _ _ _ (sym c.in_ok-refusal.ensures)

pub returns-then-lent_short : goal.returns-then-lent_short
returns-then-lent_short c =
    let s = (goal.at.returns-then-lent_short c).Start in
    too_short (asked s) (sym c.in_ok-refusal.ensures) (row_nine s (rw (c.of.ensures, c.of-2.ensures) at c.lent_short.ensures) ∙ c.if-lent_short.true)

pub build_checked-requires : goal.build_checked-requires
build_checked-requires c =
    let s = (goal.at.build_checked-requires c).Start in
    record {
      accepted = passed s c.in_ok-refusal.ensures (row_nine s (rw (c.of.ensures, c.of-2.ensures) at c.lent_short.ensures) ∙ c.if-lent_short.false);
      weights = λ w k. let i = in_get_d w _ 0 k in omega (arith, i.2, (c.type_inv.link_weights i.0).fits);
    }

pub returns : goal.returns
returns c =
    let s = (goal.at.returns c).Start in
    let h = c.build_checked.ensures.runs
    ∙ let_in_built (asked s) (passed s c.in_ok-refusal.ensures (row_nine s (rw (c.of.ensures, c.of-2.ensures) at c.lent_short.ensures) ∙ c.if-lent_short.false)) in
    search (rules, h)
