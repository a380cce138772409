-- The ranks are laid with a pool that is as good, and then the rest follows.
use mathlib.Core.Path.{◌∙◌}
use Rattle.search.specs.Searching.{Lent, lent}
use Rattle.marks.proofs.Keeping.{columns_kept_on}
use Rattle.fast_graph_builder.proofs.Passing.{few, accepting, closing_columns, as_built}
use Rattle.fast_graph_builder.proofs.build_checked.Goals as goal
use Rattle.fast_graph_builder.proofs.build_checked.Goals.{Start}

abbrev scratch : (c : Start) → Lent
scratch s = lent s.args.arcs.now s.args.weights.now s.args.nodes.now s.args.labels.now s.args.heap.now

pub pool_inside-inside-requires : goal.pool_inside-inside-requires
pool_inside-inside-requires c = few (scratch (goal.at.pool_inside-inside-requires c).Start) c.requires

pub contraction-ranked-requires : goal.contraction-ranked-requires
contraction-ranked-requires c = (_, _, accepting (scratch (goal.at.contraction-ranked-requires c).Start) c.requires c.pool_inside-inside.ensures)

-- what closes the tables, from what the contraction left
pub close-requires : goal.close-requires
close-requires c =
    let s = scratch (goal.at.close-requires c).Start in
    let ranked = c.contraction-ranked.ensures in
    let here = c.pool_inside-inside.ensures in
    (_, _, _, _, closing_columns s c.requires here ranked.fwd_kept ranked.bwd_kept (ranked.comes _ _ (accepting s c.requires here)))

pub returns : goal.returns
returns c =
    let s = scratch (goal.at.returns c).Start in
    let ranked = c.contraction-ranked.ensures in
    let here = c.pool_inside-inside.ensures in
    let closed = c.close.ensures in
    record {
      runs =
          closed.closes _ _ _ _ (closing_columns s c.requires here ranked.fwd_kept ranked.bwd_kept (ranked.comes _ _ (accepting s c.requires here)))
          ∙ as_built s c.requires here;
      fwd_kept = columns_kept_on ranked.fwd_kept.columns closed.fwd_kept;
      bwd_kept = columns_kept_on ranked.bwd_kept.columns closed.bwd_kept;
    }
