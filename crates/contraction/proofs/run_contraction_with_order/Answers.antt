-- The invariant: what was done and what is left of the order come to the whole.
use mathlib.Core.Path.{ap}
use Prim.Native.Nat.{◌<◌}
use lib.ListN.{length}
use native.Mathlib.Omega.{arith}
use Rattle.std.proofs.lemmas.Result.{err_from_is_err_and}
use Rattle.graph.proofs.Answering.{kept_all, kept_on}
use Rattle.search.proofs.Laws.{search_kept_all, search_kept_on}
use Rattle.entries.proofs.Keeping.{outs_kept_all, outs_kept_on}
use Rattle.contraction.specs.Ranks.{staged}
use Rattle.contraction.proofs.Ranking.{stopped}
use Rattle.contraction.proofs.Running.{begins, stepping, stepping_as, gives_up, goes_on, is_done}
use Rattle.contraction.proofs.run_contraction_with_order.Goals as goal

pub loop-r-init : goal.loop-r-init
loop-r-init c = (λ n l h s p. begins p, kept_all _, search_kept_all _, outs_kept_all _, outs_kept_all _)

pub rank_step-requires : goal.rank_step-requires
rank_step-requires c =
    let q = c.requires in
    let k = c.loop-r.invariant in
    let y = k.0 q.0 q.1 q.2 q.3 q.4 in
    (_, y.building, _, stepping_as k.1.pool (stepping y (omega arith)))

pub returns-in_err-ranked : goal.returns-in_err-ranked
returns-in_err-ranked c =
    let below : c.loop-r.r < length c.args.order.now = omega arith in
    let k = c.loop-r.invariant in
    let steps = rw k.1.pool at c.rank_step.ensures.steps in
    let is = err_from_is_err_and c.from_residual.result c.from_residual.ensures.1 in
    record {
      starts =
          λ n l h s p.
          let y = k.0 n l h s p in
          rw (is.1, is.2, staged) (stopped (gives_up y below (steps _ y.building _ (stepping y below)) _ (ap (staged _) c.in_err-ranked.was)));
      kept = kept_on k.1 c.rank_step.ensures.kept;
      search_kept = search_kept_on k.2 c.rank_step.ensures.search_kept;
      fwd_kept = outs_kept_on k.3 c.rank_step.ensures.fwd_kept;
      bwd_kept = outs_kept_on k.4 c.rank_step.ensures.bwd_kept;
    }

pub loop-r-preserved : goal.loop-r-preserved
loop-r-preserved c =
    let below : c.loop-r.r < length c.args.order.now = omega arith in
    let k = c.loop-r.invariant in
    let steps = rw k.1.pool at c.rank_step.ensures.steps in (
      λ n l h s p.
          let y = k.0 n l h s p in
          goes_on y below (steps _ y.building _ (stepping y below)) _ (ap (staged _) c.in_ok-ranked.was),
      kept_on k.1 c.rank_step.ensures.kept,
      search_kept_on k.2 c.rank_step.ensures.search_kept,
      outs_kept_on k.3 c.rank_step.ensures.fwd_kept,
      outs_kept_on k.4 c.rank_step.ensures.bwd_kept,
    )

pub returns-clause-starts : goal.returns-clause-starts
returns-clause-starts c = λ n l h s p. is_done (c.loop-r.invariant.0 n l h s p) (omega arith)
