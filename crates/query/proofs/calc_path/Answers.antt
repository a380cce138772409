-- The refusals first; a query that none of them meets is answered by `route`, over cleared labels.
use mathlib.Core.Path.{◌≡◌, refl, sym, ◌∙◌}
use Rattle.std.proofs.lemmas.Result.{err_from_is_err_and}
use Rattle.rules.specs.Refusals.{query_refusal}
use Rattle.rules.proofs.Refused.{some_number}
use Rattle.query_laws.proofs.Accepted.{accepted}
use Rattle.path_calculator.specs.Searching.{call_of}
use Rattle.query.specs.Routes.{scratch_of}
use Rattle.halves.proofs.Slices.{long_all, labels_long, started_long}
use Rattle.query.proofs.Found.{rooms, routing, tells_routed}
use Rattle.query.proofs.Handing.{tells_refused}
use Rattle.query.proofs.calc_path.Goals as goal
use Rattle.query.proofs.calc_path.Goals.{In_ok-refusal}

fine : (c : In_ok-refusal) →
    let a = c.args in
    query_refusal (call_of a.g.now a.sources.now a.targets.now a.path.now (scratch_of a.fwd.now a.bwd.now)) ≡ 0
fine c = sym (rw (c.lengths.ensures, c.lengths-2.ensures) at c.in_ok-refusal.ensures)

pub returns-in_err-refusal : goal.returns-in_err-refusal
returns-in_err-refusal c =
    let p = err_from_is_err_and c.from_residual.result c.from_residual.ensures.1 in
    record {
      tells = rw (p.1, p.2) (tells_refused _ _ (rw (c.lengths.ensures, c.lengths-2.ensures) at c.in_err-refusal.ensures) (some_number _));
      fwd_kept = long_all _;
      bwd_kept = long_all _;
    }

pub clear-requires : goal.clear-requires
clear-requires c = (rooms _ _ _ _ _ _ (accepted _ (fine (goal.at.clear-requires c).In_ok-refusal)).scratch_room).0

pub clear-requires-2 : goal.clear-requires-2
clear-requires-2 c = (rooms _ _ _ _ _ _ (accepted _ (fine (goal.at.clear-requires-2 c).In_ok-refusal)).scratch_room).1

pub route-requires : goal.route-requires
route-requires c =
    let x = c.start.ensures in
    let y = c.start-2.ensures in (
      record { base = y.base_is ∙ sym x.base_is; fwd_empty = x.empty; bwd_empty = y.empty },
      rw (x.labels, x.heap, x.base_is, y.labels, y.heap)
          (routing _ _ _ _ _ _ _ _ _ _ _ (fine (goal.at.route-requires c).In_ok-refusal) _ _ c.clear.auto.labels c.clear-2.auto.labels c.clear.ensures c.clear-2.ensures),
    )

pub returns : goal.returns
returns c =
    let x = c.start.ensures in
    let y = c.start-2.ensures in
    let r = c.route.ensures in
    record {
      tells =
          tells_routed _ _ _ _ _ _ _ _ _ _ _ (fine (goal.at.returns c).In_ok-refusal) _ _ c.clear.auto.labels c.clear-2.auto.labels
          (rw (x.labels, x.heap, x.base_is, y.labels, y.heap) at r.routed);
      fwd_kept = labels_long refl c.clear.auto.labels refl (started_long x r.fwd_kept);
      bwd_kept = labels_long refl c.clear-2.auto.labels refl (started_long y r.bwd_kept);
    }
