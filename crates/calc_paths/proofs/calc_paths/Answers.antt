-- The rows of the whole call first; a call that meets none is filled pair by pair, over cleared labels.
use mathlib.Core.Path.{◌≡◌, refl, sym}
use Rattle.std.proofs.lemmas.Result.{err_from_is_err_and}
use Rattle.rules.proofs.Refused.{some_number}
use Rattle.halves.proofs.Slices.{long_all, labels_long}
use Rattle.tables.specs.Lent.{hierarchy_of}
use Rattle.query.specs.Routes.{scratch_of}
use Rattle.calc_paths.specs.Many.{paths_refusal}
use Rattle.calc_paths.specs.Filling.{columns_of, paths_call}
use Rattle.calc_paths.proofs.Rows.{refused_whole, labels_room, cleared_fillable, filled_whole}
use Rattle.calc_paths.proofs.calc_paths.Goals as goal
use Rattle.calc_paths.proofs.calc_paths.Goals.{In_ok-refusal}

fine : (c : In_ok-refusal) →
    let a = c.args in
    paths_refusal (paths_call a.g.now.num_nodes (hierarchy_of a.g.now) a.sources.now a.targets.now (columns_of a.numbers.now a.weights.now a.lengths.now a.paths.now) (scratch_of a.fwd.now a.bwd.now)) ≡ 0
unfolding paths_refusal
fine c = sym (rw (c.lengths.ensures, c.lengths-2.ensures) at c.in_ok-refusal.ensures)

pub returns-in_err-refusal : goal.returns-in_err-refusal
unfolding paths_refusal
returns-in_err-refusal c =
    let p = err_from_is_err_and c.from_residual.result c.from_residual.ensures.1 in
    record {
      answers = rw (p.1, p.2) (refused_whole _ _ _ _ _ _ _ (rw (c.lengths.ensures, c.lengths-2.ensures) at c.in_err-refusal.ensures) (some_number _));
      fwd_kept = long_all _;
      bwd_kept = long_all _;
    }

pub clear-requires : goal.clear-requires
unfolding paths_refusal
clear-requires c = (labels_room _ _ _ _ _ _ _ _ _ (fine (goal.at.clear-requires c).In_ok-refusal)).0

pub clear-requires-2 : goal.clear-requires-2
unfolding paths_refusal
clear-requires-2 c = (labels_room _ _ _ _ _ _ _ _ _ (fine (goal.at.clear-requires-2 c).In_ok-refusal)).1

pub fill_all-requires : goal.fill_all-requires
fill_all-requires c = cleared_fillable _ _ _ _ _ _ _ _ _ (fine (goal.at.fill_all-requires c).In_ok-refusal) _ _ c.clear.auto.labels c.clear-2.auto.labels c.clear.ensures c.clear-2.ensures

pub returns : goal.returns
returns c =
    let a = c.fill_all.ensures in
    record {
      answers = filled_whole _ _ _ _ _ _ _ _ _ (fine (goal.at.returns c).In_ok-refusal) _ _ c.clear.auto.labels c.clear-2.auto.labels a.fills;
      fwd_kept = labels_long refl c.clear.auto.labels refl a.fwd_kept;
      bwd_kept = labels_long refl c.clear-2.auto.labels refl a.bwd_kept;
    }
