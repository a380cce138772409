-- The search of a query: from entered ends and the first step, through the rounds.
use mathlib.Core.Path.{sym, ◌∙◌}
use Rattle.std.proofs.Common.{rules, ◌≤◌, get_or}
use Rattle.rules.specs.Numbers.{invalid}
use Rattle.rules.specs.Columns.{forward, backward, table, begin}
use Rattle.rules.specs.TableRules.{used}
use Rattle.halves.proofs.Slices.{kept_on}
use Rattle.path_calculator.proofs.Entered.{all_small, entering, running, searched_is, fwd_left, bwd_left}
use Rattle.path_calculator.proofs.search.Goals as goal

pub first_step-best-requires : goal.first_step-best-requires
first_step-best-requires c =
    let s = c.requires.1 in
    (all_small _ _ _ s.accepted.sources, all_small _ _ _ s.accepted.targets)

pub enter-requires : goal.enter-requires
enter-requires c =
    let s = c.requires.1 in
    (c.requires.0.fwd_empty, entering _ _ _ s.accepted.sources _ _ _ s.fwd_labels s.fwd_heap)

pub enter-requires-2 : goal.enter-requires-2
enter-requires-2 c =
    let s = c.requires.1 in
    (c.requires.0.bwd_empty, entering _ _ _ s.accepted.targets _ _ _ s.bwd_labels s.bwd_heap)

pub bounds-g-n : goal.bounds-g-n
unfolding table
bounds-g-n c = (c.requires.1.accepted.rules.side_rules forward).places_for_starts

pub bounds-g-n-2 : goal.bounds-g-n-2
unfolding table
bounds-g-n-2 c = (c.requires.1.accepted.rules.side_rules backward).places_for_starts

pub rounds-requires : goal.rounds-requires
rounds-requires c =
    let f = c.enter.ensures in
    let b = c.enter-2.ensures in (
      b.kept.base ∙ c.requires.0.base ∙ sym f.kept.base,
      rw f.kept.base
          (running _ _ _ _ _ _ _ _ _ _ _ c.requires.1 _ _ _ _ _ _ _ f.enters (rw c.requires.0.base at b.enters) c.first_step-best.ensures
          f.kept.labels b.kept.labels f.kept.heap b.kept.heap),
    )

pub returns : goal.returns
unfolding used begin
returns c =
    let few_fwd : get_or c.args.g.now.fwd.starts.now c.args.g.now.num_nodes 0 ≤ invalid = search rules in
    let few_bwd : get_or c.args.g.now.bwd.starts.now c.args.g.now.num_nodes 0 ≤ invalid = search rules in
    let f = c.enter.ensures in
    let b = c.enter-2.ensures in
    let into = rw c.requires.0.base at b.enters in
    let ran = rw f.kept.base at c.rounds.ensures.ran in
    record {
      searched =
          record {
            is = λ s.
                searched_is _ _ _ _ _ _ _ _ _ _ _ s _ _ _ _ _ _ _ f.enters into c.first_step-best.ensures
                f.kept.labels b.kept.labels f.kept.heap b.kept.heap _ _ _ _ _ ran;
            earlier =
                record {
                  fwd = fwd_left c.requires.1 f.enters ran;
                  bwd = bwd_left c.requires.1 into ran;
                };
            few_fwd = few_fwd;
            few_bwd = few_bwd;
          };
      fwd_kept = kept_on f.kept c.rounds.ensures.fwd_kept;
      bwd_kept = kept_on b.kept c.rounds.ensures.bwd_kept;
    }
