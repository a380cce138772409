-- Each return is a case of `coincide`.
use Rattle.std.proofs.Common.{rules, ◌<◌}
use mathlib.Core.Path.{◌∙◌}
use Rattle.rules.specs.Numbers.{no_weight}
use Rattle.ends.proofs.Steps.{apart, source_out, target_out, both_count}
use Rattle.ends.proofs.coincide.Goals as goal

pub returns-then-source-target : goal.returns-then-source-target
returns-then-source-target c = apart _ _ _ _ _ c.if-source-target.true

pub returns-then-source-eq-WEIGHT_MAX : goal.returns-then-source-eq-WEIGHT_MAX
returns-then-source-eq-WEIGHT_MAX c = source_out _ _ _ _ _ c.if-source-target.false c.if-source-eq-WEIGHT_MAX.true

pub returns-then-target-eq-WEIGHT_MAX : goal.returns-then-target-eq-WEIGHT_MAX
returns-then-target-eq-WEIGHT_MAX c =
    let counts : c.args.source.offset < no_weight = search rules in
    target_out _ _ _ _ _ c.if-source-target.false counts c.if-target-eq-WEIGHT_MAX.true

pub returns : goal.returns
returns c =
    let source_counts : c.args.source.offset < no_weight = search rules in
    let target_counts : c.args.target.offset < no_weight = search rules in
    c.improve.ensures ∙ both_count _ _ _ _ _ c.if-source-target.false source_counts target_counts
