-- `offer` meets its contract: `Offers` has a law for either answer of the test.
use mathlib.Core.Path.{ap, ◌∙◌}
use native.Mathlib.Omega.{arith}
use lib.ListN.{length}
use Rattle.search.specs.declared.witness_search.WitnessSearch.{WitnessSearch}
use Rattle.search.proofs.Labels.{put_label_long}
use Rattle.search.proofs.Offers.{offered_not, offered_new}
use Rattle.search.proofs.witness_search.LentSearch.offer.Goals as goal

pub returns-then-weight-get_current_weight-clause-offered : goal.returns-then-weight-get_current_weight-clause-offered
returns-then-weight-get_current_weight-clause-offered c =
    λ n search inside x.
    let rest = c.update_node.ensures.rest in
    let len = ap (λ (r : WitnessSearch). r.len) rest.round in
    rw (c.update_node.ensures.label, len)
    (offered_new x c.args.v c.args.weight inside
    (omega (arith, c.if-weight-get_current_weight.true, c.get_current_weight.ensures))
    c.requires.heap_room
    (rw (rest.heap, len) at c.push.ensures))

pub returns-then-weight-get_current_weight-clause-kept : goal.returns-then-weight-get_current_weight-clause-kept
returns-then-weight-get_current_weight-clause-kept c =
    let node = c.update_node.ensures in
    record {
      labels_name = node.rest.labels_name;
      heap_name = node.rest.heap_name;
      labels = ap length node.label ∙ put_label_long _ _ _ _;
      heap = c.push.ensures.long ∙ ap length node.rest.heap;
    }

pub returns-else-weight-get_current_weight-clause-offered : goal.returns-else-weight-get_current_weight-clause-offered
returns-else-weight-get_current_weight-clause-offered c =
    λ n search inside x.
    offered_not x c.args.v c.args.weight inside (omega (arith, c.if-weight-get_current_weight.false, c.get_current_weight.ensures))
