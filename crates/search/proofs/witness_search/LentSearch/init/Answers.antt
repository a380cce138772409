-- `init` meets its contract: to the next base no node has a label but the start.
use mathlib.Core.Path.{ap, ◌∙◌}
use native.Mathlib.Omega.{arith}
use lib.ListN.{length}
use Rattle.heap.proofs.Laws.{empty_ordered}
use Rattle.search.specs.declared.witness_search.WitnessSearch.{WitnessSearch}
use Rattle.search.proofs.Labels.{put_label_long}
use Rattle.search.proofs.Offers.{started}
use Rattle.search.proofs.witness_search.LentSearch.init.Goals as goal

pub push-requires : goal.push-requires
push-requires c = (omega (arith, c.requires.1.heap_room, ap length c.update_node.ensures.rest.heap), empty_ordered _)

pub returns-clause-starts : goal.returns-clause-starts
returns-clause-starts c =
    let node = c.update_node.ensures in
    λ n x.
    record {
      searching =
          rw (node.label, ap (λ (r : WitnessSearch). r.base) node.rest.round)
          (started c.args.start x.stamped x.fits x.inside x.heap_room (rw node.rest.heap at c.push.ensures));
      counted = ap (λ (r : WitnessSearch). r.settled) node.rest.round;
      next = ap (λ (r : WitnessSearch). r.base) node.rest.round;
      avoids = ap (λ (r : WitnessSearch). r.avoid) node.rest.round;
    }

pub returns-clause-kept : goal.returns-clause-kept
returns-clause-kept c =
    let node = c.update_node.ensures in
    record {
      labels_name = node.rest.labels_name;
      heap_name = node.rest.heap_name;
      labels = ap length node.label ∙ put_label_long _ _ _ _;
      heap = c.push.ensures.long ∙ ap length node.rest.heap;
    }
