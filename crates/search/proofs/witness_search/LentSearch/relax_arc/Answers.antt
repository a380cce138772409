-- `relax_arc` meets its contract: `cross`, by its test.
use Rattle.heap.specs.Items.{pair}
use Rattle.search.proofs.Crossing.{cross_offer}
use Rattle.search.proofs.Offers.{crossed_not}
use Rattle.search.proofs.witness_search.LentSearch.relax_arc.Goals as goal

pub returns-then-avoided-clause-crossed : goal.returns-then-avoided-clause-crossed
returns-then-avoided-clause-crossed c = λ n search inside x. crossed_not x c.args.self.now.round.avoid c.args.head c.args.weight c.if-avoided.true

pub returns-clause-crossed : goal.returns-clause-crossed
returns-clause-crossed c =
    λ n search inside x.
    rw (cross_offer c.args.self.now.round.avoid (pair c.args.weight c.args.head) search c.if-avoided.false) (c.offer.ensures.offered n search inside x)
