-- The pairs that the chain gives are the columns', and the closure orders them by tails and then heads.
use Rattle.std.proofs.Common.{rules}
use Rattle.std.proofs.lemmas.Iterator.{YieldsList-from_slice, YieldsList-from_zip}
use borrow.Author.Tests.{tests}
use Rattle.input_graph.specs.Given.{earlier}
use Rattle.input_graph.proofs.Neighbours.{sorted_by}
use Rattle.input_graph.proofs.ascend.Goals as goal

pub returns : goal.returns
returns c =
    sorted_by _ _ _ earlier _ (λ x y b f k. search (rules, tests)) _ _ _ c.is_sorted_by.ensures.ran
    (YieldsList-from_zip (YieldsList-from_slice c.args.tails.now (search rules)) (YieldsList-from_slice c.args.heads.now (search rules)))
