-- `take` meets its contract: the first entry's node is settled already, or is settled now.
use mathlib.Core.Path.{sym, ap, ◌∙◌}
use mathlib.Core.Bool.{not}
use Rattle.rules.specs.Search.{with_heap}
use Rattle.search.proofs.Offers.{label_room}
use Rattle.search.proofs.Takes.{leaves_reached, taken_over, taken_settling, taken_settled}
use Rattle.search.proofs.witness_search.LentSearch.take.Goals as goal

pub is_settled-requires : goal.is_settled-requires
is_settled-requires c =
    let x = c.requires.2 in
    label_room x.asked.ready.searching _ (leaves_reached x c.pop-top.ensures).inside

pub returns-then-is_settled-clause-takes : goal.returns-then-is_settled-clause-takes
returns-then-is_settled-clause-takes c = λ w s x. taken_over x c.pop-top.ensures _ (sym c.is_settled.ensures ∙ c.if-is_settled.true)

pub settle-requires : goal.settle-requires
settle-requires c =
    let r = c.requires in
    (r.0, with_heap _ r.1, taken_settling r.2 c.pop-top.ensures (sym c.is_settled.ensures ∙ c.if-is_settled.false))

pub returns-clause-takes : goal.returns-clause-takes
returns-clause-takes c =
    let off = sym c.is_settled.ensures ∙ c.if-is_settled.false in
    let popped = c.pop-top.ensures in
    let e = c.settle.ensures in
    λ w s x.
    rw e.round.settled
    (taken_settled x popped off _ (e.settles w (with_heap _ s) (taken_settling x popped off))
    e.kept.heap (ap not (rw e.round.base at c.reached.ensures)))
