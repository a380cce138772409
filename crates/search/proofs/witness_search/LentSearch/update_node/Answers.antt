-- `update_node` meets its contract: where the arms of the branch meet, the stamp is `kept_stamp`.
use mathlib.Core.Path.{◌≡◌, ap}
use Prim.Native.Nat.{◌+◌, ◌*◌}
use lib.ListN.{set}
use borrow.Author.Tests.{lt-ltb, le-ltb}
use Rattle.search.specs.Labels.{kept_stamp, put_label}
use Rattle.search.proofs.witness_search.LentSearch.update_node.Goals as goal
use Rattle.search.proofs.witness_search.LentSearch.update_node.Goals.{Joined-earlier, then-earlier, else-earlier}

joined : (c : Joined-earlier) →
    let a = c.args in
    c.if-earlier.stamp ≡ kept_stamp a.self.now.labels.now a.self.now.round.base a.v
unfolding kept_stamp
joined c =
    elim c.if-earlier.branch [
      | then-earlier w ↦ rw (lt-ltb _ _ w.if-earlier.true, kept_stamp) w.stamp-is
      | else-earlier w ↦ rw (le-ltb _ _ w.if-earlier.false, kept_stamp) w.stamp-is
    ]

pub returns-clause-label : goal.returns-clause-label
unfolding put_label
returns-clause-label c =
    let a = c.args in
    ap (set (set a.self.now.labels.now (2 * a.v) a.weight) (2 * a.v + 1)) (joined (goal.at.returns-clause-label c).Joined-earlier)
