-- Where the arms of the branch meet, the stamp is `kept_stamp`.
use mathlib.Core.Path.{◌≡◌, ap}
use Prim.Native.Nat.{◌+◌, ◌*◌}
use lib.ListN.{set}
use borrow.Author.Tests.{lt-ltb, le-ltb}
use Rattle.halves.specs.Labels.{kept_stamp, put_label}
use Rattle.halves.proofs.Half.update_node.Goals as goal
use Rattle.halves.proofs.Half.update_node.Goals.{Joined-stamp-self, then-stamp-self, else-stamp-self}

joined : (c : Joined-stamp-self) →
    let a = c.args in
    c.if-stamp-self.stamp ≡ kept_stamp a.self.now.labels.now a.self.now.base a.v
unfolding kept_stamp
joined c =
    elim c.if-stamp-self.branch [
      | then-stamp-self w ↦ rw (lt-ltb _ _ w.if-stamp-self.true, kept_stamp) w.stamp-is
      | else-stamp-self w ↦ rw (le-ltb _ _ w.if-stamp-self.false, kept_stamp) w.stamp-is
    ]

pub returns-clause-label : goal.returns-clause-label
unfolding put_label
returns-clause-label c =
    let a = c.args in
    let l = a.label in
    ap (set (set (set (set a.self.now.labels.now (4 * a.v) l.weight) (4 * a.v + 1) l.parent) (4 * a.v + 2) l.via) (4 * a.v + 3)) (joined (goal.at.returns-clause-label c).Joined-stamp-self)
