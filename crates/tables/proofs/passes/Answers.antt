-- Each return is a field of `EntryRules` that fails, or all that hold.
use mathlib.Core.Path.{◌≡◌}
use native.Mathlib.Omega.{arith}
use Rattle.rules.specs.Numbers.{invalid}
use Rattle.rules.proofs.Decides.{yes, no}
use Rattle.tables.specs.Lent.{columns_of, side_of, entry_of}
use Rattle.tables.proofs.Entries.{readable, Kept, other_rank, no_higher, plain, opened_forward, opened_backward}
use Rattle.tables.proofs.passes.Goals as goal
use Rattle.tables.proofs.passes.Goals.{Else-heavy, Joined-e-eq-INVALID, then-e-eq-INVALID+else-e-eq-INVALID-2, else-e-eq-INVALID}

-- what is known once the weight has passed
kept : (c : Else-heavy) →
    let v = c.args.v.now in
    Kept v.num_nodes v.ranks.now (columns_of v.own) (columns_of v.other) c.requires.0 (side_of c.args.side) c.args.r (entry_of c.args.e)
kept c =
    record {
      base_below = c.if-n-e.false;
      base_rank = c.if-v-e.false;
      neighbour_below = c.if-n-e-2.false;
      neighbour_higher = c.if-v-e-2.false;
      weight_low = omega (arith, c.if-weightless.false);
      weight_high = c.if-heavy.false;
    }

not_plain : (c : Joined-e-eq-INVALID) → let e = c.args.e in (e.in_number ≡ invalid) × (e.out_number ≡ invalid) → ⊥
not_plain c p =
    elim c.if-e-eq-INVALID.branch [
      | then-e-eq-INVALID+else-e-eq-INVALID-2 w ↦ w.if-e-eq-INVALID-2.false p.1
      | else-e-eq-INVALID w ↦ w.if-e-eq-INVALID.false p.0
    ]

pub returns-then-v-e : goal.returns-then-v-e
returns-then-v-e c = no (λ f. other_rank _ _ _ _ c.requires.0 _ _ _ c.if-n-e.false c.if-v-e.true f)

pub returns-then-v-e-2 : goal.returns-then-v-e-2
returns-then-v-e-2 c = no (λ f. no_higher _ _ _ _ c.requires.0 _ _ _ c.if-n-e-2.false c.if-v-e-2.true f)

pub returns-then-e-eq-INVALID-2 : goal.returns-then-e-eq-INVALID-2
returns-then-e-eq-INVALID-2 c = yes (plain _ _ _ _ c.requires.0 _ _ _ (kept (goal.at.returns-then-e-eq-INVALID-2 c).Else-heavy) c.if-e-eq-INVALID.true c.if-e-eq-INVALID-2.true)

pub opens-requires : goal.opens-requires
opens-requires c = let p = c.requires.0 in (p.nodes, readable _ _ p.own_shape, readable _ _ p.other_shape)

pub opens-requires-in-Backward : goal.opens-requires-in-Backward
opens-requires-in-Backward c = let p = c.requires.0 in (p.nodes, readable _ _ p.other_shape, readable _ _ p.own_shape)

pub returns-in-Forward : goal.returns-in-Forward
returns-in-Forward c =
    let k = kept (goal.at.returns-in-Forward c).Else-heavy in
    let not = not_plain (goal.at.returns-in-Forward c).Joined-e-eq-INVALID in
    rw c.in-Forward.is (opened_forward _ _ _ _ c.requires.0 _ _ not c.requires.1 (rw c.in-Forward.is at k) c.opens.ensures)

pub returns-in-Backward : goal.returns-in-Backward
returns-in-Backward c =
    let k = kept (goal.at.returns-in-Backward c).Else-heavy in
    let not = not_plain (goal.at.returns-in-Backward c).Joined-e-eq-INVALID in
    rw c.in-Backward.is (opened_backward _ _ _ _ c.requires.0 _ _ not c.requires.1 (rw c.in-Backward.is at k) c.opens-in-Backward.ensures)
