-- Each return is a field of `Shape` that fails, or all that hold.
use native.Mathlib.Omega.{arith}
use Rattle.rules.specs.Columns.{begin, room}
use Rattle.rules.specs.TableRules.{used}
use Rattle.rules.proofs.Decides.{no, decides_as}
use Rattle.tables.proofs.shaped.Goals as goal

pub returns-then-t-room : goal.returns-then-t-room
unfolding room
returns-then-t-room c = no (λ f. c.if-t-room.true f.columns.neighbours)

pub returns-then-t-ne0 : goal.returns-then-t-ne0
unfolding begin
returns-then-t-ne0 c = no (λ f. c.if-t-ne0.true f.begin_at_0)

pub returns-then-room-t : goal.returns-then-room-t
unfolding used begin room
returns-then-room-t c = no (λ f. omega (arith, f.end_within, c.if-room-t.true))

pub returns : goal.returns
unfolding used begin room
returns c =
    decides_as c.never_fall.ensures (
      λ f.
          record {
            columns = record { neighbours = c.if-t-room.false; weights = c.if-t-room-2.false; in_numbers = c.if-t-room-3.false; out_numbers = c.if-t-room-4.false };
            places_for_starts = c.if-t-n.false;
            begin_at_0 = c.if-t-ne0.false;
            never_fall = f;
            end_within = c.if-room-t.false;
          },
      λ f. f.never_fall,
    )
