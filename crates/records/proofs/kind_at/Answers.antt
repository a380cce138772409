-- Each return is by the byte that was looked at.
use mathlib.Core.Path.{refl}
use Rattle.records.proofs.Reading.{wrong_tag, wrong_second, wrong_kind, cut_short, stands_whole, at_the_end, near_the_end}
use Rattle.records.proofs.kind_at.Goals as goal

pub returns-then-end-at : goal.returns-then-end-at
returns-then-end-at c = at_the_end c.args.input.now _ c.if-end-at.true

pub returns-then-end-at-lt3 : goal.returns-then-end-at-lt3
returns-then-end-at-lt3 c = near_the_end c.args.input.now _ c.if-end-at-lt3.true

pub returns-then-input-at-ne110 : goal.returns-then-input-at-ne110
returns-then-input-at-ne110 c = wrong_tag c.args.input.now _ c.if-input-at-ne110.true

pub returns-then-input-at-ne116 : goal.returns-then-input-at-ne116
returns-then-input-at-ne116 c = wrong_second c.args.input.now _ c.if-input-at-ne116.true

pub returns-then-length-eq0 : goal.returns-then-length-eq0
returns-then-length-eq0 c = wrong_kind c.args.input.now _ _ _ refl c.record_length-length.ensures c.if-length-eq0.true

pub returns-then-end-at-2 : goal.returns-then-end-at-2
returns-then-end-at-2 c = cut_short c.args.input.now _ _ _ refl c.record_length-length.ensures c.if-end-at-2.true

pub returns : goal.returns
returns c = stands_whole c.args.input.now _ _ _ refl c.record_length-length.ensures c.if-input-at-ne110.false c.if-input-at-ne116.false c.if-length-eq0.false c.if-end-at-2.false
