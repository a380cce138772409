-- Each return is the first row that is met, by the tests that led there.
use Rattle.input_graph.proofs.Rows.{too_many, uneven_heads, uneven_weights, too_long, row_3, row_4, row_5, row_6, no_row}
use Rattle.input_graph.proofs.check_graph.Goals as goal
use Rattle.input_graph.proofs.check_graph.Goals.{then-heads-count-via-then-heads-count, then-heads-count-via-else-heads-count+then-weights-count, then-heads-count-via-else-heads-count+else-weights-count+then-count-gt-MAX_LINKS}

pub returns-then-n-gt-MAX_NODES : goal.returns-then-n-gt-MAX_NODES
returns-then-n-gt-MAX_NODES c = too_many _ _ _ _ c.if-n-gt-MAX_NODES.true

pub returns-then-heads-count : goal.returns-then-heads-count
returns-then-heads-count c =
    let few = c.if-n-gt-MAX_NODES.false in
    elim c.then-heads-count.branch [
      | then-heads-count-via-then-heads-count w ↦ uneven_heads _ _ _ _ few w.if-heads-count.true
      | then-heads-count-via-else-heads-count+then-weights-count w ↦ uneven_weights _ _ _ _ few w.if-heads-count.false w.if-weights-count.true
      | then-heads-count-via-else-heads-count+else-weights-count+then-count-gt-MAX_LINKS w ↦
          too_long _ _ _ _ few w.if-heads-count.false w.if-weights-count.false w.if-count-gt-MAX_LINKS.true
    ]

pub returns-then-names_above : goal.returns-then-names_above
returns-then-names_above c = row_3 _ _ _ _ c.if-n-gt-MAX_NODES.false c.if-heads-count.false c.if-weights-count.false c.if-count-gt-MAX_LINKS.false c.if-names_above.ensures

pub returns-then-has_loop : goal.returns-then-has_loop
returns-then-has_loop c = row_4 _ _ _ _ c.if-n-gt-MAX_NODES.false c.if-heads-count.false c.if-weights-count.false c.if-count-gt-MAX_LINKS.false c.if-names_above.ensures c.if-has_loop.ensures

pub returns-then-has_zero : goal.returns-then-has_zero
returns-then-has_zero c = row_5 _ _ _ _ c.if-n-gt-MAX_NODES.false c.if-heads-count.false c.if-weights-count.false c.if-count-gt-MAX_LINKS.false c.if-names_above.ensures c.if-has_loop.ensures c.if-has_zero.ensures

pub returns-then-ascend : goal.returns-then-ascend
returns-then-ascend c = no_row _ _ _ _ c.if-n-gt-MAX_NODES.false c.if-heads-count.false c.if-weights-count.false c.if-count-gt-MAX_LINKS.false c.if-names_above.ensures c.if-has_loop.ensures c.if-has_zero.ensures c.if-ascend.ensures

pub returns-else-ascend : goal.returns-else-ascend
returns-else-ascend c = row_6 _ _ _ _ c.if-n-gt-MAX_NODES.false c.if-heads-count.false c.if-weights-count.false c.if-count-gt-MAX_LINKS.false c.if-names_above.ensures c.if-has_loop.ensures c.if-has_zero.ensures c.if-ascend.ensures
