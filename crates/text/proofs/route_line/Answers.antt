-- "none", or the parts of a route one after the other.
use borrow.Author.Rules.{rules}
use Rattle.rules.specs.Program.{word_route, word_none, line}
use Rattle.text.proofs.Writing.{wrote_both, fits_first, fits_then, route_parts, route_none}
use Rattle.text.proofs.route_line.Goals as goal

pub put_word-requires : goal.put_word-requires
unfolding line word_none
put_word-requires c = rw (route_none c.args.weight c.args.walk.now (search rules)) at c.requires

pub returns-then-is_empty : goal.returns-then-is_empty
unfolding line word_none
returns-then-is_empty c = rw (route_none c.args.weight c.args.walk.now (search rules)) c.put_word.ensures

pub put_word-end-requires : goal.put_word-end-requires
unfolding word_route
put_word-end-requires c = fits_first _ _ _ (rw (route_parts c.args.weight c.args.walk.now (search rules)) at c.requires)

pub put_decimal-end-requires : goal.put_decimal-end-requires
unfolding word_route
put_decimal-end-requires c =
    let h = rw (route_parts c.args.weight c.args.walk.now (search rules)) at c.requires in
    let g = fits_then _ _ h c.put_word-end.ensures in
    fits_first _ _ _ g

pub put-end-requires : goal.put-end-requires
unfolding word_route
put-end-requires c =
    let h = rw (route_parts c.args.weight c.args.walk.now (search rules)) at c.requires in
    let g = fits_then _ _ h c.put_word-end.ensures in
    fits_first _ _ _ (fits_then _ _ g c.put_decimal-end.ensures)

pub put_nodes-end-requires : goal.put_nodes-end-requires
unfolding word_route
put_nodes-end-requires c =
    let h = rw (route_parts c.args.weight c.args.walk.now (search rules)) at c.requires in
    let g = fits_then _ _ h c.put_word-end.ensures in
    fits_first _ _ _ (fits_then _ _ (fits_then _ _ g c.put_decimal-end.ensures) c.put-end.ensures)

pub put-requires : goal.put-requires
unfolding word_route
put-requires c =
    let h = rw (route_parts c.args.weight c.args.walk.now (search rules)) at c.requires in
    let g = fits_then _ _ h c.put_word-end.ensures in
    fits_then _ _ (fits_then _ _ (fits_then _ _ g c.put_decimal-end.ensures) c.put-end.ensures) c.put_nodes-end.ensures

pub returns : goal.returns
unfolding word_route
returns c =
    rw (route_parts c.args.weight c.args.walk.now (search rules))
    (wrote_both _ _ c.put_word-end.ensures
    (wrote_both _ _ c.put_decimal-end.ensures (wrote_both _ _ c.put-end.ensures (wrote_both _ _ c.put_nodes-end.ensures c.put.ensures))))
