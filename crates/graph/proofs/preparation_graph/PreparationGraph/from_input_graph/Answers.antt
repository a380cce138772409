-- Each turn takes the next number of each column, and its arc comes or is refused.
use mathlib.Core.Path.{◌≡◌, ap}
use Rattle.std.proofs.Common.{inl, inr, ◌≤◌, arith, length, get_or}
use Rattle.std.proofs.lemmas.List.{length_push}
use Rattle.std.proofs.lemmas.Result.{err_from_is_err_and}
use Rattle.rules.specs.Numbers.{invalid}
use Rattle.lists.specs.Memory.{arc}
use Rattle.graph.specs.Promises.{told}
use Rattle.graph.proofs.Answering.{kept_on}
use Rattle.graph.proofs.LinksIn.{taken, spent, next_addable, next_came, next_full, all_came}
use Rattle.graph.proofs.preparation_graph.PreparationGraph.from_input_graph.Goals as goal

pub add_edge_or_shortcut-requires : goal.add_edge_or_shortcut-requires
add_edge_or_shortcut-requires c =
    let i = length c.loop-tail.yielded in
    let k = c.loop-tail.invariant in
    let s = c.in-Some.ensures.steps in
    let tail = taken c.args.tails.now i k.0 s.0.0 in
    let head = taken c.args.heads.now i k.1 s.0.1 in
    let weight = taken c.args.link_weights.now i k.2 s.1 in
    let is : arc c.in-Some.tail.now c.in-Some.head.now c.from.result invalid ≡ arc (get_or c.args.tails.now i 0) (get_or c.args.heads.now i 0) (get_or c.args.link_weights.now i 0) invalid = cc in
    let next = next_addable _ _ _ c.requires.1 i k.3 is tail.0 in
    let here = rw (← k.4.pool) at next in
    (_, _, here)

pub returns-in_err-add_edge_or_shortcut-clause-took_in : goal.returns-in_err-add_edge_or_shortcut-clause-took_in
returns-in_err-add_edge_or_shortcut-clause-took_in c =
    let i = length c.loop-tail.yielded in
    let k = c.loop-tail.invariant in
    let s = c.in-Some.ensures.steps in
    let tail = taken c.args.tails.now i k.0 s.0.0 in
    let head = taken c.args.heads.now i k.1 s.0.1 in
    let weight = taken c.args.link_weights.now i k.2 s.1 in
    let is : arc c.in-Some.tail.now c.in-Some.head.now c.from.result invalid ≡ arc (get_or c.args.tails.now i 0) (get_or c.args.heads.now i 0) (get_or c.args.link_weights.now i 0) invalid = cc in
    let next = next_addable _ _ _ c.requires.1 i k.3 is tail.0 in
    let added = rw k.4.pool at c.add_edge_or_shortcut.ensures.answers in
    let is_told = err_from_is_err_and c.from_residual.result c.from_residual.ensures.1 in
    rw (is_told.1, is_told.2, told) (next_full _ _ _ c.requires.1 i k.3 is tail.0 (added _ _ next) (ap (told _) c.in_err-add_edge_or_shortcut.was))

pub loop-tail-preserved : goal.loop-tail-preserved
loop-tail-preserved c =
    let i = length c.loop-tail.yielded in
    let k = c.loop-tail.invariant in
    let s = c.in-Some.ensures.steps in
    let tail = taken c.args.tails.now i k.0 s.0.0 in
    let head = taken c.args.heads.now i k.1 s.0.1 in
    let weight = taken c.args.link_weights.now i k.2 s.1 in
    let is : arc c.in-Some.tail.now c.in-Some.head.now c.from.result invalid ≡ arc (get_or c.args.tails.now i 0) (get_or c.args.heads.now i 0) (get_or c.args.link_weights.now i 0) invalid = cc in
    let next = next_addable _ _ _ c.requires.1 i k.3 is tail.0 in
    let added = rw k.4.pool at c.add_edge_or_shortcut.ensures.answers in
    rw (length_push c.loop-tail.yielded _)
    (tail.2, head.2, weight.2, next_came _ _ _ c.requires.1 i k.3 is tail.0 (added _ _ next) (ap (told _) c.in_ok-add_edge_or_shortcut.was), kept_on k.4 c.add_edge_or_shortcut.ensures.kept)

pub returns-clause-took_in : goal.returns-clause-took_in
returns-clause-took_in c =
    let i = length c.loop-tail.yielded in
    let k = c.loop-tail.invariant in
    let even = c.requires.1.even in
    let all : length c.args.tails.now ≤ i =
    elim c.in-None.ensures.steps [
      | inl (_, inl (_, tails)) ↦ spent c.args.tails.now i k.0 tails.0
      | inl (_, inr (_, heads)) ↦ omega (arith, spent c.args.heads.now i k.1 heads.0)
      | inr (_, weights) ↦ omega (arith, spent c.args.link_weights.now i k.2 weights.0)
    ] in
    all_came _ _ _ c.requires.1 i k.3 all

pub returns-in_err-add_edge_or_shortcut-clause-kept : goal.returns-in_err-add_edge_or_shortcut-clause-kept
returns-in_err-add_edge_or_shortcut-clause-kept c = kept_on c.loop-tail.invariant.4 c.add_edge_or_shortcut.ensures.kept
