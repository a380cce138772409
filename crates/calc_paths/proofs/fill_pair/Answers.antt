-- The pair's places are lent as a part of the path column; the answer's numbers are put in theirs.
use mathlib.Core.Path.{sym, ◌∙◌}
use native.Mathlib.Omega.{arith}
use Rattle.halves.proofs.Slices.{started_long}
use Rattle.calc_paths.proofs.Pairs.{cut_long, filled, few_nodes}
use Rattle.calc_paths.proofs.fill_pair.Goals as goal

pub calc_pair-answer-requires : goal.calc_pair-answer-requires
calc_pair-answer-requires c =
    let f = c.start.ensures in
    let b = c.start-2.ensures in (
      record { base = b.base_is ∙ sym f.base_is; fwd_empty = f.empty; bwd_empty = b.empty },
      rw (f.labels, b.labels, f.heap, b.heap, f.base_is)
          (record {
            checked = c.requires.checked;
            places = cut_long _ _ _ c.requires.path_room;
            earlier = c.requires.earlier;
            stamps = omega (arith, c.requires.source);
          }),
    )

pub overflow_cast-lengths : goal.overflow_cast-lengths
overflow_cast-lengths c = omega (arith, c.numbers-number.ensures.2, c.calc_pair-answer.ensures.paired.few, few_nodes c.requires)

pub returns : goal.returns
returns c =
    let told = c.numbers-number.ensures in
    let f = c.start.ensures in
    let b = c.start-2.ensures in
    let p = c.calc_pair-answer.ensures in
    record {
      filled = rw (told.0, told.1, told.2) (filled _ _ _ _ _ _ _ _ _ _ _ _ _ _ (rw (f.labels, b.labels, f.heap, b.heap, f.base_is) at p.paired));
      fwd_long = started_long f p.fwd_kept;
      bwd_long = started_long b p.bwd_kept;
    }
