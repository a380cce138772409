-- Relaxing, then the mark.
use mathlib.Core.Path.{◌∙◌}
use lib.ListN.{length-set}
use Rattle.halves.specs.Labels.{put_settled}
use Rattle.turns.proofs.Settling.{settles}
use Rattle.turns.proofs.settle.Goals as goal

pub returns : goal.returns
unfolding put_settled
returns c =
    let r = c.relax.ensures in
    let mark = c.set_settled.ensures.mark in
    let rest = c.set_settled.ensures.rest in
    record {
      settles = rw (rw r.kept.base at mark, rest.heap, rest.len) (settles _ _ _ _ _ _ _ _ _ _ _ _ _ c.requires r.kept.labels r.relaxes);
      kept = record { labels_name = rest.labels_name ∙ r.kept.labels_name; heap_name = rest.heap_name ∙ r.kept.heap_name; labels = rw mark (simp length-set r.kept.labels); heap = rw rest.heap r.kept.heap; base = rest.base ∙ r.kept.base };
    }
