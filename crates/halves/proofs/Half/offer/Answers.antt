-- `Labels` has a law for either answer of the test.
use mathlib.Core.Path.{◌∙◌, ap}
use native.Mathlib.Omega.{arith}
use lib.ListN.{length}
use Rattle.rules.specs.Query.{Label}
use Rattle.halves.specs.Labels.{put_label}
use Rattle.halves.proofs.Labels.{offers_new, offers_not, stored_is, put_label_long}
use Rattle.halves.proofs.Slices.{kept_all}
use Rattle.halves.proofs.Half.offer.Goals as goal

pub returns-then-label-own : goal.returns-then-label-own
returns-then-label-own c =
    let rest = c.update_node.ensures.rest in
    let stored = c.update_node.ensures.label ∙ ap (put_label _ _ _) (c.lower.ensures ∙ stored_is _ _ c.if-label-own.true) in
    let pushed = rw (rest.heap, rest.len) at c.push.ensures in
    record {
      offers =
          rw rest.len
          (offers_new _ _ _ _ _ _ c.requires.label_room _ _ (omega (arith, c.if-label-own.true, ap (λ (l : Label). l.weight) c.load-own.ensures)) stored pushed);
      kept =
          record {
            labels_name = rest.labels_name;
            heap_name = rest.heap_name;
            labels = ap length stored ∙ put_label_long _ _ _ _;
            heap = pushed.long;
            base = rest.base;
          };
    }

pub returns-else-label-own : goal.returns-else-label-own
returns-else-label-own c =
    record {
      offers = offers_not _ _ _ _ _ _ c.requires.label_room (omega (arith, c.if-label-own.false, ap (λ (l : Label). l.weight) c.load-own.ensures)) c.requires.ordered;
      kept = kept_all _;
    }
