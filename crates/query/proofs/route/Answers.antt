-- A query that is not refused is searched, and what the search found is handed back.
use mathlib.Core.Path.{sym, ◌∙◌}
use Rattle.query.proofs.Found.{searching, none_found, handing, walk_found}
use Rattle.query.proofs.route.Goals as goal

pub search-best-requires : goal.search-best-requires
search-best-requires c = (c.requires.0, searching _ _ _ _ _ _ _ _ _ _ _ _ c.requires.1)

pub returns-then-best : goal.returns-then-best
returns-then-best c =
    let s = c.search-best.ensures in
    record { routed = none_found _ _ _ _ _ _ _ _ _ _ _ _ c.requires.1 _ _ _ _ _ s.searched c.if-best.true; fwd_kept = s.fwd_kept; bwd_kept = s.bwd_kept }

pub hand_back-requires : goal.hand_back-requires
hand_back-requires c =
    let s = c.search-best.ensures in
    let f = c.read.ensures in
    let b = c.read-2.ensures in (
      b.base ∙ s.bwd_kept.base ∙ c.requires.0.base ∙ sym s.fwd_kept.base ∙ sym f.base,
      rw (f.labels, b.labels, f.base, s.fwd_kept.base) (handing _ _ _ _ _ _ _ _ _ _ _ _ c.requires.1 _ _ _ _ _ s.searched c.if-best.false s.fwd_kept.labels s.bwd_kept.labels),
    )

pub returns : goal.returns
returns c =
    let s = c.search-best.ensures in
    let f = c.read.ensures in
    let b = c.read-2.ensures in
    record {
      routed = walk_found _ _ _ _ _ _ _ _ _ _ _ _ c.requires.1 _ _ _ _ _ s.searched c.if-best.false _ _ (rw (f.labels, b.labels, f.base, s.fwd_kept.base) at c.hand_back.ensures);
      fwd_kept = s.fwd_kept;
      bwd_kept = s.bwd_kept;
    }
