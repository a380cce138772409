-- The walk is counted into an empty part of the path; where it fits, it is written.
use Rattle.query.proofs.Handing.{too_long, tells_walk, ascent}
use Rattle.query.proofs.hand_back.Goals as goal

pub returns-then-room-count : goal.returns-then-room-count
returns-then-room-count c =
    let p = c.requires.1 in
    record { tells = λ f b q e. too_long q _ _ _ e _ _ (c.extract_nodes-count.ensures.put (ascent p f) (ascent p b)) c.if-room-count.true }

pub returns : goal.returns
returns c =
    let p = c.requires.1 in
    record {
      tells = λ f b q e.
          tells_walk q _ _ _ e _ _ (c.extract_nodes-count.ensures.put (ascent p f) (ascent p b)) c.if-room-count.false _ _
          (c.extract_nodes-written.ensures.put (ascent p f) (ascent p b));
    }
