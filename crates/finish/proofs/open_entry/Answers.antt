-- The definition, by whether there is a centre.
use native.Mathlib.Omega.{arith}
use Rattle.finish.proofs.Opening.{ranks_room, forward_seekable, backward_seekable, plain, centre_below, rank_below, opened}
use Rattle.finish.proofs.open_entry.Goals as goal

pub returns-then-centre-eq-INVALID : goal.returns-then-centre-eq-INVALID
returns-then-centre-eq-INVALID c = λ k b s x p. plain p c.if-centre-eq-INVALID.true

pub bounds-laid-centre : goal.bounds-laid-centre
bounds-laid-centre c = let p = c.requires.4 in omega (arith, centre_below p c.if-centre-eq-INVALID.false, ranks_room p.columns)

pub get_edge_id-into-requires : goal.get_edge_id-into-requires
get_edge_id-into-requires c = let p = c.requires.4 in backward_seekable p.columns _ (rank_below p c.if-centre-eq-INVALID.false)

pub get_edge_id-out-requires : goal.get_edge_id-out-requires
get_edge_id-out-requires c = let p = c.requires.4 in forward_seekable p.columns _ (rank_below p c.if-centre-eq-INVALID.false)

pub returns : goal.returns
returns c = λ k b s x p. opened p c.if-centre-eq-INVALID.false _ _ c.get_edge_id-into.ensures c.get_edge_id-out.ensures
