-- Row 22 is the only one that a pair of the call may meet; a pair that does not is the route of its query.
use borrow.Author.Rules.{rules}
use Rattle.halves.proofs.Slices.{kept_all}
use Rattle.calc_paths.proofs.Pairs.{pair_source, pair_target, paired, routing}
use Rattle.calc_paths.proofs.calc_pair.Goals as goal

pub returns-then-g-source : goal.returns-then-g-source
returns-then-g-source c =
    record { paired = pair_source _ _ _ _ _ _ c.requires.1.checked c.requires.1.places c.requires.1.earlier c.if-g-source.true; fwd_kept = kept_all _; bwd_kept = kept_all _ }

pub returns-then-outside : goal.returns-then-outside
returns-then-outside c =
    record { paired = pair_target _ _ _ _ _ _ c.requires.1.checked c.requires.1.places c.requires.1.earlier c.if-g-source.false c.if-outside.true; fwd_kept = kept_all _; bwd_kept = kept_all _ }

pub route-requires : goal.route-requires
route-requires c = (c.requires.0, routing _ _ _ _ _ _ _ _ _ _ c.requires.1 c.if-g-source.false c.if-outside.false)

pub returns : goal.returns
returns c =
    record { paired = paired _ _ _ _ _ _ c.requires.1.checked c.requires.1.places c.if-g-source.false c.if-outside.false (search rules) c.route.ensures.routed; fwd_kept = c.route.ensures.fwd_kept; bwd_kept = c.route.ensures.bwd_kept }
