-- The forward half, then the backward half.
use native.Mathlib.Omega.{arith}
use Rattle.unpacking.proofs.Opened.{first_within}
use Rattle.paths.proofs.Chains.{walk_within, walk_put}
use Rattle.paths.proofs.extract_nodes.Goals as goal

pub climb_fwd-first-requires : goal.climb_fwd-first-requires
climb_fwd-first-requires c =
    let p = c.requires.1 in
    record { n = p.n; h = p.h; ascent = p.fwd; room = p.fwd_room; fits = omega (arith, p.fits) }

pub overflow_sub-limit : goal.overflow_sub-limit
overflow_sub-limit c = first_within (c.climb_fwd-first.ensures.put c.requires.1.fwd)

pub climb_bwd-then-requires : goal.climb_bwd-then-requires
climb_bwd-then-requires c =
    let p = c.requires.1 in
    record {
      n = p.n;
      h = p.h;
      ascent = rw c.requires.0 p.bwd;
      room = p.bwd_room;
      fits = omega (arith, p.fits, first_within (c.climb_fwd-first.ensures.put p.fwd));
    }

pub overflow_add-result : goal.overflow_add-result
overflow_add-result c =
    let p = c.requires.1 in
    let then = rw c.requires.0 at c.climb_bwd-then.ensures in
    omega (arith, walk_within (c.climb_fwd-first.ensures.put p.fwd) (then.put p.bwd) p.fits)

pub returns : goal.returns
returns c =
    let then = rw c.requires.0 at c.climb_bwd-then.ensures in
    record { put = λ f b. walk_put (c.climb_fwd-first.ensures.put f) (then.put b) }
