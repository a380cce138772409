-- Climbing backward: the entry that leads up to the parent first, and then on from it.
use native.Mathlib.Omega.{arith}
use Rattle.unpacking.proofs.Opened.{first_within, rest_fits, both_within, put_both}
use Rattle.paths.proofs.Chains.{from_parent, fewer, along_used, uncut, backward_none, backward_on}
use Rattle.paths.proofs.+climb_bwd.Goals as goal

pub load-own-requires : goal.load-own-requires
load-own-requires t c = omega (arith, c.requires.ascent.below, c.requires.room)

pub overflow_cast-v : goal.overflow_cast-v
overflow_cast-v t c = omega (arith, c.requires.ascent.below, c.requires.ascent.tables.rules.nodes)

pub returns-then-via : goal.returns-then-via
returns-then-via t c =
    record { put = λ a. rw (backward_none a _ c.load-own.ensures c.if-via.true) c.put_node.ensures }

pub overflow_cast-via : goal.overflow_cast-via
overflow_cast-via t c = omega (arith, uncut c.requires.ascent _ c.load-own.ensures c.if-via.false)

pub unpack_bwd-first-requires : goal.unpack_bwd-first-requires
unpack_bwd-first-requires t c =
    let p = c.requires in
    record { n = p.n; h = p.h; entry = along_used p.ascent _ c.load-own.ensures c.if-via.false; fits = p.fits }

pub overflow_add-at : goal.overflow_add-at
overflow_add-at t c =
    let p = c.requires in
    omega (arith, first_within (c.unpack_bwd-first.ensures.put (along_used p.ascent _ c.load-own.ensures c.if-via.false)), p.fits)

pub overflow_sub-limit : goal.overflow_sub-limit
overflow_sub-limit t c =
    first_within (c.unpack_bwd-first.ensures.put (along_used c.requires.ascent _ c.load-own.ensures c.if-via.false))

pub climb_bwd-then-requires : goal.climb_bwd-then-requires
climb_bwd-then-requires t c =
    let p = c.requires in
    let is = c.load-own.ensures in
    let some = c.if-via.false in
    (rw (← c.decreases) (fewer p.ascent _ is some), record { n = p.n; h = p.h; ascent = from_parent p.ascent _ is some; room = p.room; fits = rest_fits (c.unpack_bwd-first.ensures.put (along_used p.ascent _ is some)) p.fits })

pub overflow_add-result : goal.overflow_add-result
overflow_add-result t c =
    let p = c.requires in
    let is = c.load-own.ensures in
    let some = c.if-via.false in
    omega (arith, both_within (c.unpack_bwd-first.ensures.put (along_used p.ascent _ is some)) (c.climb_bwd-then.ensures.put (from_parent p.ascent _ is some)) p.fits)

pub returns : goal.returns
returns t c =
    let is = c.load-own.ensures in
    let some = c.if-via.false in
    record { put = λ a. put_both (c.unpack_bwd-first.ensures.put (along_used a _ is some)) (c.climb_bwd-then.ensures.put (from_parent a _ is some)) (backward_on a _ is some) }
