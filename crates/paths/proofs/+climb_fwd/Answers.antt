-- Climbing forward: to the parent first, and then the entry that leads down from it.
use native.Mathlib.Omega.{arith}
use Rattle.unpacking.proofs.Opened.{first_within, rest_fits, both_within, put_both}
use Rattle.paths.proofs.Chains.{from_parent, fewer, along_used, uncut, forward_none, forward_on, put_nothing}
use Rattle.paths.proofs.+climb_fwd.Goals as goal

pub load-own-requires : goal.load-own-requires
load-own-requires t c = omega (arith, c.requires.ascent.below, c.requires.room)

pub returns-then-via : goal.returns-then-via
returns-then-via t c =
    record { put = λ a. rw (forward_none a _ c.load-own.ensures c.if-via.true) (put_nothing _ _ _) }

pub climb_fwd-first-requires : goal.climb_fwd-first-requires
climb_fwd-first-requires t c =
    let p = c.requires in
    let is = c.load-own.ensures in
    let some = c.if-via.false in
    (rw (← c.decreases) (fewer p.ascent _ is some), record { n = p.n; h = p.h; ascent = from_parent p.ascent _ is some; room = p.room; fits = p.fits })

pub overflow_cast-via : goal.overflow_cast-via
overflow_cast-via t c = omega (arith, uncut c.requires.ascent _ c.load-own.ensures c.if-via.false)

pub overflow_add-at : goal.overflow_add-at
overflow_add-at t c =
    let p = c.requires in
    omega (arith, first_within (c.climb_fwd-first.ensures.put (from_parent p.ascent _ c.load-own.ensures c.if-via.false)), p.fits)

pub overflow_sub-limit : goal.overflow_sub-limit
overflow_sub-limit t c =
    first_within (c.climb_fwd-first.ensures.put (from_parent c.requires.ascent _ c.load-own.ensures c.if-via.false))

pub unpack_fwd-then-requires : goal.unpack_fwd-then-requires
unpack_fwd-then-requires t c =
    let p = c.requires in
    let is = c.load-own.ensures in
    let some = c.if-via.false in
    record { n = p.n; h = p.h; entry = along_used p.ascent _ is some; fits = rest_fits (c.climb_fwd-first.ensures.put (from_parent p.ascent _ is some)) p.fits }

pub overflow_add-result : goal.overflow_add-result
overflow_add-result t c =
    let p = c.requires in
    let is = c.load-own.ensures in
    let some = c.if-via.false in
    omega (arith, both_within (c.climb_fwd-first.ensures.put (from_parent p.ascent _ is some)) (c.unpack_fwd-then.ensures.put (along_used p.ascent _ is some)) p.fits)

pub returns : goal.returns
returns t c =
    let is = c.load-own.ensures in
    let some = c.if-via.false in
    record { put = λ a. put_both (c.climb_fwd-first.ensures.put (from_parent a _ is some)) (c.unpack_fwd-then.ensures.put (along_used a _ is some)) (forward_on a _ is some) }
