-- The two functions of unpacking meet their contracts.
use native.Mathlib.Omega.{arith}
use Rattle.rules.specs.Columns.{table}
use Rattle.unpacking.specs.Written.{tails}
use Rattle.unpacking.proofs.Opened.{put_none, put_one, put_past, tail_room, in_room, out_room, plain, open_in, open_out, in_fewer, out_fewer, both, first_within, rest_fits, both_within, put_both}
use Rattle.unpacking.proofs.+unpack_bwd_unpack_fwd.Goals as goal

pub unpack_bwd-returns-then-limit-eq0 : goal.unpack_bwd-returns-then-limit-eq0
unpack_bwd-returns-then-limit-eq0 t c = record { put = λ u. put_none _ _ _ _ c.if-limit-eq0.true }

pub unpack_bwd-bounds-g-k : goal.unpack_bwd-bounds-g-k
unfolding table
unpack_bwd-bounds-g-k t c = in_room c.requires.entry

pub unpack_bwd-bounds-g-k-then-at-path : goal.unpack_bwd-bounds-g-k-then-at-path
unfolding tails
unpack_bwd-bounds-g-k-then-at-path t c = tail_room c.requires.entry

pub unpack_bwd-returns-then-at-path : goal.unpack_bwd-returns-then-at-path
unfolding table tails
unpack_bwd-returns-then-at-path t c =
    record { put = λ u. rw (plain u c.if-a.true) (put_one _ _ _ _ c.if-limit-eq0.false) }

pub unpack_bwd-returns-else-at-path : goal.unpack_bwd-returns-else-at-path
unfolding table tails
unpack_bwd-returns-else-at-path t c =
    record { put = λ u. rw (plain u c.if-a.true) (put_past _ _ _ _ c.if-limit-eq0.false c.if-at-path.false) }

pub unpack_bwd-unpack_bwd-first-requires : goal.unpack_bwd-unpack_bwd-first-requires
unfolding table
unpack_bwd-unpack_bwd-first-requires t c =
    let u = c.requires.entry in
    let m = c.if-a.false in
    (rw (← c.decreases) (in_fewer u m), record { n = c.requires.n; h = c.requires.h; entry = open_in u m; fits = c.requires.fits })

pub unpack_bwd-bounds-g-k-2 : goal.unpack_bwd-bounds-g-k-2
unfolding table
unpack_bwd-bounds-g-k-2 t c = out_room c.requires.entry

pub unpack_bwd-overflow_add-at : goal.unpack_bwd-overflow_add-at
unfolding table
unpack_bwd-overflow_add-at t c =
    let p = c.unpack_bwd-first.ensures.put (open_in c.requires.entry c.if-a.false) in
    omega (arith, first_within p, c.requires.fits)

pub unpack_bwd-overflow_sub-limit : goal.unpack_bwd-overflow_sub-limit
unfolding table
unpack_bwd-overflow_sub-limit t c = first_within (c.unpack_bwd-first.ensures.put (open_in c.requires.entry c.if-a.false))

pub unpack_bwd-unpack_fwd-then-requires : goal.unpack_bwd-unpack_fwd-then-requires
unfolding table
unpack_bwd-unpack_fwd-then-requires t c =
    let u = c.requires.entry in
    let m = c.if-a.false in
    let p = c.unpack_bwd-first.ensures.put (open_in u m) in
    (rw (← c.decreases) (out_fewer u m), record { n = c.requires.n; h = c.requires.h; entry = open_out u m; fits = rest_fits p c.requires.fits })

pub unpack_bwd-overflow_add-result : goal.unpack_bwd-overflow_add-result
unfolding table
unpack_bwd-overflow_add-result t c =
    let u = c.requires.entry in
    let m = c.if-a.false in
    let p = c.unpack_bwd-first.ensures.put (open_in u m) in
    omega (arith, both_within p (c.unpack_fwd-then.ensures.put (open_out u m)) c.requires.fits)

pub unpack_bwd-returns : goal.unpack_bwd-returns
unfolding table
unpack_bwd-returns t c =
    let m = c.if-a.false in
    record { put = λ u. put_both (c.unpack_bwd-first.ensures.put (open_in u m)) (c.unpack_fwd-then.ensures.put (open_out u m)) (both u m) }

pub unpack_fwd-returns-then-limit-eq0 : goal.unpack_fwd-returns-then-limit-eq0
unpack_fwd-returns-then-limit-eq0 t c = record { put = λ u. put_none _ _ _ _ c.if-limit-eq0.true }

pub unpack_fwd-bounds-g-k : goal.unpack_fwd-bounds-g-k
unfolding table
unpack_fwd-bounds-g-k t c = in_room c.requires.entry

pub unpack_fwd-bounds-g-k-then-at-path : goal.unpack_fwd-bounds-g-k-then-at-path
unfolding tails
unpack_fwd-bounds-g-k-then-at-path t c = tail_room c.requires.entry

pub unpack_fwd-returns-then-at-path : goal.unpack_fwd-returns-then-at-path
unfolding table tails
unpack_fwd-returns-then-at-path t c =
    record { put = λ u. rw (plain u c.if-a.true) (put_one _ _ _ _ c.if-limit-eq0.false) }

pub unpack_fwd-returns-else-at-path : goal.unpack_fwd-returns-else-at-path
unfolding table tails
unpack_fwd-returns-else-at-path t c =
    record { put = λ u. rw (plain u c.if-a.true) (put_past _ _ _ _ c.if-limit-eq0.false c.if-at-path.false) }

pub unpack_fwd-unpack_bwd-first-requires : goal.unpack_fwd-unpack_bwd-first-requires
unfolding table
unpack_fwd-unpack_bwd-first-requires t c =
    let u = c.requires.entry in
    let m = c.if-a.false in
    (rw (← c.decreases) (in_fewer u m), record { n = c.requires.n; h = c.requires.h; entry = open_in u m; fits = c.requires.fits })

pub unpack_fwd-bounds-g-k-2 : goal.unpack_fwd-bounds-g-k-2
unfolding table
unpack_fwd-bounds-g-k-2 t c = out_room c.requires.entry

pub unpack_fwd-overflow_add-at : goal.unpack_fwd-overflow_add-at
unfolding table
unpack_fwd-overflow_add-at t c =
    let p = c.unpack_bwd-first.ensures.put (open_in c.requires.entry c.if-a.false) in
    omega (arith, first_within p, c.requires.fits)

pub unpack_fwd-overflow_sub-limit : goal.unpack_fwd-overflow_sub-limit
unfolding table
unpack_fwd-overflow_sub-limit t c = first_within (c.unpack_bwd-first.ensures.put (open_in c.requires.entry c.if-a.false))

pub unpack_fwd-unpack_fwd-then-requires : goal.unpack_fwd-unpack_fwd-then-requires
unfolding table
unpack_fwd-unpack_fwd-then-requires t c =
    let u = c.requires.entry in
    let m = c.if-a.false in
    let p = c.unpack_bwd-first.ensures.put (open_in u m) in
    (rw (← c.decreases) (out_fewer u m), record { n = c.requires.n; h = c.requires.h; entry = open_out u m; fits = rest_fits p c.requires.fits })

pub unpack_fwd-overflow_add-result : goal.unpack_fwd-overflow_add-result
unfolding table
unpack_fwd-overflow_add-result t c =
    let u = c.requires.entry in
    let m = c.if-a.false in
    let p = c.unpack_bwd-first.ensures.put (open_in u m) in
    omega (arith, both_within p (c.unpack_fwd-then.ensures.put (open_out u m)) c.requires.fits)

pub unpack_fwd-returns : goal.unpack_fwd-returns
unfolding table
unpack_fwd-returns t c =
    let m = c.if-a.false in
    record { put = λ u. put_both (c.unpack_bwd-first.ensures.put (open_in u m)) (c.unpack_fwd-then.ensures.put (open_out u m)) (both u m) }
