-- What a read put behind what was there is what it took from the input.
use Rattle.std.proofs.Common.{◌≡◌, ℕ, ◌+◌, ◌-◌, ◌≤◌, List, ◌++◌, rules, length, take, ap, sym, ◌∙◌, subst}
use Rattle.std.proofs.lemmas.List.{take-append-le, length-take-le}
use Rattle.std.proofs.Math.Seq.{take-append-add}
use Rattle.std.proofs.KnownBytes.{Consumes-trans}
use Rattle.std.specs.Io.KnownBytes.{Consumes}
use borrow.Rule.Slice.PartMut.{put_mid, post_of}
use Rattle.input.proofs.fill.Goals as goal

-- the front of a list after a write to its places from `end` on
take_written : (end room count : ℕ) (space read : List ℕ) → end ≤ length space → count ≤ length read → take (end + count) (put_mid end room space read) ≡ take end space ++ take count read
take_written end room count space read within fits =
    let front = take end space in
    let after = read ++ post_of end room space in
    ap (λ n. take (n + count) (front ++ after)) (sym (length-take-le end space within)) ∙ take-append-add front after count ∙ ap (λ l. front ++ l) (take-append-le count read _ fits)

pub loop-end-preserved : goal.loop-end-preserved
loop-end-preserved g c =
    let end = c.loop-end.end in
    let written = take_written end (length c.loop-end.space - end) c.in_ok-count.count c.loop-end.space c.read.new.buf c.loop-end.invariant.1 c.in_ok-count.ensures.bound.0 in
    (search rules, search rules, subst (Consumes _ _) (sym written) (Consumes-trans _ _ _ _ _ c.loop-end.invariant.2 c.in_ok-count.ensures.bytes.0))
