-- `heap::push` meets its contract: a gap at the end, where nothing is below, is filled.
use Prim.Native.Nat.{◌+◌}
use native.Mathlib.Omega.{arith}
use Rattle.heap.proofs.Slice.{leaf_above}
use Rattle.heap.proofs.Ends.{gap_at_end, pushed}
use Rattle.heap.proofs.push.Goals as goal

pub rise-requires : goal.rise-requires
rise-requires c =
    let a = c.args in (
      c.requires.0,
      gap_at_end a.heap.now a.len c.requires.0 c.requires.1,
      leaf_above a.heap.now (a.len + 1) c.requires.0 (omega arith),
    )

pub returns : goal.returns
returns c = pushed c.requires.0 c.rise.ensures
