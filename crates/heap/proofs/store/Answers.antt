-- `heap::store` meets its contract: the two stores are `put`'s own.
use mathlib.Core.Path.{refl}
use native.Mathlib.Omega.{arith}
use lib.ListN.{length-set}
use Rattle.heap.specs.Gaps.{put}
use Rattle.heap.proofs.store.Goals as goal

pub bounds-heap-i-2 : goal.bounds-heap-i-2
bounds-heap-i-2 c = simp length-set (omega arith)

pub returns : goal.returns
unfolding put
returns c = refl
