-- A rank fails, or all hold.
use mathlib.Core.Path.{refl}
use native.Mathlib.Omega.{arith}
use Rattle.rules.proofs.Decides.{no}
use Rattle.tables.proofs.Marks.{everywhere}
use Rattle.tables.proofs.Entries.{rank_fails, rank_holds}
use Rattle.tables.proofs.entries_pass.Goals as goal

pub loop-r-init : goal.loop-r-init
loop-r-init c = (λ k low. absurd (omega arith), record { long = refl; each = λ u. omega (arith, everywhere 0 1024 u) })

pub returns-then-not-rank_passes : goal.returns-then-not-rank_passes
returns-then-not-rank_passes c = no (rank_fails _ _ _ _ c.requires _ _ (omega arith) c.rank_passes.ensures.0 c.if-not-rank_passes.true)

pub loop-r-preserved : goal.loop-r-preserved
loop-r-preserved c =
    (rank_holds _ _ _ _ c.requires _ _ (omega arith) c.rank_passes.ensures.0 c.if-not-rank_passes.false c.loop-r.invariant.0, c.rank_passes.ensures.1)
