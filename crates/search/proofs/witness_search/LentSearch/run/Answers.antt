-- What is to come, with `left` as fuel, is what came from the start. The measure is `left`.
use mathlib.Core.Path.{refl, ◌∙◌}
use Prim.Native.Nat.{◌≤◌}
use native.Mathlib.Omega.{arith}
use Rattle.search.proofs.Runs.{onward_all, onward_stop, most_some, onward_on, asked_as}
use Rattle.search.proofs.Laws.{search_kept_all, search_kept_on}
use Rattle.search.proofs.witness_search.LentSearch.run.Goals as goal
use Rattle.search.proofs.witness_search.LentSearch.run.Goals.{Else-not-on}

pub turns-init : goal.turns-init
turns-init c = (λ w s x. onward_all _ _ x, record { base = refl; avoid = refl }, search_kept_all _)

pub turn-on-requires : goal.turn-on-requires
turn-on-requires c =
    let r = c.requires in
    let k = c.turns.invariant in
    let x = k.0 r.0 r.1 r.2 in
    (r.0, x.search, asked_as k.1.base x.asked)

pub returns-then-not-on : goal.returns-then-not-on
returns-then-not-on c =
    let k = c.turns.invariant in
    let turned = rw (k.1.base, k.1.avoid) at c.turn-on.ensures.turns in
    let after = c.turn-on.ensures.round in
    record {
      runs =
          λ w s x.
          let o = k.0 w s x in
          onward_stop o (turned w o.search o.asked) c.if-not-on.true;
      round = record { base = after.base ∙ k.1.base; avoid = after.avoid ∙ k.1.avoid };
      kept = search_kept_on k.2 c.turn-on.ensures.kept;
    }

some : (c : Else-not-on) → 1 ≤ c.turns.left
some c =
    let r = c.requires in
    let k = c.turns.invariant in
    let turned = rw (k.1.base, k.1.avoid) at c.turn-on.ensures.turns in
    let o = k.0 r.0 r.1 r.2 in
    most_some o (turned r.0 o.search o.asked) c.if-not-on.false

pub overflow_sub-left : goal.overflow_sub-left
overflow_sub-left c = some (goal.at.overflow_sub-left c).Else-not-on

pub turns-smaller : goal.turns-smaller
turns-smaller c = let s = some (goal.at.turns-smaller c).Else-not-on in omega (arith, s)

pub turns-preserved : goal.turns-preserved
turns-preserved c =
    let k = c.turns.invariant in
    let turned = rw (k.1.base, k.1.avoid) at c.turn-on.ensures.turns in
    let after = c.turn-on.ensures.round in (
      λ w s x.
          let o = k.0 w s x in
          onward_on o (turned w o.search o.asked) c.if-not-on.false,
      record { base = after.base ∙ k.1.base; avoid = after.avoid ∙ k.1.avoid },
      search_kept_on k.2 c.turn-on.ensures.kept,
    )
