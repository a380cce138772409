-- Each return is a part of the table rules that fails, or all that hold.
use mathlib.Core.Bool.{true≢false}
use mathlib.Core.Path.{sym, ◌∙◌}
use native.Mathlib.Omega.{arith}
use Rattle.rules.specs.Columns.{forward, backward, table}
use Rattle.rules.proofs.Decides.{denied}
use Rattle.tables.proofs.Check.{broken, shape_of, entries_of, once_of, all_kept}
use Rattle.tables.proofs.check_tables.Goals as goal
use Rattle.tables.proofs.check_tables.Goals.{Else-not-shaped-2}

pub returns-then-n-gt-MAX_NODES : goal.returns-then-n-gt-MAX_NODES
returns-then-n-gt-MAX_NODES c = broken _ _ (λ k. omega (arith, k.nodes, c.if-n-gt-MAX_NODES.true))

pub returns-then-g-n : goal.returns-then-g-n
returns-then-g-n c = broken _ _ (λ k. omega (arith, k.places_for_ranks, c.if-g-n.true))

pub returns-then-not-shaped : goal.returns-then-not-shaped
unfolding table
returns-then-not-shaped c = broken _ _ (λ k. denied c.shaped.ensures c.if-not-shaped.true (shape_of _ _ forward k))

pub returns-then-not-shaped-2 : goal.returns-then-not-shaped-2
unfolding table
returns-then-not-shaped-2 c = broken _ _ (λ k. denied c.shaped-2.ensures c.if-not-shaped-2.true (shape_of _ _ backward k))

pub returns-then-not-each_once : goal.returns-then-not-each_once
returns-then-not-each_once c = broken _ _ (λ k. true≢false (sym (once_of _ _ c.if-g-n.false k) ∙ sym c.each_once.ensures ∙ c.if-not-each_once.true))

pub returns-then-not-entries_pass : goal.returns-then-not-entries_pass
returns-then-not-entries_pass c = broken _ _ (λ k. denied (rw c.seen_from.ensures at c.entries_pass.ensures) c.if-not-entries_pass.true (entries_of _ _ forward k))

pub returns-then-not-entries_pass-2 : goal.returns-then-not-entries_pass-2
returns-then-not-entries_pass-2 c = broken _ _ (λ k. denied (rw c.seen_from-2.ensures at c.entries_pass-2.ensures) c.if-not-entries_pass-2.true (entries_of _ _ backward k))

pub returns : goal.returns
unfolding table
returns c =
    all_kept _ _ c.if-n-gt-MAX_NODES.false c.if-g-n.false (sym c.each_once.ensures ∙ c.if-not-each_once.false)
    (c.shaped.ensures.0 c.if-not-shaped.false) ((rw c.seen_from.ensures at c.entries_pass.ensures).0 c.if-not-entries_pass.false)
    (c.shaped-2.ensures.0 c.if-not-shaped-2.false) ((rw c.seen_from-2.ensures at c.entries_pass-2.ensures).0 c.if-not-entries_pass-2.false)
