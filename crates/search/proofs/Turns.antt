-- Laws of one turn: `run` is turns, and each leaves less that can leave.
use mathlib.Core.Path.{◌≡◌, refl, sym, ◌∙◌, ap}
use mathlib.Core.Bool.{true, false, not, false≢true}
use mathlib.Core.List.{List, [], ◌∷◌}
use Prim.Native.Nat.{ℕ, zero, suc, ◌+◌, ◌-◌, ◌<◌}
use native.Mathlib.Omega.{arith}
use lib.Dec.{ltb, leb}
use borrow.Author.Tests.{leb-true, leb-false}
use Rattle.rules.specs.Heap.{Item}
use Rattle.rules.specs.Graph.{Arc}
use Rattle.rules.specs.Search.{Search, with_heap, settle, reached, run}
use Rattle.rules.proofs.Cases.{on_test}
use Rattle.search_laws.specs.Paid.{Paid}
use Rattle.search_laws.proofs.Bounds.{left, passed_paid, passed_left, settle_paid, settle_left, run_enough}
use Rattle.search.specs.Turns.{Turn, stop, entry, take_from, take, turn_from, turn}

module _ (g : List Arc) (avoid target sum : ℕ) where
  -- what a turn of a heap that begins with i says, by its tests
  module _ (s : Search) (i : Item) (q : List Item) (e : s.heap ≡ i ∷ q) where
    pub take_entry : take g avoid target sum s ≡ entry g avoid target sum i q s
    unfolding take take_from
    take_entry = ap (λ h. take_from g avoid target sum h s) e

    pub entry_passed : s.settled i.node ≡ true → take g avoid target sum s ≡ record { on = true; search = with_heap q s }
    unfolding entry
    entry_passed t = take_entry ∙ rw (t, entry)

    pub entry_settled : s.settled i.node ≡ false → take g avoid target sum s ≡
        record { on = not (reached g avoid 0 target sum i (settle g avoid i (with_heap q s))); search = settle g avoid i (with_heap q s) }
    unfolding entry
    entry_settled t = take_entry ∙ rw (t, entry)

    module _ (limit : ℕ) where
      from_first : turn g avoid target sum limit s ≡ turn_from g avoid target sum limit (i ∷ q) s
      unfolding turn
      from_first = ap (λ h. turn_from g avoid target sum limit h s) e

      pub turn_limited : leb limit s.count ≡ true → turn g avoid target sum limit s ≡ stop s
      unfolding turn_from
      turn_limited t = from_first ∙ rw (t, turn_from)

      pub turn_heavy : leb limit s.count ≡ false → ltb sum i.weight ≡ true → turn g avoid target sum limit s ≡ stop s
      unfolding turn_from
      turn_heavy t u = from_first ∙ rw (t, turn_from, u)

      pub turn_takes : leb limit s.count ≡ false → ltb sum i.weight ≡ false → turn g avoid target sum limit s ≡ take g avoid target sum s
      unfolding turn_from
      turn_takes t u = from_first ∙ rw (t, turn_from, u) (sym take_entry)

  pub turn_empty : (s : Search) (limit : ℕ) → s.heap ≡ [] → turn g avoid target sum limit s ≡ stop s
  unfolding turn turn_from
  turn_empty s limit e = ap (λ h. turn_from g avoid target sum limit h s) e

  -- what is kept, and what is less, of a search that an entry leaves
  pub record Less (s : Search) (t : Turn) : Type 0 where
    pub paid : Paid g t.search
    pub fewer : t.on ≡ true → left g avoid t.search < left g avoid s

  stop_less : (s : Search) → Paid g s → Less s (stop s)
  stop_less s p = record { paid = p; fewer = λ f. absurd (false≢true f) }

  entry_less : (s : Search) (i : Item) (q : List Item) → s.heap ≡ i ∷ q → Paid g s → Less s (entry g avoid target sum i q s)
  unfolding entry
  entry_less s i q e p =
      on_test (s.settled i.node)
      (λ t. rw (t, entry) (record { paid = passed_paid g avoid i q s e p; fewer = λ _. passed_left g avoid i q s e }))
      (λ t. rw (t, entry) (record { paid = settle_paid g avoid i q s e t p; fewer = λ _. settle_left g avoid i q s e t }))

  -- `run` with fuel is a turn, and `run` with less
  abbrev pub after : ℕ → ℕ → Turn → Search
  after limit k t = elim t.on [ true ↦ run g avoid limit target sum k t.search | false ↦ t.search ]

  -- a heap q that is written out, so that what holds of a turn from it is told by the tests alone
  module _ (limit k : ℕ) (s : Search) (P : Search → Type 0) where
    after_run : (q : List Item) → s.heap ≡ q → P (after limit k (turn_from g avoid target sum limit q s)) →
        P (run g avoid limit target sum (suc k) s)
    unfolding run turn_from entry reached
    after_run [] e x = rw (e, run) x
    after_run (i ∷ q) e x =
        rw (e, run)
        (on_test (leb limit s.count) (λ t. rw t (rw (t, turn_from) at x))
        (λ t.
        rw t
        (on_test (ltb sum i.weight) (λ u. rw u (rw (t, turn_from, u) at x))
        (λ u.
        let y = rw (t, turn_from, u) at x in
        rw u
        (on_test (s.settled i.node) (λ v. rw v (rw (v, entry) at y))
        (λ v.
        let z = rw (v, entry) at y in
        rw v
        (on_test (reached g avoid limit target sum i (settle g avoid i (with_heap q s)))
        (λ r. rw r (rw r at z))
        (λ r. rw r (rw r at z)))))))))

  pub run_turn : (limit k : ℕ) (s : Search) → run g avoid limit target sum (suc k) s ≡ after limit k (turn g avoid target sum limit s)
  unfolding turn
  run_turn limit k s =
      after_run limit k s (λ x. x ≡ after limit k (turn_from g avoid target sum limit s.heap s)) s.heap refl refl

  pub turn_less : (limit : ℕ) (s : Search) → Paid g s → Less s (turn g avoid target sum limit s)
  unfolding turn turn_from
  turn_less limit s p = go s.heap refl
    where
      go : (q : List Item) → s.heap ≡ q → Less s (turn_from g avoid target sum limit q s)
      go [] e = stop_less s p
      go (i ∷ q) e =
          on_test (leb limit s.count) (λ t. rw (t, turn_from) (stop_less s p))
          (λ t.
          on_test (ltb sum i.weight)
          (λ u. rw (t, turn_from, u) (stop_less s p))
          (λ u. rw (t, turn_from, u) (entry_less s i q e p)))

  -- Any two amounts of fuel above what can leave do the same.
  module _ (limit : ℕ) (s : Search) where
    more_fuel : (d k m : ℕ) → d + k ≡ m → left g avoid s < k → run g avoid limit target sum k s ≡ run g avoid limit target sum m s
    more_fuel zero k m e h = ap (λ (x : ℕ). run g avoid limit target sum x s) (omega arith)
    more_fuel (suc d) k m e h = run_enough g avoid limit target sum k s h ∙ more_fuel d (suc k) m (omega arith) (omega arith)

    pub same_fuel : (j k : ℕ) → left g avoid s < j → left g avoid s < k → run g avoid limit target sum j s ≡ run g avoid limit target sum k s
    same_fuel j k h i =
        on_test (leb j k)
        (λ t. more_fuel (k - j) j k (omega (arith, leb-true j k t)) h)
        (λ t. sym (more_fuel (j - k) k j (omega (arith, leb-false j k t)) i))
