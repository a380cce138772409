-- A witness search's fuel never runs out, and its heap never holds more than the live arcs and one.
-- The idea: arcs whose tail is settled pay for what they pushed; each entry that leaves is paid for once.
use mathlib.Core.Path.{◌≡◌, refl, ◌∙◌, ap}
use mathlib.Core.Bool.{Bool, true, false, not}
use mathlib.Core.List.{List, [], ◌∷◌}
use Prim.Native.Nat.{ℕ, zero, suc, ◌+◌, ◌≤◌, ◌<◌, zero-le}
use native.Mathlib.Omega.{arith}
use lib.Dec.{eqb, ltb}
use lib.ListN.{length}
use borrow.Author.Tests.{eqb-true, eqb-false}
use Rattle.rules.specs.Lists.{keep, update}
use Rattle.rules.specs.Heap.{Item}
use Rattle.rules.specs.Graph.{Arc, leaves, outs, joins, add_or_reduce}
use Rattle.rules.specs.Search.{Search, init, offer, relax, with_heap, mark_settled, settle, run, search_fuel, find_max_weight}
use Rattle.search_laws.specs.Paid.{paid, Paid}
use Rattle.rules.proofs.Cases.{on_test}
use Rattle.rules.proofs.Heaps.{update_same, update_other, push_length}
use Rattle.rules.proofs.Turns.{first_turn, search_keeps}
use Rattle.search_laws.proofs.Graphs.{reduced}

-- What an offer leaves alone, and how the heap grows.
pub record Grown (most : ℕ) (s s' : Search) : Type 0 where
  pub settled : s'.settled ≡ s.settled
  pub count : s'.count ≡ s.count
  pub heap : length s'.heap ≤ most + length s.heap

pub offer_grows : (i : Item) (s : Search) → Grown 1 s (offer i s)
unfolding offer
offer_grows i s =
    on_test (ltb i.weight (s.label i.node))
    (λ t. rw (t, offer) (record { settled = refl; count = refl; heap = omega (arith, push_length i s.heap) }))
    (λ t. rw (t, offer) (record { settled = refl; count = refl; heap = omega arith }))

relax_grows : (avoid w : ℕ) (bs : List Arc) (s : Search) → Grown (length bs) s (relax avoid w bs s)
unfolding relax
relax_grows avoid w [] s = record { settled = refl; count = refl; heap = omega arith }
relax_grows avoid w (b ∷ bs) s =
    on_test (eqb b.head avoid)
    (λ t.
    let more = relax_grows avoid w bs s in
    rw (t, relax) (record { settled = more.settled; count = more.count; heap = omega (arith, more.heap) }))
    (λ t.
    let i : Item = record { weight = w + b.weight; node = b.head } in
    let one = offer_grows i s in
    let more = relax_grows avoid w bs (offer i s) in
    rw (t, relax)
    (record {
      settled = more.settled ∙ one.settled;
      count = more.count ∙ one.count;
      heap = omega (arith, more.heap, one.heap);
    }))

-- the arcs whose tail is not settled
abbrev pub unpaid : (ℕ → Bool) → List Arc → ℕ
unpaid f g = length (keep (λ (x : Arc). not (f x.tail)) g)

pub paid_most : (f : ℕ → Bool) (g : List Arc) → paid f g + unpaid f g ≡ length g
unfolding keep
paid_most f [] = refl
paid_most f (x ∷ g) =
    on_test (f x.tail)
    (λ t. rw (t, keep) (omega (arith, paid_most f g)))
    (λ t. rw (t, keep) (omega (arith, paid_most f g)))

-- settling a node that was not: its out-arcs are paid for
settle_pays : (f : ℕ → Bool) (v : ℕ) (g : List Arc) → f v ≡ false → paid (update v true f) g ≡ paid f g + length (outs g v)
unfolding keep outs leaves
settle_pays f v [] off = refl
settle_pays f v (x ∷ g) off =
    on_test (eqb x.tail v)
    (λ t.
    let same = eqb-true x.tail v t in
    rw (update_same v true f x.tail same, ap f same ∙ off, t, keep) (omega (arith, settle_pays f v g off)))
    (λ t.
    let other = eqb-false x.tail v t in
    rw (update_other v true f x.tail other, t, keep)
    (on_test (f x.tail)
    (λ u. rw (u, keep) (omega (arith, settle_pays f v g off)))
    (λ u. rw (u, keep) (settle_pays f v g off))))

-- more arcs, more that are paid for
pub added_pays : (f : ℕ → Bool) (s : Arc) (g : List Arc) → paid f g ≤ paid f (add_or_reduce s g)
unfolding keep add_or_reduce
added_pays f s [] = zero-le
added_pays f s (x ∷ g) =
    on_test (joins s x)
    (λ t.
    rw (t, add_or_reduce, (reduced s x t).0)
    (on_test (f x.tail) (λ u. rw (u, keep) (omega arith)) (λ u. rw (u, keep) (omega arith))))
    (λ t.
    rw (t, add_or_reduce)
    (on_test (f x.tail)
    (λ u. rw (u, keep) (omega (arith, added_pays f s g)))
    (λ u. rw (u, keep) (added_pays f s g))))

pub paid_heap : (g : List Arc) (s : Search) → Paid g s → length s.heap ≤ suc (length g)
paid_heap g s h = omega (arith, paid_most s.settled g)

pub init_paid : (g : List Arc) (a : ℕ) → Paid g (init a)
unfolding init
init_paid g a = omega arith

pub added_paid : (x : Arc) (g : List Arc) (s : Search) → Paid g s → Paid (add_or_reduce x g) s
added_paid x g s h = omega (arith, added_pays s.settled x g)

module _ (g : List Arc) (avoid : ℕ) where
  -- what can still leave the heap
  abbrev pub left : Search → ℕ
  left s = length s.heap + unpaid s.settled g

  -- An entry leaves: less can leave, and there is room.
  module _ (i : Item) (q : List Item) (s : Search) (e : s.heap ≡ i ∷ q) where
    pub passed_paid : Paid g s → Paid g (with_heap q s)
    unfolding with_heap
    passed_paid p = omega (arith, ap length e)

    pub passed_left : left (with_heap q s) < left s
    unfolding with_heap
    passed_left = omega (arith, ap length e)

    -- its node was not settled: it pays for its out-arcs
    module _ (off : s.settled i.node ≡ false) where
      grown : Grown (length (outs g i.node)) (with_heap q s) (relax avoid i.weight (outs g i.node) (with_heap q s))
      grown = relax_grows avoid i.weight (outs g i.node) (with_heap q s)

      heap_now : length (settle g avoid i (with_heap q s)).heap ≤ length (outs g i.node) + length q
      unfolding settle mark_settled with_heap
      heap_now = grown.heap

      settled_now : (settle g avoid i (with_heap q s)).settled ≡ update i.node true s.settled
      unfolding settle mark_settled with_heap
      settled_now = ap (update i.node true) grown.settled

      paid_now : paid (settle g avoid i (with_heap q s)).settled g ≡ paid s.settled g + length (outs g i.node)
      paid_now = rw settled_now (settle_pays s.settled i.node g off)

      pub settle_count : (settle g avoid i (with_heap q s)).count ≡ suc s.count
      unfolding settle mark_settled with_heap
      settle_count = ap suc grown.count

      pub settle_paid : Paid g s → Paid g (settle g avoid i (with_heap q s))
      settle_paid p = omega (arith, ap length e, heap_now, paid_now)

      pub settle_left : left (settle g avoid i (with_heap q s)) < left s
      settle_left =
          omega (
            arith,
            ap length e,
            heap_now,
            paid_now,
            paid_most s.settled g,
            paid_most (settle g avoid i (with_heap q s)).settled g,
          )

      -- the heap has room for an entry of each out-arc
      pub settle_room : Paid g s → length q + length (outs g i.node) ≤ length g
      settle_room p =
          omega (arith, ap length e, paid_now, paid_most (settle g avoid i (with_heap q s)).settled g)

  pub search_paid : (limit target sum : ℕ) (s : Search) → Paid g s → Paid g (find_max_weight g avoid limit target sum s).search
  search_paid limit target sum = search_keeps g avoid limit target sum (Paid g) passed_paid (λ i q s e _ t x. settle_paid i q s e t x)

  module _ (limit target sum : ℕ) where
    -- The fuel never runs out: with more than can leave, one more changes nothing.
    pub run_enough : (k : ℕ) (s : Search) → left s < k → run g avoid limit target sum k s ≡ run g avoid limit target sum (suc k) s
    run_enough zero s h = absurd (omega arith)
    run_enough (suc k) s h =
        first_turn g avoid limit target sum (λ x y. x ≡ y) k (suc k) s refl
        (λ i q e. run_enough k (with_heap q s) (omega (arith, passed_left i q s e)))
        (λ i q e _ t. (refl, run_enough k (settle g avoid i (with_heap q s)) (omega (arith, settle_left i q s e t))))

    pub search_fuel_enough : (s : Search) → left s < search_fuel g avoid limit target sum s
    unfolding search_fuel
    search_fuel_enough s = omega (arith, paid_most s.settled g)
