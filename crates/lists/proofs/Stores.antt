-- What a store changes, and what it leaves.
use mathlib.Core.Path.{◌≡◌, refl, sym, ◌∙◌}
use mathlib.Core.Bool.{true, false}
use mathlib.Core.List.{List}
use Prim.Native.Nat.{ℕ, ◌+◌, ◌*◌, ◌≤◌, ◌<◌}
use native.Mathlib.Omega.{arith}
use lib.Dec.{eqb}
use lib.ListN.{length, set, get_or, length-set}
use lib.Seq.{get_or-set_same, get_or-set_other}
use borrow.Author.Tests.{eqb-true, eqb-false, eq-eqb, ne_eqb}
use Rattle.rules.specs.Numbers.{invalid}
use Rattle.rules.proofs.Cases.{on_test}
use Rattle.lists.specs.Memory.{Memory, at, first, last}
use Rattle.lists.specs.Promises.{Open}
use Rattle.lists.specs.Steps.{set_at, set_first, set_last, follow, append, unlink}

module _ (m : Memory) (k i x : ℕ) where
  pub at_same : 6 * i + k < length m.arcs → at (set_at m k i x) k i ≡ x
  at_same h = get_or-set_same m.arcs (6 * i + k) x 0 h

  pub at_other : (j h : ℕ) → k < 6 → h < 6 → ((j ≡ i) × (h ≡ k) → ⊥) → at (set_at m k i x) h j ≡ at m h j
  at_other j h low high differ = get_or-set_other m.arcs (6 * i + k) (6 * j + h) x 0 (λ e. differ (omega arith))

-- number k of a node
module _ (nodes : List ℕ) (k v x : ℕ) where
  node_same : 4 * v + k < length nodes → get_or (set nodes (4 * v + k) x) (4 * v + k) 0 ≡ x
  node_same h = get_or-set_same nodes (4 * v + k) x 0 h

  node_other : (u h : ℕ) → k < 4 → h < 4 → ((u ≡ v) × (h ≡ k) → ⊥) → get_or (set nodes (4 * v + k) x) (4 * u + h) 0 ≡ get_or nodes (4 * u + h) 0
  node_other u h low high differ = get_or-set_other nodes (4 * v + k) (4 * u + h) x 0 (λ e. differ (omega arith))

-- Only the lists of side s may differ.
pub record Beside (s : ℕ) (m m' : Memory) : Type 0 where
  pub numbers : (k i : ℕ) → k < 6 → (k ≡ 3 + s → ⊥) → at m' k i ≡ at m k i
  pub firsts : (t v : ℕ) → t < 2 → (t ≡ s → ⊥) → first m' t v ≡ first m t v
  pub lasts : (t v : ℕ) → t < 2 → (t ≡ s → ⊥) → last m' t v ≡ last m t v
  pub arcs_long : length m'.arcs ≡ length m.arcs
  pub nodes_long : length m'.nodes ≡ length m.nodes

pub beside_on : {s : ℕ} {a b c : Memory} → Beside s a b → Beside s b c → Beside s a c
beside_on p q = record {
  numbers = λ k i h d. q.numbers k i h d ∙ p.numbers k i h d;
  firsts = λ t v h d. q.firsts t v h d ∙ p.firsts t v h d;
  lasts = λ t v h d. q.lasts t v h d ∙ p.lasts t v h d;
  arcs_long = q.arcs_long ∙ p.arcs_long;
  nodes_long = q.nodes_long ∙ p.nodes_long;
}

module _ (m : Memory) (s : ℕ) (two : s < 2) where
  beside_link : (i x : ℕ) → Beside s m (set_at m (3 + s) i x)
  beside_link i x = record {
    numbers = λ k j h d. at_other m (3 + s) i x j k (omega arith) h (λ e. d e.1);
    firsts = λ t v h d. refl;
    lasts = λ t v h d. refl;
    arcs_long = simp length-set;
    nodes_long = refl;
  }

  beside_first : (v x : ℕ) → Beside s m (set_first m s v x)
  beside_first v x = record {
    numbers = λ k j h d. refl;
    firsts = λ t u h d. node_other m.nodes (2 * s) v x u (2 * t) (omega arith) (omega arith) (λ e. d (omega (arith, e.1)));
    lasts = λ t u h d. node_other m.nodes (2 * s) v x u (2 * t + 1) (omega arith) (omega arith) (λ e. omega (arith, e.1));
    arcs_long = refl;
    nodes_long = simp length-set;
  }

  beside_last : (v x : ℕ) → Beside s m (set_last m s v x)
  beside_last v x = record {
    numbers = λ k j h d. refl;
    firsts = λ t u h d. node_other m.nodes (2 * s + 1) v x u (2 * t) (omega arith) (omega arith) (λ e. omega (arith, e.1));
    lasts = λ t u h d. node_other m.nodes (2 * s + 1) v x u (2 * t + 1) (omega arith) (omega arith) (λ e. d (omega (arith, e.1)));
    arcs_long = refl;
    nodes_long = simp length-set;
  }

  pub first_of_set_last : (v x u : ℕ) → first (set_last m s v x) s u ≡ first m s u
  first_of_set_last v x u = node_other m.nodes (2 * s + 1) v x u (2 * s) (omega arith) (omega arith) (λ e. omega (arith, e.1))

  pub last_of_set_last : (v x : ℕ) → 4 * v + 4 ≤ length m.nodes → last (set_last m s v x) s v ≡ x
  last_of_set_last v x h = node_same m.nodes (2 * s + 1) v x (omega arith)

  pub last_elsewhere : (v x u : ℕ) → (u ≡ v → ⊥) → last (set_last m s v x) s u ≡ last m s u
  last_elsewhere v x u d = node_other m.nodes (2 * s + 1) v x u (2 * s + 1) (omega arith) (omega arith) (λ e. d e.0)

-- the link that leads on from i, in the list of v: from the mark, to its first
unfoldable pub after : Memory → ℕ → ℕ → ℕ → ℕ
after m s v i = elim (eqb i invalid) [ true ↦ first m s v | false ↦ at m (3 + s) i ]

pub after_place : (m : Memory) (s v i : ℕ) → (i ≡ invalid → ⊥) → after m s v i ≡ at m (3 + s) i
unfolding after
after_place m s v i h = rw (ne_eqb i invalid h, after) refl

pub after_mark : (m : Memory) (s v i : ℕ) → i ≡ invalid → after m s v i ≡ first m s v
unfolding after
after_mark m s v i h = rw (eq-eqb i invalid h, after) refl

module _ (m : Memory) (s : ℕ) (two : s < 2) (v b x : ℕ) where
  at_mark : b ≡ invalid → follow m s v b x ≡ set_first m s v x
  unfolding follow
  at_mark h = rw (eq-eqb b invalid h, follow) refl

  at_place : (b ≡ invalid → ⊥) → follow m s v b x ≡ set_at m (3 + s) b x
  unfolding follow
  at_place h = rw (ne_eqb b invalid h, follow) refl

  -- by cases: b is the mark, or a place
  by_before : (P : Memory → Type 0) → (b ≡ invalid → P (set_first m s v x)) → ((b ≡ invalid → ⊥) → P (set_at m (3 + s) b x)) → P (follow m s v b x)
  by_before P f g =
      on_test (eqb b invalid)
      (λ t. let h = eqb-true b invalid t in rw (at_mark h) (f h))
      (λ t. let h = eqb-false b invalid t in rw (at_place h) (g h))

  pub beside_follow : Beside s m (follow m s v b x)
  beside_follow = by_before (λ f. Beside s m f) (λ h. beside_first m s two v x) (λ h. beside_link m s two b x)

  pub follow_here : 4 * v + 4 ≤ length m.nodes → ((b ≡ invalid → ⊥) → 6 * b + 6 ≤ length m.arcs) → after (follow m s v b x) s v b ≡ x
  follow_here room place =
      by_before (λ f. after f s v b ≡ x)
      (λ h. after_mark (set_first m s v x) s v b h ∙ node_same m.nodes (2 * s) v x (omega arith))
      (λ h. after_place (set_at m (3 + s) b x) s v b h ∙ at_same m (3 + s) b x (omega (arith, place h)))

  pub follow_link : (i : ℕ) → (i ≡ b → ⊥) → at (follow m s v b x) (3 + s) i ≡ at m (3 + s) i
  follow_link i d =
      by_before (λ f. at f (3 + s) i ≡ at m (3 + s) i)
      (λ h. refl)
      (λ h. at_other m (3 + s) b x i (3 + s) (omega arith) (omega arith) (λ e. d e.0))

  pub follow_first : (u : ℕ) → (b ≡ invalid → u ≡ v → ⊥) → first (follow m s v b x) s u ≡ first m s u
  follow_first u d =
      by_before (λ f. first f s u ≡ first m s u)
      (λ h. node_other m.nodes (2 * s) v x u (2 * s) (omega arith) (omega arith) (λ e. d h e.0))
      (λ h. refl)

  pub follow_last : (u : ℕ) → last (follow m s v b x) s u ≡ last m s u
  follow_last u =
      by_before (λ f. last f s u ≡ last m s u)
      (λ h. node_other m.nodes (2 * s) v x u (2 * s + 1) (omega arith) (omega arith) (λ e. omega (arith, e.1)))
      (λ h. refl)

  pub follow_other : (i : ℕ) → (i ≡ b → ⊥) → after (follow m s v b x) s v i ≡ after m s v i
  follow_other i d =
      on_test (eqb i invalid)
      (λ t.
      let h = eqb-true i invalid t in
      after_mark (follow m s v b x) s v i h ∙ follow_first v (λ e u. d (h ∙ sym e)) ∙ sym (after_mark m s v i h))
      (λ t.
      let h = eqb-false i invalid t in
      after_place (follow m s v b x) s v i h ∙ follow_link i d ∙ sym (after_place m s v i h))

pub beside_append : (m : Memory) (s : ℕ) → s < 2 → (v i : ℕ) → Beside s m (append m s v i)
unfolding append
beside_append m s two v i =
    let linked = set_at m (3 + s) i invalid in
    let followed = follow linked s v (last m s v) i in
    beside_on (beside_link m s two i invalid)
    (beside_on (beside_follow linked s two v (last m s v) i) (beside_last followed s two v i))

pub beside_unlink : (m : Memory) (s : ℕ) → s < 2 → (v i b : ℕ) → Beside s m (unlink m s v i b)
unfolding unlink
beside_unlink m s two v i b =
    let next = at m (3 + s) i in
    let followed = beside_follow m s two v b next in
    on_test (eqb next invalid)
    (λ t. rw (t, unlink) (beside_on followed (beside_last (follow m s v b next) s two v b)))
    (λ t. rw (t, unlink) followed)

-- a list that can be changed can still be after a store of the same lengths, and after one to the other side
pub open_long : (m m' : Memory) {s v b : ℕ} → length m'.arcs ≡ length m.arcs → length m'.nodes ≡ length m.nodes → Open m s v b → Open m' s v b
open_long m m' arcs nodes o = record {
  side = o.side;
  node = rw nodes o.node;
  place = λ h. rw arcs (o.place h);
}

pub open_beside : {s t v : ℕ} {m m' : Memory} → Beside s m m' → (t ≡ s → ⊥) → Open m t v (last m t v) → Open m' t v (last m' t v)
open_beside {s} {t} {v} {m} {m'} b d o =
    rw (b.lasts t v o.side d) (open_long m m' b.arcs_long b.nodes_long o)
