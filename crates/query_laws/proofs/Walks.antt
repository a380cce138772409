-- Entries open into walks of input links (step 6). A trail is a walk with its nodes listed; one whose edges weigh
-- something and that meets a node twice has a lighter path.
use mathlib.Core.Path.{◌≡◌, refl, sym, ap}
use mathlib.Core.Logic.{inl, inr}
use mathlib.Core.Bool.{false, true≢false}
use mathlib.Core.List.Memᴰ
use mathlib.Core.List.{List, [], ◌∷◌, ◌++◌, append_assoc}
use Prim.Native.Nat.{ℕ, zero, suc, ◌+◌, ◌≤◌, ◌<◌}
use native.Mathlib.Omega.{arith}
use native.Mathlib.Nat.{add_assoc, add_comm}
use lib.Dec.{eqb}
use borrow.Author.Tests.{eqb-true}
use Rattle.rules.specs.Lists.{In, any, distinct}
use Rattle.rules.specs.Columns.{Link, Entry, Hierarchy, Side, forward, backward, opposite, table, entry, rank, places}
use Rattle.rules.specs.TableRules.{tail_of, head_of, used, EntryRules}
use Rattle.rules.specs.Unpack.{is_shortcut, unpack, unpacked}
use Rattle.rules.proofs.Cases.{on_test}
use Rattle.rules.proofs.Members.{any_in}
use Rattle.walks.specs.Paths.{Edges, Path, stay, step}
use Rattle.walks.specs.Walks.{Linked, Walk}
use Rattle.walks.specs.Promise.{Promise, Entries}
use Rattle.walks.proofs.Paths.{said}
use Rattle.walks.proofs.Places.{used_entry, place_entry, place_base, place_used}
use Rattle.query_laws.proofs.Unpacking.{shortcut_opens, unpack_shortcut, unpack_plain}

pub data Trail (E : Edges) (t : ℕ) : ℕ → ℕ → List ℕ → Type 0 where
  there : {u w : ℕ} → u ≡ t → w ≡ 0 → Trail E t u w (t ∷ [])
  along : {u w : ℕ} {vs : List ℕ} (v x y : ℕ) → E u v x → w ≡ x + y → Trail E t v y vs → Trail E t u w (u ∷ vs)

module _ {E : Edges} where
  pub retold : {t u v w x : ℕ} {vs : List ℕ} → v ≡ u → x ≡ w → Trail E t u w vs → Trail E t v x vs
  retold p q r = rw (p, q) r

  pub trail_path : {t u w : ℕ} {vs : List ℕ} → Trail E t u w vs → Path E t u w
  trail_path (there same none) = stay same none
  trail_path (along v x y e sum r) = step v x y e sum (trail_path r)

  -- from any node of a trail on, there is a path that weighs no more
  suffix : {t u w : ℕ} {vs : List ℕ} → Trail E t u w vs → (a : ℕ) → In a vs → (x : ℕ) × Path E t a x × (x ≤ w)
  suffix (there same none) a m = (0, stay (Memᴰ.eq_of_singleton m) refl, omega arith)
  suffix {w = w} (along v x y e sum r) a m =
      elim (Memᴰ.cases_cons m) [
        | inl here ↦ (w, said (step v x y e sum (trail_path r)) here refl, omega arith)
        | inr later ↦ let p = suffix r a later in (p.0, p.1, omega (arith, p.2))
      ]

  -- a trail that meets a node twice has a lighter path beside it, if edges weigh something
  pub shorter : {t u w : ℕ} {vs : List ℕ} → ((a b x : ℕ) → E a b x → 1 ≤ x) → Trail E t u w vs → distinct vs ≡ false →
      (x : ℕ) × Path E t u x × (x < w)
  unfolding distinct any
  shorter {t} some (there same none) twice = absurd (true≢false twice)
  shorter {t} {u} {w} some (along {vs = vs} v x y e sum r) twice =
      on_test (any (eqb u) vs)
      (λ again.
      let m = any_in (eqb u) vs again in
      let p = suffix r u (Memᴰ.cast (eqb-true u m.0 m.2) m.1) in
      (p.0, p.1, omega (arith, p.2, some u v x e)))
      (λ once.
      let p = shorter some r (rw (once) at twice) in
      (x + p.0, step v x p.0 e refl p.1, omega (arith, p.2)))

  pub trail_nodes : {t u w n : ℕ} {vs : List ℕ} → ((a b x : ℕ) → E a b x → a < n) → t < n → Trail E t u w vs → (a : ℕ) → In a vs → a < n
  trail_nodes below last (there same none) a m = rw (Memᴰ.eq_of_singleton m) last
  trail_nodes {u = u} below last (along v x y e sum r) a m =
      elim (Memᴰ.cases_cons m) [
        | inl here ↦ rw here (below u v x e)
        | inr later ↦ trail_nodes below last r a later
      ]

-- `us` are the nodes, but the last, of a trail from a to b of weight w: put before any trail from b, they lengthen it.
pub record Leads (E : Edges) (a b w : ℕ) (us : List ℕ) : Type 0 where
  pub before : (t x : ℕ) (vs : List ℕ) → Trail E t b x vs → Trail E t a (w + x) (us ++ vs)

module _ {E : Edges} where
  pub leads_nowhere : {a : ℕ} → Leads E a a 0 []
  leads_nowhere = record { before = λ t x vs r. retold refl (omega arith) r }

  pub leads_edge : {a b w : ℕ} → E a b w → Leads E a b w (a ∷ [])
  leads_edge {b = b} {w = w} e = record { before = λ t x vs r. along b w x e refl r }

  pub leads_join : {a b c v w : ℕ} {us vs : List ℕ} → Leads E a b v us → Leads E b c w vs → Leads E a c (v + w) (us ++ vs)
  leads_join {v = v} {w = w} {us = us} {vs = vs} p q =
      record {
        before = λ t x zs r. rw (append_assoc us vs zs, add_assoc v w x) (p.before t (w + x) (vs ++ zs) (q.before t x zs r));
      }

  pub leads_told : {a b c d v w : ℕ} {us : List ℕ} → a ≡ c → b ≡ d → v ≡ w → Leads E c d w us → Leads E a b v us
  leads_told p q e l = rw (p, q, e) l

  pub leads_trail : {a b w : ℕ} {us : List ℕ} → Leads E a b w us → Trail E b a w (us ++ (b ∷ []))
  leads_trail {a} {b} {w} {us} l = retold refl (omega arith) (l.before b 0 (b ∷ []) (there refl refl))

  pub leads_path : {a b w : ℕ} {us : List ℕ} → Leads E a b w us → Path E b a w
  leads_path l = trail_path (leads_trail l)

-- A step in a side's direction: forward from a to b, backward from b to a. What is put after what turns with it.
abbrev pub Towards : Edges → Side → ℕ → ℕ → ℕ → List ℕ → Type 0
Towards E forward a b w us = Leads E a b w us
Towards E backward a b w us = Leads E b a w us

abbrev pub joined : Side → List ℕ → List ℕ → List ℕ
joined forward us vs = us ++ vs
joined backward us vs = vs ++ us

pub towards_nowhere : (E : Edges) (s : Side) (a : ℕ) → Towards E s a a 0 []
towards_nowhere E forward a = leads_nowhere
towards_nowhere E backward a = leads_nowhere

pub towards_join : (E : Edges) (s : Side) (a b c v w : ℕ) (us vs : List ℕ) → Towards E s a b v us → Towards E s b c w vs →
    Towards E s a c (v + w) (joined s us vs)
towards_join E forward a b c v w us vs p q = leads_join p q
towards_join E backward a b c v w us vs p q = leads_told refl refl (add_comm v w) (leads_join q p)

-- the links that a table may hold: of some weight, between nodes
abbrev pub Solid : ℕ → List Link → Edges
Solid n ls u v w = Linked ls u v w × (1 ≤ w) × (u < n) × (v < n)

pub solid_path : {n : ℕ} {ls : List Link} {b a w : ℕ} → Path (Solid n ls) b a w → Path (Linked ls) b a w
solid_path (stay same none) = stay same none
solid_path (step c x y e sum r) = step c x y e.0 sum (solid_path r)

pub trail_walk : {n : ℕ} {ls : List Link} {t u w : ℕ} {vs : List ℕ} → Trail (Solid n ls) t u w vs → Walk ls t u w vs
trail_walk (there same none) = rw (same, none) Walk.stay
trail_walk (along v x y e sum r) = rw sum (Walk.step e.0 (trail_walk r))

pub walk_path : {ls : List Link} {t u w : ℕ} {vs : List ℕ} → Walk ls t u w vs → Path (Linked ls) t u w
walk_path (Walk.stay) = stay refl refl
walk_path (Walk.step {v = v} {w = w} {x = x} e r) = step v w x e refl (walk_path r)

ends_below : (n : ℕ) (h : Hierarchy) (s : Side) (r : ℕ) (e : Entry) → EntryRules n h s r e → (tail_of s e < n) × (head_of s e < n)
unfolding tail_of head_of
ends_below n h forward r e x = (x.base_below, x.neighbour_below)
ends_below n h backward r e x = (x.neighbour_below, x.base_below)

-- an entry leads, in its side's direction, from its base to its neighbour
entry_direction : (E : Edges) (s : Side) (e : Entry) (us : List ℕ) → Leads E (tail_of s e) (head_of s e) e.weight us →
    Towards E s e.base e.neighbour e.weight us
unfolding tail_of head_of
entry_direction E forward e us l = l
entry_direction E backward e us l = l

-- what leads away on the other side leads here on this
pub towards_back : (E : Edges) (s : Side) (a b w : ℕ) (us : List ℕ) → Towards E (opposite s) a b w us → Towards E s b a w us
unfolding opposite
towards_back E forward a b w us l = l
towards_back E backward a b w us l = l

module _ (n : ℕ) (ls : List Link) (h : Hierarchy) (promise : Promise n ls h) where
  -- an entry opens into a walk of input links, of exactly its weight
  unpack_leads : (f : ℕ) (s : Side) (e : ℕ) → e < used n (table h s) → rank h (entry (table h s) e).base < f →
      Leads (Solid n ls) (tail_of s (entry (table h s) e)) (head_of s (entry (table h s) e)) (entry (table h s) e).weight (unpack h f s e)
  unfolding table tail_of head_of
  unpack_leads zero s e below high = absurd (omega arith)
  unpack_leads (suc f) s e below high =
      on_test (is_shortcut (entry (table h s) e))
      (λ t.
      let o = shortcut_opens n h s _ (entry (table h s) e) (used_entry n h promise.rules s e below) t in
      let low = o.lower in
      let same = ap (rank h) o.one_node in
      rw (unpack_shortcut h f s e t)
      (leads_told (sym o.from_tail) (sym o.to_head) (sym o.sum)
      (leads_join
      (leads_told refl (sym o.one_node) refl (unpack_leads f backward (entry (table h s) e).in_number o.in_used (omega (arith, low))))
      (unpack_leads f forward (entry (table h s) e).out_number o.out_used (omega (arith, low, same))))))
      (λ t. rw (unpack_plain h f s e t) (leads_edge (
        promise.plain_is_link s e below t,
        x.weight_low,
        (ends_below n h s _ _ x).0,
        (ends_below n h s _ _ x).1,
      )))
    where
      x : EntryRules n h s (rank h (entry (table h s) e).base) (entry (table h s) e)
      x = used_entry n h promise.rules s e below

  pub entry_leads : (s : Side) (e : ℕ) → e < used n (table h s) →
      Leads (Solid n ls) (tail_of s (entry (table h s) e)) (head_of s (entry (table h s) e)) (entry (table h s) e).weight (unpacked h s e)
  unfolding unpacked
  entry_leads s e below = unpack_leads _ s e below (omega arith)

  -- the same of an entry of a node, in the side's direction
  pub place_leads : (s : Side) (v : ℕ) → v < n → (e : ℕ) → In e (places (table h s) (rank h v)) →
      Towards (Solid n ls) s v (entry (table h s) e).neighbour (entry (table h s) e).weight (unpacked h s e)
  place_leads s v below e m =
      rw (place_base n h promise.rules s v below e m) at (entry_direction (Solid n ls) s (entry (table h s) e) (unpacked h s e) (entry_leads s e (place_used n h promise.rules s v below e m)))

  -- a chain of entries leads in its side's direction
  pub chain_leads : (s : Side) {m v w : ℕ} → Path (Entries h s) m v w → v < n → (us : List ℕ) × Towards (Solid n ls) s v m w us
  chain_leads s {m} {v} {w} (stay same none) below = ([], rw (same, none) (towards_nowhere (Solid n ls) s m))
  chain_leads s {m} {v} {w} (step c x y (e, here, to, weighs) sum r) below =
      let z = place_entry n h promise.rules s v below e here in
      let q = chain_leads s r (rw to at z.neighbour_below) in
      let l : Towards (Solid n ls) s v c x (unpacked h s e) = rw (to, weighs) at (place_leads s v below e here) in
      (joined s (unpacked h s e) q.0, rw sum (towards_join (Solid n ls) s v c m x y (unpacked h s e) q.0 l q.1))
