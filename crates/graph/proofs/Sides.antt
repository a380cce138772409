-- One side of the pool: each node's list is where the links lead, and it stays so when a place is appended or unlinked.
use mathlib.Core.Path.{◌≡◌, refl, sym, ap, ◌∙◌}
use mathlib.Core.Logic.{inl, inr}
use mathlib.Core.List.Memᴰ
use mathlib.Core.List.{List, [], ◌∷◌, ◌++◌, append-nil}
use Prim.Native.Nat.{ℕ, ◌+◌, ◌*◌, ◌≤◌, ◌<◌}
use native.Mathlib.Omega.{arith}
use native.Mathlib.Decide.{ℕ_discrete}
use lib.Dec.{eqb}
use lib.ListN.{length, length-set}
use borrow.Author.Tests.{eqb-true, eqb-false, eq-eqb, ne_eqb}
use Rattle.rules.specs.Numbers.{invalid}
use Rattle.rules.specs.Lists.{In, keep}
use Rattle.rules.proofs.Cases.{on_test}
use Rattle.rules.proofs.Members.{in_keep, keep_in}
use Rattle.rules.proofs.Lists.{keep_same, keep_append, keep_one, keep_none, keep_turned, Distinct, keep_distinct, other, without, without_absent}
use Rattle.lists.specs.Memory.{Memory, at, first, last, ends_at, Chain, last_of}
use Rattle.graph.specs.Stands.{Listed}
use Rattle.lists.specs.Steps.{set_at, set_last, follow, append, unlink}
use Rattle.lists.specs.Walks.{before}
use Rattle.lists.proofs.Chains.{Valid, chain_same, chain_append, chain_unlink, last_in, before_in, last_append, last_unlink}
use Rattle.lists.proofs.Stores.{Beside, at_same, at_other, after, after_place, after_mark, first_of_set_last, last_of_set_last, last_elsewhere, beside_follow, beside_append, beside_unlink, follow_here, follow_link, follow_first, follow_last, follow_other}

-- each node's list on side s is the places whose arcs have that end there
abbrev pub Sided : ℕ → Memory → ℕ → List ℕ → Type 0
Sided n m s ids = (v : ℕ) → v < n → Listed m s v (keep (ends_at m s v) ids)

-- the places are within the slice
abbrev pub Roomy : Memory → List ℕ → Type 0
Roomy m ids = (i : ℕ) → In i ids → 6 * i + 6 ≤ length m.arcs

pub listed_same : (m m' : Memory) (s v : ℕ) (l : List ℕ) → ((i : ℕ) → In i l → at m' (3 + s) i ≡ at m (3 + s) i)
    → first m' s v ≡ first m s v → last m' s v ≡ last m s v → Listed m s v l → Listed m' s v l
listed_same m m' s v l links f e c = record {
  chain = rw f (chain_same (at m (3 + s)) (at m' (3 + s)) l (first m s v) links c.chain);
  final = e ∙ c.final;
}

-- the list as it is seen from the node
module _ (m : Memory) (s v : ℕ) (l : List ℕ) (valid : Valid l) where
  anchored : Chain (at m (3 + s)) (first m s v) l → Chain (after m s v) (after m s v invalid) l
  anchored c =
      rw (after_mark m s v invalid refl)
      (chain_same (at m (3 + s)) (after m s v) l (first m s v) (λ i k. after_place m s v i (valid i k)) c)

  unanchored : Chain (after m s v) (after m s v invalid) l → Chain (at m (3 + s)) (first m s v) l
  unanchored c =
      chain_same (after m s v) (at m (3 + s)) l (first m s v) (λ i k. sym (after_place m s v i (valid i k)))
      (rw (after_mark m s v invalid refl) at c)

marked_distinct : (l : List ℕ) → Valid l → Distinct l → Distinct (invalid ∷ l)
marked_distinct l valid d = (λ k. valid invalid k refl, d)

-- the ends of arcs are no links
pub same_ends : (s t : ℕ) (m m' : Memory) → s < 2 → t < 2 → Beside s m m' → (v : ℕ) (ids : List ℕ) → keep (ends_at m' t v) ids ≡ keep (ends_at m t v) ids
same_ends s t m m' two two' b v ids =
    keep_same _ _ ids (λ i k. ap (λ x. eqb x v) (b.numbers t i (omega arith) (λ e. omega arith)))

-- the other side stays
pub beside_sided : (n s t : ℕ) (m m' : Memory) → s < 2 → t < 2 → (t ≡ s → ⊥) → Beside s m m' → (ids : List ℕ) → Sided n m t ids → Sided n m' t ids
beside_sided n s t m m' two two' differ b ids c v h =
    rw (same_ends s t m m' two two' b v ids)
    (listed_same m m' t v _ (λ i k. b.numbers (3 + t) i (omega arith) (λ e. differ (omega arith)))
    (b.firsts t v two' differ) (b.lasts t v two' differ) (c v h))

module _ (n : ℕ) (m : Memory) (s : ℕ) (two : s < 2) (ids : List ℕ) (valid : Valid ids) (once : Distinct ids)
    (roomy : Roomy m ids) (nodes : 4 * n ≤ length m.nodes) (sided : Sided n m s ids) (v : ℕ) (inside : v < n) where
  -- the list of v
  abbrev own : List ℕ
  own = keep (ends_at m s v) ids

  own_in : (i : ℕ) → In i own → In i ids × (at m s i ≡ v)
  own_in i k = let r = in_keep (ends_at m s v) i ids k in (r.0, eqb-true (at m s i) v r.1)

  own_valid : Valid own
  own_valid i k = valid i (own_in i k).0

  own_once : Distinct (invalid ∷ own)
  own_once = marked_distinct own own_valid (keep_distinct (ends_at m s v) ids once)

  -- what stands in the list of v, or is the mark, stands in no other list
  elsewhere : (u b i : ℕ) → (u ≡ v → ⊥) → In b (invalid ∷ own) → In i (keep (ends_at m s u) ids) → i ≡ b → ⊥
  elsewhere u b i d k k' e =
      let r = in_keep (ends_at m s u) i ids k' in
      elim (Memᴰ.cases_cons k) [
        | inl mark ↦ valid i r.0 (e ∙ mark)
        | inr place ↦ d (sym (eqb-true (at m s i) u r.1) ∙ ap (at m s) e ∙ (own_in b place).1)
      ]

  module _ (p : ℕ) (at_v : at m s p ≡ v) where
    -- p comes
    module _ (absent : In p ids → ⊥) (place : p ≡ invalid → ⊥) (room : 6 * p + 6 ≤ length m.arcs) where
      abbrev linked : Memory
      linked = set_at m (3 + s) p invalid

      abbrev b : ℕ
      b = last m s v

      abbrev followed : Memory
      followed = follow linked s v b p

      b_in : In b (invalid ∷ own)
      b_in = rw (sided v inside).final (last_in invalid own)

      link_kept : (i : ℕ) → (i ≡ p → ⊥) → at linked (3 + s) i ≡ at m (3 + s) i
      link_kept i d = at_other m (3 + s) p invalid i (3 + s) (omega arith) (omega arith) (λ e. d e.0)

      after_kept : (i : ℕ) → (i ≡ p → ⊥) → after linked s v i ≡ after m s v i
      after_kept i d =
          on_test (eqb i invalid)
          (λ t. let h = eqb-true i invalid t in after_mark linked s v i h ∙ sym (after_mark m s v i h))
          (λ t.
          let h = eqb-false i invalid t in
          after_place linked s v i h ∙ link_kept i d ∙ sym (after_place m s v i h))

      p_not_b : p ≡ b → ⊥
      p_not_b e =
          elim (Memᴰ.cases_cons b_in) [
            | inl mark ↦ place (e ∙ mark)
            | inr in_own ↦ absent (rw (← e) at (own_in b in_own).0)
          ]

      not_p : (i : ℕ) → In i (invalid ∷ own) → i ≡ p → ⊥
      not_p i k e =
          elim (Memᴰ.cases_cons k) [
            | inl mark ↦ place (sym e ∙ mark)
            | inr in_own ↦ absent (rw e at (own_in i in_own).0)
          ]

      listed_after : Listed (append m s v p) s v (own ++ p ∷ [])
      unfolding append
      listed_after = record {
        chain =
            rw (first_of_set_last followed s two v p v)
            (unanchored followed s v (own ++ p ∷ []) own_p_valid
            (chain_append (after m s v) (after followed s v) invalid p own own_once
            (rw (← (sided v inside).final) (follow_here linked s two v b p (omega arith) (λ h. rw length-set (b_room h))))
            (follow_other linked s two v b p p p_not_b ∙ after_place linked s v p place ∙ at_same m (3 + s) p invalid (omega arith))
            (λ i k d. follow_other linked s two v b p i (rw (← (sided v inside).final) at d) ∙ after_kept i (not_p i k))
            (anchored m s v own own_valid (sided v inside).chain)));
        final = last_of_set_last followed s two v p (omega (arith, (beside_follow linked s two v b p).nodes_long)) ∙ sym (last_append invalid p own);
      }
        where
          own_p_valid : Valid (own ++ p ∷ [])
          own_p_valid i k e =
              elim (Memᴰ.append_cases own k) [
                | inl left ↦ own_valid i left e
                | inr right ↦ place (sym (Memᴰ.eq_of_singleton right) ∙ e)
              ]

          b_room : (b ≡ invalid → ⊥) → 6 * b + 6 ≤ length m.arcs
          b_room h = elim (Memᴰ.cases_cons b_in) [ inl mark ↦ absurd (h mark) | inr in_own ↦ roomy b (own_in b in_own).0 ]

      listed_elsewhere : (u : ℕ) → u < n → (u ≡ v → ⊥) → Listed (append m s v p) s u (keep (ends_at m s u) ids)
      unfolding append
      listed_elsewhere u h d =
          listed_same m (append m s v p) s u _
          (λ i k.
          follow_link linked s two v b p i (elsewhere u b i d b_in k) ∙
          link_kept i (λ e. absent (rw e at (in_keep (ends_at m s u) i ids k).0)))
          (first_of_set_last followed s two v p u ∙ follow_first linked s two v b p u (λ _. d))
          (last_elsewhere followed s two v p u d ∙ follow_last linked s two v b p u)
          (sided u h)

      pub append_sided : Sided n (append m s v p) s (ids ++ p ∷ [])
      append_sided u h =
          rw (same_ends s s m (append m s v p) two two (beside_append m s two v p) u (ids ++ p ∷ []), keep_append (ends_at m s u) ids (p ∷ []))
          (elim (ℕ_discrete u v) [
            | yes same ↦ rw (same, keep_one (ends_at m s v) p (eq-eqb (at m s p) v at_v)) listed_after
            | no d ↦ rw (keep_none (ends_at m s u) p (ne_eqb (at m s p) u (λ e. d (sym e ∙ at_v))), append-nil) (listed_elsewhere u h d)
          ])

    -- p goes
    module _ (there : In p ids) (b : ℕ) (b_is : b ≡ before invalid p own) where
      abbrev next : ℕ
      next = at m (3 + s) p

      abbrev past : Memory
      past = follow m s v b next

      p_in : In p own
      p_in = keep_in (ends_at m s v) p ids there (eq-eqb (at m s p) v at_v)

      in_front : In b (invalid ∷ own)
      in_front = rw b_is (before_in invalid p own)

      chain_past : Chain (at past (3 + s)) (first past s v) (without p own)
      chain_past =
          unanchored past s v (without p own) (λ i k. own_valid i (in_keep (other p) i own k).0)
          (chain_unlink (after m s v) (after past s v) invalid p own own_once p_in
          (rw (← b_is) (follow_here m s two v b next (omega arith) in_room) ∙ sym (after_place m s v p (valid p there)))
          (λ i k d. follow_other m s two v b next i (rw (← b_is) at d))
          (anchored m s v own own_valid (sided v inside).chain))
        where
          in_room : (b ≡ invalid → ⊥) → 6 * b + 6 ≤ length m.arcs
          in_room h = elim (Memᴰ.cases_cons in_front) [ inl mark ↦ absurd (h mark) | inr in_own ↦ roomy b (own_in b in_own).0 ]

      ends_past : (next ≡ invalid → last_of invalid (without p own) ≡ b) × ((next ≡ invalid → ⊥) → last_of invalid (without p own) ≡ last m s v)
      ends_past =
          let r = last_unlink (after m s v) invalid p own own_once own_valid p_in (anchored m s v own own_valid (sided v inside).chain) in
          let e = after_place m s v p (valid p there) in
          (λ h. r.0 (e ∙ h) ∙ sym b_is, λ h. r.1 (λ k. h (sym e ∙ k)) ∙ sym (sided v inside).final)

      listed_past : Listed (unlink m s v p b) s v (without p own)
      unfolding unlink
      listed_past =
          on_test (eqb next invalid)
          (λ t.
          rw (t, unlink)
          (record {
            chain = rw (first_of_set_last past s two v b v) chain_past;
            final =
                last_of_set_last past s two v b (omega (arith, (beside_follow m s two v b next).nodes_long)) ∙
                sym (ends_past.0 (eqb-true next invalid t));
          }))
          (λ t.
          rw (t, unlink)
          (record {
            chain = chain_past;
            final = follow_last m s two v b next v ∙ sym (ends_past.1 (eqb-false next invalid t));
          }))

      listed_beside : (u : ℕ) → u < n → (u ≡ v → ⊥) → Listed (unlink m s v p b) s u (keep (ends_at m s u) ids)
      unfolding unlink
      listed_beside u h d =
          on_test (eqb next invalid)
          (λ t.
          rw (t, unlink)
          (listed_same past (set_last past s v b) s u _ (λ i k. refl) (first_of_set_last past s two v b u)
          (last_elsewhere past s two v b u d) listed_followed))
          (λ t. rw (t, unlink) listed_followed)
        where
          listed_followed : Listed past s u (keep (ends_at m s u) ids)
          listed_followed =
              listed_same m past s u _ (λ i k. follow_link m s two v b next i (elsewhere u b i d in_front k))
              (follow_first m s two v b next u (λ _. d)) (follow_last m s two v b next u) (sided u h)

      pub unlink_sided : Sided n (unlink m s v p b) s (without p ids)
      unlink_sided u h =
          rw (same_ends s s m (unlink m s v p b) two two (beside_unlink m s two v p b) u (without p ids), keep_turned (ends_at m s u) (other p) ids)
          (elim (ℕ_discrete u v) [
            | yes same ↦ rw same listed_past
            | no d ↦
                rw (without_absent p (keep (ends_at m s u) ids) (λ k. elsewhere u p p d (Memᴰ.tail p_in) k refl))
                (listed_beside u h d)
          ])
