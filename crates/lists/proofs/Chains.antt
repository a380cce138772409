-- Laws of a chain of links: it changes only where a link on it does. A list of places is seen from b, which stands in front of
-- it: the link of b leads to the first, and `invalid` in front stands for the node itself.
use mathlib.Core.Path.{◌≡◌, refl, sym, ap, ◌∙◌}
use mathlib.Core.List.Memᴰ
use mathlib.Core.List.{List, [], ◌∷◌, ◌++◌}
use Prim.Native.Nat.{ℕ, zero, suc, ◌≤◌}
use native.Mathlib.Omega.{arith}
use native.Mathlib.Decide.{ℕ_discrete}
use lib.ListN.{length}
use borrow.Author.Tests.{eq-eqb, ne_eqb}
use Rattle.rules.specs.Numbers.{invalid}
use Rattle.rules.specs.Lists.{In, keep}
use Rattle.rules.proofs.Members.{in_rest}
use Rattle.rules.proofs.Lists.{Distinct, without, other_true, other_same, without_absent}
use Rattle.lists.specs.Memory.{Chain, last_of}
use Rattle.lists.specs.Walks.{before, steps}

-- none of these is the mark
abbrev pub Valid : List ℕ → Type 0
Valid l = (i : ℕ) → In i l → i ≡ invalid → ⊥

pub chain_same : (next next' : ℕ → ℕ) (l : List ℕ) (start : ℕ) → ((i : ℕ) → In i l → next' i ≡ next i) → Chain next start l → Chain next' start l
chain_same next next' [] start h c = c
chain_same next next' (i ∷ l) start h c =
    (c.0, rw (h i (Memᴰ.head refl)) (chain_same next next' l (next i) (λ j m. h j (Memᴰ.tail m)) c.1))

-- where the chain ends at once nothing is on it, and where it does not its first place is
pub chain_empty : (next : ℕ → ℕ) (l : List ℕ) (start : ℕ) → Valid l → Chain next start l → start ≡ invalid → l ≡ []
chain_empty next [] start v c e = refl
chain_empty next (i ∷ l) start v c e = absurd (v i (Memᴰ.head refl) (sym c.0 ∙ e))

pub chain_first : (next : ℕ → ℕ) (l : List ℕ) (start : ℕ) → Chain next start l → (start ≡ invalid → ⊥) → (rest : List ℕ) × (l ≡ start ∷ rest) × Chain next (next start) rest
chain_first next [] start c h = absurd (h c)
chain_first next (i ∷ l) start c h = (l, ap (λ k. k ∷ l) (sym c.0), rw c.0 c.1)

pub last_in : (b : ℕ) (l : List ℕ) → In (last_of b l) (b ∷ l)
unfolding last_of
last_in b [] = Memᴰ.head refl
last_in b (i ∷ l) = Memᴰ.tail (last_in i l)

pub before_in : (b p : ℕ) (l : List ℕ) → In (before b p l) (b ∷ l)
unfolding before
before_in b p [] = Memᴰ.head refl
before_in b p (i ∷ l) =
    elim (ℕ_discrete i p) [
      | yes same ↦ rw (eq-eqb i p same, before) (Memᴰ.head refl)
      | no differ ↦ rw (ne_eqb i p differ, before) (Memᴰ.tail (before_in i p l))
    ]

pub last_append : (b p : ℕ) (l : List ℕ) → last_of b (l ++ p ∷ []) ≡ p
unfolding last_of
last_append b p [] = refl
last_append b p (i ∷ l) = last_append i p l

module _ (next next' : ℕ → ℕ) where
  -- p goes to the end: the last link leads to it
  pub chain_append : (b p : ℕ) (l : List ℕ) → Distinct (b ∷ l) → next' (last_of b l) ≡ p → next' p ≡ invalid
      → ((i : ℕ) → In i (b ∷ l) → (i ≡ last_of b l → ⊥) → next' i ≡ next i)
      → Chain next (next b) l → Chain next' (next' b) (l ++ p ∷ [])
  unfolding last_of
  chain_append b p [] d to end same c = (to, end)
  chain_append b p (i ∷ l) d to end same c = (
    same b (Memᴰ.head refl) (λ e. d.0 (rw (sym e) at (last_in i l))) ∙ c.0,
    chain_append i p l d.1 to end (λ j m. same j (Memᴰ.tail m)) c.1,
  )

  -- p leaves: the link before it leads past it
  pub chain_unlink : (b p : ℕ) (l : List ℕ) → Distinct (b ∷ l) → In p l → next' (before b p l) ≡ next p
      → ((i : ℕ) → In i (b ∷ l) → (i ≡ before b p l → ⊥) → next' i ≡ next i)
      → Chain next (next b) l → Chain next' (next' b) (without p l)
  unfolding before keep
  chain_unlink b p [] d m on same c = absurd (Memᴰ.not-nil m)
  chain_unlink b p (i ∷ l) d m on same c =
      elim (ℕ_discrete i p) [
        | yes here ↦
            let t = eq-eqb i p here in
            let on' : next' b ≡ next i = (rw (t, before) at on) ∙ ap next (sym here) in
            let same' : (j : ℕ) → In j (b ∷ i ∷ l) → (j ≡ b → ⊥) → next' j ≡ next j = rw (t, before) at same in
            rw (other_same p i here, keep, without_absent p l (λ k. d.1.0 (rw (← here) at k)), on')
            (chain_same next next' l (next i)
            (λ j k. same' j (Memᴰ.tail (Memᴰ.tail k)) (λ e. d.0 (Memᴰ.tail (rw e at k))))
            c.1)
        | no differ ↦
            let t = ne_eqb i p differ in
            let on' : next' (before i p l) ≡ next p = rw (t, before) at on in
            let same' : (j : ℕ) → In j (b ∷ i ∷ l) → (j ≡ before i p l → ⊥) → next' j ≡ next j = rw (t, before) at same in
            rw (other_true p i differ, keep) (
              same' b (Memᴰ.head refl) (λ e. d.0 (rw (sym e) at (before_in i p l))) ∙ c.0,
              chain_unlink i p l d.1 (in_rest p i l m (λ e. differ (sym e))) on' (λ j k. same' j (Memᴰ.tail k)) c.1,
            )
      ]

module _ (next : ℕ → ℕ) where
  -- p is the last exactly if its link ends the chain
  pub last_unlink : (b p : ℕ) (l : List ℕ) → Distinct (b ∷ l) → Valid l → In p l → Chain next (next b) l
      → (next p ≡ invalid → last_of b (without p l) ≡ before b p l) × ((next p ≡ invalid → ⊥) → last_of b (without p l) ≡ last_of b l)
  unfolding before last_of keep
  last_unlink b p [] d v m c = absurd (Memᴰ.not-nil m)
  last_unlink b p (i ∷ l) d v m c =
      elim (ℕ_discrete i p) [
        | yes here ↦
            let t : without p (i ∷ l) ≡ l = rw (other_same p i here, keep) (without_absent p l (λ k. d.1.0 (rw (← here) at k))) in
            let r = rest i l (λ j k. v j (Memᴰ.tail k)) c.1 in
            rw (t, eq-eqb i p here, before, ← here) r
        | no differ ↦
            rw (other_true p i differ, keep, ne_eqb i p differ, before)
            (last_unlink i p l d.1 (λ j k. v j (Memᴰ.tail k)) (in_rest p i l m (λ e. differ (sym e))) c.1)
      ]
    where
      rest : (i : ℕ) (l : List ℕ) → Valid l → Chain next (next i) l
          → (next i ≡ invalid → last_of b l ≡ b) × ((next i ≡ invalid → ⊥) → last_of b l ≡ last_of i l)
      rest i [] v c = (λ e. refl, λ h. absurd (h c))
      rest i (j ∷ l) v c = (λ e. absurd (v j (Memᴰ.head refl) (sym c.0 ∙ e)), λ h. refl)

  -- the measure of a walk
  pub chain_steps : (most start : ℕ) (l : List ℕ) → Valid l → length l ≤ most → Chain next start l → steps next most start ≡ length l
  unfolding steps
  chain_steps zero start [] v h c = refl
  chain_steps zero start (i ∷ l) v h c = absurd (omega arith)
  chain_steps (suc most) start [] v h c = rw (eq-eqb start invalid c, steps) refl
  chain_steps (suc most) start (i ∷ l) v h c =
      rw (ne_eqb start invalid (λ e. v i (Memᴰ.head refl) (sym c.0 ∙ e)), steps)
      (ap suc (chain_steps most (next start) l (λ j k. v j (Memᴰ.tail k)) (omega arith) (rw c.0 c.1)))
