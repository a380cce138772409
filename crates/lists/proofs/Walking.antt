-- The walks of `predecessor` and `find_arc`, said of the list of places.
use mathlib.Core.Path.{◌≡◌, refl, sym, ap, ◌∙◌}
use mathlib.Core.Bool.{Bool, true, false}
use mathlib.Core.List.Memᴰ
use mathlib.Core.List.{List}
use Prim.Native.Nat.{ℕ, ◌+◌}
use borrow.Author.Tests.{eq-eqb, ne_eqb}
use Rattle.rules.specs.Numbers.{invalid}
use Rattle.rules.specs.Lists.{In}
use Rattle.rules.proofs.Members.{in_rest}
use Rattle.lists.specs.Walks.{column, Walk, before, found}
use Rattle.lists.proofs.Walks.{walk_on, walk_end}

-- the walk from `at` on goes through p, and `answer` is what stands before it, b where it is the first
pub record Ahead (arcs : List ℕ) (s p b at answer : ℕ) : Type 0 where
  pub rest : List ℕ
  pub walk : Walk arcs (3 + s) at rest
  pub there : In p rest
  pub same : before b p rest ≡ answer

module _ {arcs : List ℕ} {s p b at answer : ℕ} (ahead : Ahead arcs s p b at answer) where
  -- the walk is not at its end
  pub ahead_valid : at ≡ invalid → ⊥
  ahead_valid e = Memᴰ.not-nil (rw (walk_end ahead.walk e) at ahead.there)

  pub ahead_here : at ≡ p → b ≡ answer
  unfolding before
  ahead_here e =
      let r = walk_on ahead.walk ahead_valid in
      sym (ap (before b p) r.1 ∙ rw (eq-eqb at p e, before) refl) ∙ ahead.same

  pub ahead_on : (at ≡ p → ⊥) → Ahead arcs s p at (column arcs (3 + s) at) answer
  unfolding before
  ahead_on d =
      let r = walk_on ahead.walk ahead_valid in
      record {
        rest = r.0;
        walk = r.2;
        there = in_rest p at r.0 (rw r.1 at ahead.there) (λ e. d (sym e));
        same = sym (ap (before b p) r.1 ∙ rw (ne_eqb at p d, before) refl) ∙ ahead.same;
      }

-- the walk from `at` on comes upon `answer` first of all that pass
pub record Seeking (arcs : List ℕ) (pass : ℕ → Bool) (at answer : ℕ) : Type 0 where
  pub rest : List ℕ
  pub walk : Walk arcs 3 at rest
  pub same : found pass rest ≡ answer

module _ {arcs : List ℕ} {pass : ℕ → Bool} {at answer : ℕ} (seeking : Seeking arcs pass at answer) where
  pub sought_none : at ≡ invalid → invalid ≡ answer
  unfolding found
  sought_none e = sym (ap (found pass) (walk_end seeking.walk e)) ∙ seeking.same

  module _ (on : at ≡ invalid → ⊥) where
    pub sought_here : pass at ≡ true → at ≡ answer
    unfolding found
    sought_here t =
        let r = walk_on seeking.walk on in
        sym (ap (found pass) r.1 ∙ rw (t, found) refl) ∙ seeking.same

    pub seek_on : pass at ≡ false → Seeking arcs pass (column arcs 3 at) answer
    unfolding found
    seek_on t =
        let r = walk_on seeking.walk on in
        record { rest = r.0; walk = r.2; same = sym (ap (found pass) r.1 ∙ rw (t, found) refl) ∙ seeking.same }
