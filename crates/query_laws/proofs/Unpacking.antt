-- Entries that are shortcuts open as the table rules say, and unpacking's fuel is enough.
use mathlib.Core.Path.{◌≡◌, sym, ◌∙◌, ap, ap₂}
use mathlib.Core.Logic.{inl, inr}
use mathlib.Core.Bool.{true, false, true≢false}
use mathlib.Core.List.{[], ◌∷◌, ◌++◌}
use Prim.Native.Nat.{ℕ, zero, suc, ◌<◌}
use native.Mathlib.Omega.{arith}
use lib.Dec.{eqb}
use borrow.Author.Tests.{eq-eqb}
use Rattle.rules.specs.Numbers.{invalid}
use Rattle.rules.specs.Columns.{Entry, Hierarchy, Side, forward, backward, table, entry, rank}
use Rattle.rules.specs.TableRules.{tail_of, used, Opens, EntryRules, TableRules}
use Rattle.rules.specs.Unpack.{is_shortcut, unpack, unpacked}
use Rattle.rules.proofs.Decides.{both_and}
use Rattle.rules.proofs.Cases.{on_test}
use Rattle.walks.proofs.Places.{used_entry}

-- an entry that is a shortcut opens as its rules say
pub shortcut_opens : (n : ℕ) (h : Hierarchy) (s : Side) (r : ℕ) (e : Entry) → EntryRules n h s r e → is_shortcut e ≡ true → Opens n h s e
unfolding is_shortcut
shortcut_opens n h s r e x t =
    elim x.numbers [
      | inl both ↦
          absurd
          (true≢false
          (sym t ∙ rw (both_and (eqb e.in_number invalid) (eqb e.out_number invalid) (eq-eqb e.in_number invalid both.0) (eq-eqb e.out_number invalid both.1), is_shortcut)))
      | inr opens ↦ opens
    ]

module _ (h : Hierarchy) where
  pub unpack_shortcut : (fuel : ℕ) (s : Side) (e : ℕ) → is_shortcut (entry (table h s) e) ≡ true →
      unpack h (suc fuel) s e ≡ unpack h fuel backward (entry (table h s) e).in_number ++ unpack h fuel forward (entry (table h s) e).out_number
  unfolding unpack
  unpack_shortcut fuel s e t = rw (t, unpack)

  pub unpack_plain : (fuel : ℕ) (s : Side) (e : ℕ) → is_shortcut (entry (table h s) e) ≡ false →
      unpack h (suc fuel) s e ≡ tail_of s (entry (table h s) e) ∷ []
  unfolding unpack
  unpack_plain fuel s e f = rw (f, unpack)

  pub unpacked_plain : (s : Side) (e : ℕ) → is_shortcut (entry (table h s) e) ≡ false → unpacked h s e ≡ tail_of s (entry (table h s) e) ∷ []
  unfolding unpacked
  unpacked_plain s e f = unpack_plain _ s e f

module _ (n : ℕ) (h : Hierarchy) (rules : TableRules n h) where
  -- Fuel above the rank of the base is as good as any other.
  pub unpack_enough : (f g : ℕ) (s : Side) (e : ℕ) → e < used n (table h s) → rank h (entry (table h s) e).base < f →
      rank h (entry (table h s) e).base < g → unpack h f s e ≡ unpack h g s e
  unfolding table
  unpack_enough zero g s e below hf hg = absurd (omega arith)
  unpack_enough (suc f) zero s e below hf hg = absurd (omega arith)
  unpack_enough (suc f) (suc g) s e below hf hg =
      on_test (is_shortcut (entry (table h s) e))
      (λ t.
      let o = shortcut_opens n h s _ (entry (table h s) e) (used_entry n h rules s e below) t in
      let low = o.lower in
      let same = ap (rank h) o.one_node in
      unpack_shortcut h f s e t ∙
      ap₂ (λ xs ys. xs ++ ys)
      (unpack_enough f g backward (entry (table h s) e).in_number o.in_used (omega (arith, low)) (omega (arith, low)))
      (unpack_enough f g forward (entry (table h s) e).out_number o.out_used (omega (arith, low, same)) (omega (arith, low, same))) ∙
      sym (unpack_shortcut h g s e t))
      (λ t. unpack_plain h f s e t ∙ sym (unpack_plain h g s e t))

  -- what an entry opens into, without fuel
  pub unpacked_shortcut : (s : Side) (e : ℕ) → e < used n (table h s) → is_shortcut (entry (table h s) e) ≡ true →
      unpacked h s e ≡ unpacked h backward (entry (table h s) e).in_number ++ unpacked h forward (entry (table h s) e).out_number
  unfolding unpacked table
  unpacked_shortcut s e below t =
      let o = shortcut_opens n h s _ (entry (table h s) e) (used_entry n h rules s e below) t in
      let low = o.lower in
      let same = ap (rank h) o.one_node in
      unpack_shortcut h _ s e t ∙
      ap₂ (λ xs ys. xs ++ ys)
      (unpack_enough _ _ backward (entry (table h s) e).in_number o.in_used (omega (arith, low)) (omega arith))
      (unpack_enough _ _ forward (entry (table h s) e).out_number o.out_used (omega (arith, low, same)) (omega arith))
