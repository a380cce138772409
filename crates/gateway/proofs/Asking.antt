-- The program's own call of a query, and the line of its answer.
use mathlib.Core.List.{List, [], ◌∷◌}
use mathlib.Core.Path.{◌≡◌, refl, sym, ap, ◌∙◌, subst}
use Prim.Native.Nat.{ℕ, zero, suc, ◌+◌, ◌*◌, ◌≤◌}
use native.Mathlib.Omega.{arith}
use lib.ListN.{length, get_or, take, replicate, length-take, length-replicate}
use lib.Seq.{length-take-le}
use Rattle.rules.specs.Columns.{Hierarchy, begin}
use Rattle.rules.specs.TableRules.{used}
use Rattle.rules.specs.Refusals.{query_scratch}
use Rattle.rules.specs.Query.{Answered, query}
use Rattle.rules.specs.Program.{query_call, refused_line, route_line, answer_line}
use Rattle.path_calculator.specs.Searching.{call}
use Rattle.query.specs.Answers.{Answer, Tells}
use Rattle.query.proofs.Handing.{part_long}
use Rattle.text.specs.Wrote.{Fits, Wrote}

-- so many places of zeroes
pub zeroes : (k : ℕ) → length {A = ℕ} (replicate k 0) ≡ k
zeroes k = length-replicate {A = ℕ} k 0

pub front_long : (k most : ℕ) → k ≤ most → k ≡ length (take {A = ℕ} k (replicate most 0))
front_long k most h = sym (length-take-le {A = ℕ} k (replicate most 0) (omega (arith, zeroes most)))

module _ (n : ℕ) (h : Hierarchy) (s t : ℕ) where
  module _ (path : List ℕ) (fl bl fh bh : ℕ) (p : path ≡ replicate 32 0) (a : fl ≡ 4 * n) (b : bl ≡ 4 * n)
      (c : fh ≡ 2 * (get_or h.forward.starts n 0 + 16)) (d : bh ≡ 2 * (get_or h.backward.starts n 0 + 16)) where
    is_call : call n h (s ∷ []) (0 ∷ []) (t ∷ []) (0 ∷ []) path (fl ∷ bl ∷ fh ∷ bh ∷ []) ≡ query_call n h s t
    unfolding query_call query_scratch used begin
    is_call = λ j. call n h (s ∷ []) (0 ∷ []) (t ∷ []) (0 ∷ []) (p j) (a j ∷ b j ∷ c j ∷ d j ∷ [])

    pub asked : (r : Answer) (path' : List ℕ) → Tells (query (call n h (s ∷ []) (0 ∷ []) (t ∷ []) (0 ∷ []) path (fl ∷ bl ∷ fh ∷ bh ∷ []))) r path' →
        Tells (query (query_call n h s t)) r path'
    asked r path' tells = subst (λ q. Tells (query q) r path') is_call tells

-- the line of an answer
module _ (a : Answered) (r : Answer) (path : List ℕ) (t : Tells a r path) where
  number_is : a.number ≡ r.number
  number_is = sym (ap (λ b. b.number) t.is)

  pub refused_answer : (r.number ≡ 0 → ⊥) → answer_line a ≡ refused_line r.number
  unfolding answer_line
  refused_answer some = go a.number refl (λ e. some (sym number_is ∙ e)) ∙ ap refused_line number_is
    where
      go : (k : ℕ) → a.number ≡ k → (k ≡ 0 → ⊥) → answer_line a ≡ refused_line a.number
      go zero e more = absurd (more refl)
      go (suc k) e more = rw (e, answer_line)

  pub found_answer : r.number ≡ 0 → answer_line a ≡ route_line r.weight (take r.count path)
  unfolding answer_line
  found_answer none =
      rw (number_is ∙ none, answer_line, ← ap (λ b. b.weight) t.is, ← ap (λ b. b.walk) t.is)

-- The line of a query's record; s and t are what was read there.
module _ (n : ℕ) (h : Hierarchy) {s s' t t' : ℕ} (p : s ≡ s') (q : t ≡ t') (r : Answer) (path : List ℕ) (told : Tells (query (query_call n h s t)) r path) where
  there : Tells (query (query_call n h s' t')) r path
  there = rw (← p, ← q) told

  pub refuses_fits : (end : ℕ) → (r.number ≡ 0 → ⊥) → Fits end (answer_line (query (query_call n h s' t'))) → Fits end (refused_line r.number)
  refuses_fits end some fits = rw (refused_answer _ r path there some) at fits

  pub refuses : {out out' : List ℕ} {end e : ℕ} → (r.number ≡ 0 → ⊥) → Wrote out end (refused_line r.number) e out' →
      Wrote out end (answer_line (query (query_call n h s' t'))) e out'
  refuses some w = rw (refused_answer _ r path there some) w

  pub finds_fits : (end : ℕ) → r.number ≡ 0 → Fits end (answer_line (query (query_call n h s' t'))) → Fits end (route_line r.weight (take r.count path))
  finds_fits end none fits = rw (found_answer _ r path there none) at fits

  pub finds : {out out' : List ℕ} {end e : ℕ} → r.number ≡ 0 → Wrote out end (route_line r.weight (take r.count path)) e out' →
      Wrote out end (answer_line (query (query_call n h s' t'))) e out'
  finds none w = rw (found_answer _ r path there none) w

pub counted : (a : Answered) (r : Answer) (path : List ℕ) → Tells a r path → r.count ≤ length path
counted a r path t = omega (arith, part_long a r path t, length-take r.count path)
