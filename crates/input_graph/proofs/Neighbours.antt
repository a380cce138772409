-- What `is_sorted_by` answers, by the items that an iterator gives.
use Rattle.std.proofs.Common.{◌≡◌, refl, sym, subst, ap, ◌∙◌, Bool, true, false, List, [], ◌∷◌, Option, Some, None, MatchOption, inl, inr}
use denote.Ref.{Bor}
use denote.Param.Members.{Mut}
use Rattle.std.specs.Iterator.{Yields, AlwaysYields}
use Rattle.std.specs.Iterator.Order.{OrderTurn, ChecksNeighbours}
use Rattle.std.specs.Fn.{CalledAtTwo}
use Rattle.std.specs.List.{FoldsTo}
use Rattle.std.proofs.lemmas.Iterator.{YieldsList}
use Rattle.input_graph.specs.Given.{rises}

module _ {S A B F : Type 0} (steps : S → Option A → S → Type 0) (v : A → B) (g : Mut F (Bor A × (Bor A × Unit {0})) Bool) (before : B → B → Bool) (f : F)
    (computes : (x y : A) (b : Bool) (f' : F) → CalledAtTwo g f x y b f' → (f' ≡ f) × (b ≡ before (v x) (v y))) where
  -- the rest of the walk, from an item x on
  walk : (xs : List A) (x : A) (all : List B) (s t u : S) (h : F) (q : F × A) (o : Option A) (r : Bool) → h ≡ f → AlwaysYields steps v s all → Yields steps s xs t → steps t o u →
      FoldsTo {P = F × A} (OrderTurn g) (h, x) xs q → MatchOption o (r ≡ true) (λ y. (r ≡ false) × ((h : F) × CalledAtTwo g q.0 q.1 y false h)) →
      r ≡ rises before (v x ∷ all)
  unfolding rises
  walk [] x [] s t u h q None r e a y p c m = m
  walk [] x [] s t u h q (Some z) r e a y p c m = absurd (a z u (subst (λ k. steps k (Some z) u) (sym y) p))
  walk [] x (w ∷ all) s t u h q None r e a y p c m = absurd (a.0 u (subst (λ k. steps k None u) (sym y) p))
  walk [] x (w ∷ all) s t u h q (Some z) r e a y p c m =
      let is : v z ≡ w = (a.1 z u (subst (λ k. steps k (Some z) u) (sym y) p)).0 in
      let called : CalledAtTwo g f x z false m.1.0 = subst (λ (k : F × A). CalledAtTwo g k.0 k.1 z false m.1.0) (sym c ∙ ap (λ k. (k, x)) e) m.1.1 in
      let no : false ≡ before (v x) (v z) = (computes x z false m.1.0 called).1 in
      m.0 ∙ rw (← is, ← no)
  walk (z ∷ xs) x [] s t u h q o r e a y p c m = absurd (a z y.0 y.1)
  walk (z ∷ xs) x (w ∷ all) s t u h q o r e a y p c m =
      let next = a.1 z y.0 y.1 in
      let called : CalledAtTwo g f x z true c.0.0 = subst (λ k. CalledAtTwo g k x z true c.0.0) e c.1.0 in
      let yes = computes x z true c.0.0 called in
      let rest : FoldsTo {P = F × A} (OrderTurn g) (c.0.0, z) xs q = subst (λ k. FoldsTo {P = F × A} (OrderTurn g) (c.0.0, k) xs q) c.1.1 c.2 in
      walk xs z all y.0 t u c.0.0 q o r yes.0 next.1 y.2 p rest m ∙ ap (λ k. rises before (k ∷ all)) next.0 ∙ rw (← next.0, ← yes.1)

  pub sorted_by : (s : S) (all : List B) (r : Bool) → ChecksNeighbours g steps s f r → YieldsList steps v s all → r ≡ rises before all
  unfolding rises
  sorted_by s [] r (inl d) y = d.1
  sorted_by s (w ∷ all) r (inl d) y = absurd (y.runs.0 d.0.0 (subst (λ k. steps k None d.0.0) (sym d.0.1.1) d.0.1.2))
  sorted_by s [] r (inr d) y = absurd (y.runs d.0 d.5.1.0 d.5.1.1)
  sorted_by s (w ∷ all) r (inr d) y =
      let first = y.runs.1 d.0 d.5.1.0 d.5.1.1 in
      walk d.1 d.0 all d.5.1.0 d.5.0 d.3 f d.4 d.2 r refl first.1 d.5.1.2 d.5.2 d.6 d.7 ∙ ap (λ k. rises before (k ∷ all)) first.0
