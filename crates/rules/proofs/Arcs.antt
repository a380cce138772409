-- Laws of arcs: when two are the same, which ends an arc has that another joins, and which arc keeps a sum out.
use mathlib.Core.Path.{◌≡◌}
use mathlib.Core.Bool.{true}
use mathlib.Core.List.{List}
use Prim.Native.Nat.{◌≤◌}
use lib.Dec.{eqb, leb}
use borrow.Author.Tests.{eqb-true, eq-eqb, leb-true, le-leb}
use Rattle.rules.specs.Lists.{In}
use Rattle.rules.specs.Graph.{Arc, joins, kept}
use Rattle.rules.proofs.Decides.{and_both, both_and}
use Rattle.rules.proofs.Members.{any_in, in_any}

pub same_arc : {a b : Arc} → a.tail ≡ b.tail → a.head ≡ b.head → a.weight ≡ b.weight → a.centre ≡ b.centre → a ≡ b
same_arc p q r s = λ i. record { tail = p i; head = q i; weight = r i; centre = s i }

pub joined_ends : (s a : Arc) → joins s a ≡ true → (a.tail ≡ s.tail) × (a.head ≡ s.head)
unfolding joins
joined_ends s a e =
    let both = and_both (eqb a.tail s.tail) (eqb a.head s.head) e in
    (eqb-true a.tail s.tail both.0, eqb-true a.head s.head both.1)

pub kept_in : (s : Arc) (g : List Arc) → kept s g ≡ true → (x : Arc) × In x g × (x.tail ≡ s.tail) × (x.head ≡ s.head) × (x.weight ≤ s.weight)
unfolding kept
kept_in s g e =
    let w = any_in _ g e in
    let both = and_both (joins s w.0) (leb w.0.weight s.weight) w.2 in
    let ends = joined_ends s w.0 both.0 in
    (w.0, w.1, ends.0, ends.1, leb-true w.0.weight s.weight both.1)

pub in_kept : (s : Arc) (g : List Arc) (x : Arc) → In x g → x.tail ≡ s.tail → x.head ≡ s.head → x.weight ≤ s.weight → kept s g ≡ true
unfolding kept joins
in_kept s g x m p q h =
    in_any _ g x m
    (both_and _ _ (both_and _ _ (eq-eqb x.tail s.tail p) (eq-eqb x.head s.head q)) (le-leb x.weight s.weight h))
