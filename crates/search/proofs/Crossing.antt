-- Laws of crossing an arc: relaxing is crossing one after the other.
use mathlib.Core.Path.{◌≡◌, refl}
use mathlib.Core.List.{List, ◌∷◌}
use Prim.Native.Nat.{ℕ, ◌+◌}
use native.Mathlib.Omega.{arith}
use lib.Dec.{eqb}
use borrow.Author.Tests.{ne_eqb}
use Rattle.rules.specs.Heap.{Item}
use Rattle.rules.specs.Graph.{Arc}
use Rattle.rules.specs.Search.{Search, offer, relax}
use Rattle.rules.proofs.Cases.{on_test}
use Rattle.search_laws.proofs.Bounds.{Grown, offer_grows}
use Rattle.search.specs.Turns.{cross}

pub cross_offer : (avoid : ℕ) (i : Item) (s : Search) → (i.node ≡ avoid → ⊥) → cross avoid i s ≡ offer i s
unfolding cross
cross_offer avoid i s e = rw (ne_eqb i.node avoid e, cross)

pub cross_grows : (avoid : ℕ) (i : Item) (s : Search) → Grown 1 s (cross avoid i s)
unfolding cross
cross_grows avoid i s =
    on_test (eqb i.node avoid)
    (λ t. rw (t, cross) (record { settled = refl; count = refl; heap = omega arith }))
    (λ t. rw (t, cross) (offer_grows i s))

pub relax_cross : (avoid w : ℕ) (b : Arc) (bs : List Arc) (s : Search) →
    relax avoid w (b ∷ bs) s ≡ relax avoid w bs (cross avoid (record { weight = w + b.weight; node = b.head }) s)
unfolding relax cross
relax_cross avoid w b bs s =
    on_test (eqb b.head avoid)
    (λ t. rw (t, relax, cross))
    (λ t. rw (t, relax, cross))
