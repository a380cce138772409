-- Laws of relaxing along a chain of places: what is left of it, and what was done, is the whole.
use mathlib.Core.Path.{◌≡◌, refl, sym, ap, ◌∙◌}
use mathlib.Core.List.Memᴰ
use mathlib.Core.List.{List, [], ◌∷◌, map}
use Prim.Native.Nat.{ℕ, ◌+◌, ◌*◌, ◌<◌}
use native.Mathlib.Omega.{arith}
use lib.ListN.{length, get_or}
use Rattle.rules.specs.Numbers.{invalid}
use Rattle.rules.specs.Heap.{Item}
use Rattle.rules.specs.Search.{Search, relax}
use Rattle.heap.specs.Items.{pair}
use Rattle.lists.specs.Memory.{memory, arc_at, Chain}
use Rattle.lists.specs.Walks.{steps}
use Rattle.lists.proofs.Chains.{Valid, chain_first, chain_empty, chain_steps}
use Rattle.search.specs.Turns.{cross}
use Rattle.search.specs.Searching.{Searching}
use Rattle.search.specs.Promises.{Offering, Crossed, Row, Usable, Relaxing}
use Rattle.search.proofs.Crossing.{relax_cross, cross_grows}
use Rattle.search.proofs.Offers.{label_room, size}

abbrev pub row : ℕ → List ℕ → Row
row n l = record { n = n; places = l }

-- the link that leads on from a place, and what its arc offers
abbrev pub link : List ℕ → ℕ → ℕ
link arcs i = get_or arcs (6 * i + 3) 0

abbrev pub offers : List ℕ → List ℕ → ℕ → ℕ → Item
offers arcs weights weight i = pair (weight + get_or weights i 0) (get_or arcs (6 * i + 1) 0)

abbrev pub relaxes : List ℕ → List ℕ → ℕ → ℕ → List ℕ → Search → Search
relaxes arcs weights avoid weight l s = relax avoid weight (map (arc_at (memory arcs []) weights) l) s

module _ {arcs weights labels heap : List ℕ} {base len place weight : ℕ} {r : Row} {s : Search}
    (x : Relaxing arcs weights labels heap base len place weight r s) where
  never_ends : Valid r.places
  never_ends i m e = omega (arith, (x.usable i m).valid)

  walk_length : steps (link arcs) (length weights) place ≡ length r.places
  walk_length = chain_steps (link arcs) (length weights) place r.places never_ends x.short x.chain

  module _ (on : place ≡ invalid → ⊥) where
    rest_of : (rest : List ℕ) × (r.places ≡ place ∷ rest) × Chain (link arcs) (link arcs place) rest
    rest_of = chain_first (link arcs) r.places place x.chain on

    pub first_usable : Usable r.n arcs weights place
    first_usable = x.usable place (rw rest_of.1 (Memᴰ.head refl))

    -- there is room to offer it
    pub first_offering : Offering labels heap len (get_or arcs (6 * place + 1) 0)
    first_offering =
        record {
          label_room = label_room x.searching _ first_usable.head;
          heap_room = omega (arith, x.room, ap length rest_of.1);
          ordered = x.searching.holds.ordered;
        }

    pub walk_falls : steps (link arcs) (length weights) (link arcs place) < steps (link arcs) (length weights) place
    walk_falls =
        rw (
          walk_length,
          chain_steps (link arcs) (length weights) (link arcs place) rest_of.0
              (λ i m. never_ends i (rw rest_of.1 (Memᴰ.tail m)))
              (omega (arith, x.short, ap length rest_of.1))
              rest_of.2,
        )
        (omega (arith, ap length rest_of.1))

-- what is still to be relaxed, and that it comes to the same
pub record Rest (arcs weights labels heap : List ℕ) (base avoid len place weight : ℕ) (r : Row) (s : Search) : Type 0 where
  pub places : List ℕ
  pub search : Search
  pub relaxing : Relaxing arcs weights labels heap base len place weight (row r.n places) search
  pub same : relaxes arcs weights avoid weight places search ≡ relaxes arcs weights avoid weight r.places s

pub rest_all : {arcs weights labels heap : List ℕ} {base avoid len place weight : ℕ} {r : Row} {s : Search} →
    Relaxing arcs weights labels heap base len place weight r s → Rest arcs weights labels heap base avoid len place weight r s
rest_all {r = r} {s = s} x = record { places = r.places; search = s; relaxing = x; same = refl }

module _ {arcs weights labels heap : List ℕ} {base avoid len place weight : ℕ} {r : Row} {s : Search}
    (x : Rest arcs weights labels heap base avoid len place weight r s) where
  -- one arc is crossed
  pub rest_on : {labels' heap' : List ℕ} {len' : ℕ} (on : place ≡ invalid → ⊥)
      → Crossed labels heap labels' heap' base avoid len len' (get_or arcs (6 * place + 1) 0) (weight + get_or weights place 0)
      → length heap' ≡ length heap → Rest arcs weights labels' heap' base avoid len' (link arcs place) weight r s
  rest_on on crossed long =
      let now = x.relaxing in
      let rest = rest_of now on in
      let i = offers arcs weights weight place in
      let arc = arc_at (memory arcs []) weights in
      let y = crossed r.n x.search (first_usable now on).head now.searching in
      record {
        places = rest.0;
        search = cross avoid i x.search;
        relaxing =
            record {
              chain = rest.2;
              usable = λ j m. now.usable j (rw rest.1 (Memᴰ.tail m));
              short = omega (arith, now.short, ap length rest.1);
              light = now.light;
              room =
                  omega
                  (arith, now.room, ap length rest.1, size y, size now.searching, (cross_grows avoid i x.search).heap);
              searching = y;
            };
        same =
            sym (relax_cross avoid weight (arc place) (map arc rest.0) x.search)
            ∙ ap (λ (l : List ℕ). relaxes arcs weights avoid weight l x.search) (sym rest.1) ∙ x.same;
      }

  pub rest_done : place ≡ invalid → Searching r.n labels heap base len (relaxes arcs weights avoid weight r.places s)
  unfolding relax
  rest_done e =
      rw (← x.same, chain_empty (link arcs) x.places place (never_ends x.relaxing) x.relaxing.chain e)
      x.relaxing.searching
