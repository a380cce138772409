-- A walk along the list of v on side s that has passed k of its places. It says nothing of the links, so that it lasts as long as
-- the list is where it was.
use mathlib.Core.Path.{◌≡◌, sym, ap, ◌∙◌}
use mathlib.Core.List.{List}
use Prim.Native.Nat.{ℕ, suc, ◌+◌, ◌<◌}
use lib.ListN.{drop}
use Rattle.rules.specs.Numbers.{invalid}
use Rattle.rules.specs.Lists.{keep}
use Rattle.rules.specs.Graph.{Arc}
use Rattle.lists.specs.Memory.{Memory, at, first, ends_at, touches}
use Rattle.lists.specs.Walks.{Reads}
use Rattle.lists.proofs.Walks.{first_of, reads_start, reads_from, place_on}
use Rattle.graph.specs.declared.preparation_graph.Pool.{Pool}
use Rattle.graph.specs.Stands.{Stands, Unmoved}
use Rattle.graph.proofs.Reading.{reads_list, read_places}

pub record Along {n pool : ℕ} {m : Memory} {w : List ℕ} {state : Pool} {g : List Arc} (x : Stands n pool m w state g) (s v k place : ℕ) : Type 0 where
  pub comes_to : place ≡ first_of (drop k (keep (ends_at m s v) x.ids))

module _ {n pool : ℕ} {m : Memory} {w : List ℕ} {state : Pool} {g : List Arc} (x : Stands n pool m w state g) (s v : ℕ) (two : s < 2) (inside : v < n) where
  pub along_first : Along x s v 0 (first m s v)
  along_first =
      record { comes_to = reads_start (reads_list x s v two inside) ∙ ap (λ l. first_of (drop 0 l)) (read_places x s v two inside) }

  module _ {k place : ℕ} (on_way : Along x s v k place) where
    -- what is left can be read
    pub along_reads : Reads m w s place (drop k (keep (touches s v) g))
    along_reads =
        rw (on_way.comes_to ∙ sym (ap (λ l. first_of (drop k l)) (read_places x s v two inside))) (reads_from (reads_list x s v two inside) k)

    pub along_next : (place ≡ invalid → ⊥) → Along x s v (suc k) (at m (3 + s) place)
    along_next h =
        record {
          comes_to =
              ap (at m (3 + s)) on_way.comes_to ∙
              place_on (at m (3 + s)) (first m s v) (keep (ends_at m s v) x.ids) k (x.placed.listed s v two inside).chain
              (λ e. h (on_way.comes_to ∙ e));
        }

pub along_stays : {n pool : ℕ} {m m' : Memory} {w w' : List ℕ} {state state' : Pool} {g g' : List Arc} {v : ℕ}
    {x : Stands n pool m w state g} {y : Stands n pool m' w' state' g'} → Unmoved v x y → (s : ℕ) → s < 2 → {k place : ℕ} → Along x s v k place → Along y s v k place
along_stays u s two {k} a = record { comes_to = a.comes_to ∙ sym (ap (λ l. first_of (drop k l)) (u.places s two)) }
