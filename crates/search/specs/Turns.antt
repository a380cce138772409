-- One turn of the search's loop: what `run` of the rules does with one unit of fuel, and whether it goes on.
use Rattle.std.specs.Prelude.{Bool, true, false, not, List, [], ◌∷◌, ℕ, eqb, ltb, leb}
use Rattle.rules.specs.Heap.{Item}
use Rattle.rules.specs.Graph.{Arc}
use Rattle.rules.specs.Search.{Search, offer, with_heap, settle, reached}

pub record Turn : Type 0 where
  pub on : Bool
  pub search : Search

abbrev pub stop : Search → Turn
stop s = record { on = false; search = s }

-- an offer, but to the avoided node: an arc's step of `relax`
unfoldable pub cross : ℕ → Item → Search → Search
cross avoid i s = elim (eqb i.node avoid) [ true ↦ s | false ↦ offer i s ]

module _ (g : List Arc) (avoid target sum : ℕ) where
  -- "entries of settled nodes are passed over." No limit is read here: 0 stands for it.
  unfoldable pub entry : Item → List Item → Search → Turn
  entry i h s =
      elim (s.settled i.node) [
        | true ↦ record { on = true; search = with_heap h s }
        | false ↦
            let s' = settle g avoid i (with_heap h s) in
            record { on = not (reached g avoid 0 target sum i s'); search = s' }
      ]

  -- the first entry leaves
  unfoldable pub take_from : List Item → Search → Turn
  take_from [] s = stop s
  take_from (i ∷ h) s = entry i h s

  unfoldable pub take : Search → Turn
  take s = take_from s.heap s

  -- "with its heap empty, its settled count at the limit, or the next weight above the sum"
  unfoldable pub turn_from : ℕ → List Item → Search → Turn
  turn_from limit [] s = stop s
  turn_from limit (i ∷ h) s =
      elim (leb limit s.count) [
        | true ↦ stop s
        | false ↦ elim (ltb sum i.weight) [ true ↦ stop s | false ↦ entry i h s ]
      ]

  unfoldable pub turn : ℕ → Search → Turn
  turn limit s = turn_from limit s.heap s
