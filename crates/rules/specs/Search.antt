-- The witness search: from one start, avoiding one node, for one target and sum after another.
use Rattle.std.specs.Prelude.{Bool, true, false, ◌||◌, List, [], ◌∷◌, ℕ, zero, suc, ◌+◌, eqb, ltb, leb, length}
use Rattle.rules.specs.Numbers.{no_weight}
use Rattle.rules.specs.Lists.{update}
use Rattle.rules.specs.Heap.{Item, push}
use Rattle.rules.specs.Graph.{Arc, outs}

-- "Heap, labels and count last over all out-arcs of one a." A node without a label has the no-weight mark.
pub record Search : Type 0 where
  pub label : ℕ → ℕ
  pub settled : ℕ → Bool
  pub heap : List Item
  pub count : ℕ

unfoldable pub init : ℕ → Search
init a =
    record {
      label = update a 0 (λ _. no_weight);
      settled = λ _. false;
      heap = record { weight = 0; node = a } ∷ [];
      count = 0;
    }

-- "labels only fall, by strict less-than"
unfoldable pub offer : Item → Search → Search
offer i s =
    elim (ltb i.weight (s.label i.node)) [
      | true ↦
          record {
            label = update i.node i.weight s.label;
            settled = s.settled;
            heap = push i s.heap;
            count = s.count;
          }
      | false ↦ s
    ]

-- the out-arcs of a node that left with a weight, but those to the avoided node
unfoldable pub relax : ℕ → ℕ → List Arc → Search → Search
relax avoid weight [] s = s
relax avoid weight (a ∷ rest) s =
    elim (eqb a.head avoid) [
      | true ↦ relax avoid weight rest s
      | false ↦ relax avoid weight rest (offer (record { weight = weight + a.weight; node = a.head }) s)
    ]

unfoldable pub with_heap : List Item → Search → Search
with_heap h s = record { label = s.label; settled = s.settled; heap = h; count = s.count }

unfoldable pub mark_settled : ℕ → Search → Search
mark_settled v s =
    record { label = s.label; settled = update v true s.settled; heap = s.heap; count = suc s.count }

-- a whole node
unfoldable pub settle : List Arc → ℕ → Item → Search → Search
settle g avoid i s = mark_settled i.node (relax avoid i.weight (outs g i.node) s)

-- What a search answers: a weight, and its state, whose count is the count of nodes settled.
pub record Found : Type 0 where
  pub weight : ℕ
  pub search : Search

module _ (g : List Arc) (avoid limit target sum : ℕ) where
  -- "It also stops after a whole node when the target was labelled within the sum or is that node."
  unfoldable pub reached : Item → Search → Bool
  reached i s = leb (s.label target) sum || eqb i.node target

  -- "It stops, tested in this order, with its heap empty, its settled count at the limit, or the next weight above the
  -- sum (which stays in); entries of settled nodes are passed over." The fuel bounds the entries that can leave.
  unfoldable pub run : ℕ → Search → Search
  run zero s = s
  run (suc fuel) s =
      elim s.heap [
        | [] ↦ s
        | i ∷ h ↦
            elim (leb limit s.count) [
              | true ↦ s
              | false ↦
                  elim (ltb sum i.weight) [
                    | true ↦ s
                    | false ↦
                        elim (s.settled i.node) [
                          | true ↦ run fuel (with_heap h s)
                          | false ↦
                              let s' = settle g avoid i (with_heap h s) in
                              elim (reached i s') [ true ↦ s' | false ↦ run fuel s' ]
                        ]
                  ]
            ]
      ]

  -- what is in the heap may leave, and what the arcs put there
  unfoldable pub search_fuel : Search → ℕ
  search_fuel s = suc (length s.heap + length g)

  unfoldable pub answer : Search → Found
  answer s = record { weight = s.label target; search = s }

  -- "It answers at once for a target that is settled or labelled within the sum."
  unfoldable pub find_max_weight : Search → Found
  find_max_weight s =
      elim (s.settled target || leb (s.label target) sum) [
        | true ↦ answer s
        | false ↦ answer (run (search_fuel s) s)
      ]
