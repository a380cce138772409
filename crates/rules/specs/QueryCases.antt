-- The query where its rules turn: whole routes that tell readings of the paper apart, and single turns, seen with all that they
-- leave.
use Rattle.std.specs.Prelude.{◌≡◌, refl, Bool, true, false, List, [], ◌∷◌, map, ℕ, ◌^◌, ◌+◌, get_or}
use Rattle.rules.specs.Numbers.{no_weight, invalid}
use Rattle.rules.specs.Lists.{range}
use Rattle.rules.specs.Heap.{Item}
use Rattle.rules.specs.Columns.{Hierarchy, Side, forward, backward}
use Rattle.rules.specs.Query.{Best, Label, Half, untouched, enter, turn}
use Rattle.rules.specs.Bench.{Given, Case, route, observed, stated, columns, plain, at, link, observing}

-- so many nodes, and no links
unfoldable pub apart : ℕ → Given
apart n = record { nodes = n; links = []; order = range 0 n; limit = 100 }

unfoldable pub routes : List Case
routes =
    -- sources are the outer loop of the first step, which sets the meeting node before any turn
    route (apart 2) (at 0 0 ∷ at 1 0 ∷ []) (at 1 0 ∷ at 0 0 ∷ []) 0 (0 ∷ []) ∷
    route (apart 2) (at 1 0 ∷ at 0 0 ∷ []) (at 0 0 ∷ at 1 0 ∷ []) 0 (1 ∷ []) ∷
    route (apart 2) (at 1 (2 ^ 40) ∷ at 0 (2 ^ 40) ∷ []) (at 0 0 ∷ at 1 0 ∷ []) (2 ^ 40) (1 ∷ []) ∷
    route (apart 3) (at 2 4 ∷ []) (at 2 9 ∷ []) 13 (2 ∷ []) ∷
    -- ends that coincide come first
    route (record { nodes = 2; links = link 0 1 1 ∷ []; order = 0 ∷ 1 ∷ []; limit = 100 }) (at 0 0 ∷ at 1 1 ∷ []) (at 1 0 ∷ []) 1 (1 ∷ []) ∷
    -- no stalling on equal weight
    route (record { nodes = 4; links = link 1 0 1 ∷ link 2 1 3 ∷ []; order = 1 ∷ 0 ∷ 3 ∷ 2 ∷ []; limit = 100 }) (at 1 3 ∷ at 2 0 ∷ []) (at 0 1 ∷ at 3 0 ∷ []) 5 (1 ∷ 0 ∷ []) ∷
    -- not the first meeting
    route (record { nodes = 3; links = link 0 1 1 ∷ link 1 0 1 ∷ link 2 0 1 ∷ []; order = 0 ∷ 2 ∷ 1 ∷ []; limit = 1 }) (at 2 0 ∷ []) (at 0 0 ∷ []) 1 (2 ∷ 0 ∷ []) ∷
    -- ties by smaller node
    route (record { nodes = 3; links = link 1 0 1 ∷ link 2 0 1 ∷ []; order = 1 ∷ 0 ∷ 2 ∷ []; limit = 100 }) (at 2 (2 ^ 40) ∷ at 1 (2 ^ 40) ∷ []) (at 0 0 ∷ []) (2 ^ 40 + 1) (1 ∷ 0 ∷ []) ∷
    []

pub routes_hold : map observed routes ≡ map stated routes
unfolding routes apart observing
routes_hold = refl

-- One turn. Node 0 leads forward to 2, by 1, and is reached from 1, by 2.
unfoldable pub fork : Hierarchy
fork =
    record {
      ranks = 0 ∷ 1 ∷ 2 ∷ [];
      forward = columns (0 ∷ 1 ∷ 1 ∷ 1 ∷ []) (plain 0 2 1 ∷ []);
      backward = columns (0 ∷ 1 ∷ 1 ∷ 1 ∷ []) (plain 0 1 2 ∷ []);
    }

unfoldable pub label : ℕ → ℕ → ℕ → Label
label weight parent via = record { weight = weight; parent = parent; via = via }

unfoldable pub item : ℕ → ℕ → Item
item weight node = record { weight = weight; node = node }

-- no label
unfoldable pub bare : Label
bare = label no_weight invalid invalid

unfoldable pub half : List Label → List Bool → List Item → Half
half labels settled heap = record { label = λ v. get_or labels v bare; settled = λ v. get_or settled v false; heap = heap }

-- What is seen of three nodes: labels, settled flags, the heap, the best sum and its node.
pub record Seen : Type 0 where
  pub labels : List Label
  pub settled : List Bool
  pub heap : List Item
  pub sum : ℕ
  pub node : ℕ

unfoldable pub seen : Half → Best → Seen
seen x b =
    record {
      labels = map x.label (0 ∷ 1 ∷ 2 ∷ []);
      settled = map x.settled (0 ∷ 1 ∷ 2 ∷ []);
      heap = x.heap;
      sum = b.sum;
      node = b.node;
    }

unfoldable pub best : ℕ → ℕ → Best
best sum node = record { sum = sum; node = node }

-- a turn of a side, from such a state, facing labels of the other side
unfoldable pub turned : Side → List Label → List Bool → List Item → List Label → Best → Seen
turned s labels settled heap facing b = let t = turn fork s (half facing [] []) b (half labels settled []) heap in seen t.half t.best

unfoldable pub sees : List Label → List Bool → List Item → ℕ → ℕ → Seen
sees labels settled heap sum node = record { labels = labels; settled = settled; heap = heap; sum = sum; node = node }

unfoldable pub looking : Unit {0}
unfolding fork label item bare half seen best turned sees observing
looking = tt

-- with its heap empty it ends
pub empty_heap : turned forward (bare ∷ bare ∷ bare ∷ []) [] [] [] (best 7 1) ≡ sees (bare ∷ bare ∷ bare ∷ []) (false ∷ false ∷ false ∷ []) [] 7 1
unfolding looking
empty_heap = refl

-- it settles the first entry, relaxes it, and meets no label of the other side; the rest stays
pub settles_first : turned forward (label 4 0 9 ∷ bare ∷ bare ∷ []) [] (item 4 0 ∷ item 6 1 ∷ []) [] (best no_weight invalid) ≡
    sees (label 4 0 9 ∷ bare ∷ label 5 0 0 ∷ []) (true ∷ false ∷ false ∷ []) (item 5 2 ∷ item 6 1 ∷ []) no_weight invalid
unfolding looking
settles_first = refl

-- the other side relaxes the other table
pub settles_backward : turned backward (label 4 0 9 ∷ bare ∷ bare ∷ []) [] (item 4 0 ∷ []) [] (best no_weight invalid) ≡
    sees (label 4 0 9 ∷ label 6 0 0 ∷ bare ∷ []) (true ∷ false ∷ false ∷ []) (item 6 1 ∷ []) no_weight invalid
unfolding looking
settles_backward = refl

-- an offer of the same weight changes nothing
pub equal_offer : turned forward (label 4 0 9 ∷ bare ∷ label 5 1 9 ∷ []) [] (item 4 0 ∷ []) [] (best no_weight invalid) ≡
    sees (label 4 0 9 ∷ bare ∷ label 5 1 9 ∷ []) (true ∷ false ∷ false ∷ []) [] no_weight invalid
unfolding looking
equal_offer = refl

-- an entry of a settled node is passed over, however heavy
pub passes_settled : turned forward (label 4 0 9 ∷ label 8 1 9 ∷ bare ∷ []) (true ∷ []) (item 9 0 ∷ item 8 1 ∷ []) [] (best 8 7) ≡
    sees (label 4 0 9 ∷ label 8 1 9 ∷ bare ∷ []) (true ∷ true ∷ false ∷ []) [] 8 7
unfolding looking
passes_settled = refl

-- one heavier than the best is taken out and lost; one as heavy is settled
pub loses_heavier : turned forward (label 4 0 9 ∷ label 8 1 9 ∷ bare ∷ []) [] (item 4 0 ∷ item 8 1 ∷ []) [] (best 3 7) ≡
    sees (label 4 0 9 ∷ label 8 1 9 ∷ bare ∷ []) (false ∷ false ∷ false ∷ []) (item 8 1 ∷ []) 3 7
unfolding looking
loses_heavier = refl

pub settles_as_heavy : turned forward (bare ∷ label 4 1 9 ∷ bare ∷ []) [] (item 4 1 ∷ []) [] (best 4 7) ≡
    sees (bare ∷ label 4 1 9 ∷ bare ∷ []) (false ∷ true ∷ false ∷ []) [] 4 7
unfolding looking
settles_as_heavy = refl

-- 0 stalls by the label of 1 and the backward entry between them where the two are less than its weight, and is not settled
pub stalls : turned forward (label 6 0 9 ∷ label 3 1 9 ∷ label 7 2 9 ∷ []) [] (item 6 0 ∷ item 7 2 ∷ []) [] (best 8 7) ≡
    sees (label 6 0 9 ∷ label 3 1 9 ∷ label 7 2 9 ∷ []) (false ∷ false ∷ true ∷ []) [] 8 7
unfolding looking
stalls = refl

pub stalls_not : turned forward (label 5 0 9 ∷ label 3 1 9 ∷ bare ∷ []) [] (item 5 0 ∷ []) [] (best 8 7) ≡
    sees (label 5 0 9 ∷ label 3 1 9 ∷ label 6 0 0 ∷ []) (true ∷ false ∷ false ∷ []) (item 6 2 ∷ []) 8 7
unfolding looking
stalls_not = refl

-- the other side stalls by the forward entry
pub stalls_backward : turned backward (label 6 0 9 ∷ bare ∷ label 4 2 9 ∷ []) [] (item 6 0 ∷ []) [] (best 8 7) ≡
    sees (label 6 0 9 ∷ bare ∷ label 4 2 9 ∷ []) (false ∷ false ∷ false ∷ []) [] 8 7
unfolding looking
stalls_backward = refl

-- heavier is tested before stalled: the turn ends there
pub heavier_first : turned forward (label 6 0 9 ∷ label 3 1 9 ∷ label 7 2 9 ∷ []) [] (item 6 0 ∷ item 7 2 ∷ []) [] (best 5 7) ≡
    sees (label 6 0 9 ∷ label 3 1 9 ∷ label 7 2 9 ∷ []) (false ∷ false ∷ false ∷ []) (item 7 2 ∷ []) 5 7
unfolding looking
heavier_first = refl

-- a label on the other side sets best and meeting node, where the sum is strictly smaller
pub meets : turned forward (bare ∷ label 4 1 9 ∷ bare ∷ []) [] (item 4 1 ∷ []) (bare ∷ label 3 1 9 ∷ []) (best 8 7) ≡
    sees (bare ∷ label 4 1 9 ∷ bare ∷ []) (false ∷ true ∷ false ∷ []) [] 7 1
unfolding looking
meets = refl

pub meets_equal : turned forward (bare ∷ label 4 1 9 ∷ bare ∷ []) [] (item 4 1 ∷ []) (bare ∷ label 3 1 9 ∷ []) (best 7 2) ≡
    sees (bare ∷ label 4 1 9 ∷ bare ∷ []) (false ∷ true ∷ false ∷ []) [] 7 2
unfolding looking
meets_equal = refl

-- Ends enter where their offset is below the node's label: the second at 4, not the third at 4, nor one with the mark.
pub entering : seen (enter (at 1 9 ∷ at 1 4 ∷ at 1 4 ∷ at 2 18446744073709551615 ∷ at 0 4 ∷ []) untouched) (best 0 0) ≡
    sees (label 4 0 invalid ∷ label 4 1 invalid ∷ bare ∷ []) (false ∷ false ∷ false ∷ []) (item 4 0 ∷ item 4 1 ∷ item 9 1 ∷ []) 0 0
unfolding looking
entering = refl
