-- The build where its rules turn: whole tables, which the Rust gives too.
use Rattle.std.specs.Prelude.{◌≡◌, refl, List, [], ◌∷◌, map, ℕ, ◌^◌}
use Rattle.rules.specs.Columns.{Link}
use Rattle.rules.specs.Bench.{Given, Case, tables, observed, stated, columns, opened, plain, link, l_tables, observing}

unfoldable pub given : ℕ → List Link → List ℕ → ℕ → Given
given n ls order limit = record { nodes = n; links = ls; order = order; limit = limit }

-- case L with a direct link, where no witness is looked for: with a limit of 0 nothing is settled
unfoldable pub l_blind : ℕ → Given
l_blind w = given 3 (link 0 1 2 ∷ link 0 2 w ∷ link 1 2 3 ∷ []) (1 ∷ 0 ∷ 2 ∷ []) 0

unfoldable pub built : List Case
built =
    -- an arc that weighs no more is kept; a heavier one takes the sum and the centre
    tables (l_blind 4) (l_tables (plain 0 2 4)) ∷
    tables (l_blind 5) (l_tables (plain 0 2 5)) ∷
    tables (l_blind 6) (l_tables (opened 0 2 5 0 0)) ∷
    -- in place: 0 to 2 stays before 0 to 3
    tables (given 4 (link 0 1 1 ∷ link 0 2 9 ∷ link 0 3 1 ∷ link 1 2 1 ∷ []) (1 ∷ 0 ∷ 2 ∷ 3 ∷ []) 9)
    (record {
      ranks = 1 ∷ 0 ∷ 2 ∷ 3 ∷ [];
      forward = columns (0 ∷ 1 ∷ 3 ∷ 3 ∷ 3 ∷ []) (plain 1 2 1 ∷ opened 0 2 2 0 0 ∷ plain 0 3 1 ∷ []);
      backward = columns (0 ∷ 1 ∷ 1 ∷ 1 ∷ 1 ∷ []) (plain 1 0 1 ∷ []);
    }) ∷
    -- each in-arc with each out-arc, in list order; the two numbers are of the arcs that a shortcut came of
    tables (given 5 (link 0 4 1 ∷ link 1 4 2 ∷ link 4 2 3 ∷ link 4 3 4 ∷ []) (4 ∷ 0 ∷ 1 ∷ 2 ∷ 3 ∷ []) 9)
    (record {
      ranks = 1 ∷ 2 ∷ 3 ∷ 4 ∷ 0 ∷ [];
      forward =
          columns (0 ∷ 2 ∷ 4 ∷ 6 ∷ 6 ∷ 6 ∷ [])
          (plain 4 2 3 ∷ plain 4 3 4 ∷ opened 0 2 4 0 0 ∷ opened 0 3 5 0 1 ∷ opened 1 2 5 1 0 ∷ opened 1 3 6 1 1 ∷ []);
      backward = columns (0 ∷ 2 ∷ 2 ∷ 2 ∷ 2 ∷ 2 ∷ []) (plain 4 0 1 ∷ plain 4 1 2 ∷ []);
    }) ∷
    -- the settled count is not set back for each target
    tables (given 4 (link 0 1 1 ∷ link 0 2 1 ∷ link 1 2 1 ∷ link 1 3 1 ∷ link 2 3 1 ∷ []) (1 ∷ 0 ∷ 2 ∷ 3 ∷ []) 1)
    (record {
      ranks = 1 ∷ 0 ∷ 2 ∷ 3 ∷ [];
      forward = columns (0 ∷ 2 ∷ 4 ∷ 5 ∷ 5 ∷ []) (plain 1 2 1 ∷ plain 1 3 1 ∷ plain 0 2 1 ∷ opened 0 3 2 0 1 ∷ plain 2 3 1 ∷ []);
      backward = columns (0 ∷ 1 ∷ 1 ∷ 1 ∷ 1 ∷ []) (plain 1 0 1 ∷ []);
    }) ∷
    -- both ways: shortcuts of shortcuts, and pairs with equal ends
    tables (given 4 (link 0 1 2 ∷ link 1 0 3 ∷ link 1 2 1 ∷ link 2 1 4 ∷ link 2 3 1 ∷ link 3 2 1 ∷ []) (1 ∷ 2 ∷ 0 ∷ 3 ∷ []) 9)
    (record {
      ranks = 2 ∷ 0 ∷ 1 ∷ 3 ∷ [];
      forward = columns (0 ∷ 2 ∷ 4 ∷ 5 ∷ 5 ∷ []) (plain 1 0 3 ∷ plain 1 2 1 ∷ plain 2 3 1 ∷ opened 2 0 7 1 0 ∷ opened 0 3 4 3 2 ∷ []);
      backward = columns (0 ∷ 2 ∷ 4 ∷ 5 ∷ 5 ∷ []) (plain 1 0 2 ∷ plain 1 2 4 ∷ plain 2 3 1 ∷ opened 2 0 3 0 1 ∷ opened 0 3 8 2 3 ∷ []);
    }) ∷
    -- a pair with equal ends forms no sum, though it would pass 2^40
    tables (given 2 (link 0 1 (2 ^ 40) ∷ link 1 0 (2 ^ 40) ∷ []) (0 ∷ 1 ∷ []) 9)
    (record {
      ranks = 0 ∷ 1 ∷ [];
      forward = columns (0 ∷ 1 ∷ 1 ∷ []) (plain 0 1 (2 ^ 40) ∷ []);
      backward = columns (0 ∷ 1 ∷ 1 ∷ []) (plain 0 1 (2 ^ 40) ∷ []);
    }) ∷
    []

pub built_hold : map observed built ≡ map stated built
unfolding built l_blind given l_tables observing
built_hold = refl
