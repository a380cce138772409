-- Calls at the edges of the definition, computed: the pairs of the printed case, a walk of more nodes than there are, and each row.
use Rattle.std.specs.Prelude.{List, [], ◌∷◌, map, ◌≡◌, refl, ℕ, replicate}
use Rattle.rules.specs.Columns.{Hierarchy}
use Rattle.rules.specs.Bench.{opened, columns, l_tables}
use Rattle.rules.specs.Edges.{round_trip, l_starting, edging}
use Rattle.calc_paths.specs.Many.{PathsCall, own_places, single, many_rows, paths_refusal, answers_of, unless_refused, calc_paths}
use Rattle.calc_paths.specs.Filling.{columns_of, paths_call, answered}

abbrev none : ℕ
none = 18446744073709551615

-- so many places of each column, every one holding 7
unfoldable pub asking : ℕ → Hierarchy → List ℕ → List ℕ → ℕ → ℕ → ℕ → ℕ → List ℕ → PathsCall
asking n h sources targets a b c d scratch =
    paths_call n h sources targets (columns_of (replicate a 7) (replicate b 7) (replicate c 7) (replicate d 7)) scratch

unfoldable pub l_hierarchy : Hierarchy
l_hierarchy = l_tables (opened 0 2 5 0 0)

unfoldable pub no_tables : Hierarchy
no_tables = record { ranks = []; forward = columns (0 ∷ []) []; backward = columns (0 ∷ []) [] }

-- two pairs of case L, in these places
unfoldable pub two : ℕ → ℕ → ℕ → ℕ → List ℕ → PathsCall
two a b c d scratch = asking 3 l_hierarchy (0 ∷ 1 ∷ []) (2 ∷ 1 ∷ []) a b c d scratch

-- The numbers of calls, one after the other.
unfoldable pub numbers_of : List PathsCall → List ℕ
numbers_of cs = map (λ c. (calc_paths c).number) cs

unfoldable pub showing : Unit {0}
unfolding asking l_hierarchy no_tables two numbers_of own_places single many_rows paths_refusal answers_of unless_refused calc_paths edging
showing = tt

-- 0 to 2, 2 to 0, 1 to 1 and 0 to 7, with a place more of each column than is used
pub the_printed_case : calc_paths (asking 3 l_hierarchy (0 ∷ 2 ∷ 1 ∷ 0 ∷ []) (2 ∷ 0 ∷ 1 ∷ 7 ∷ []) 5 5 5 13 (12 ∷ 12 ∷ 36 ∷ 34 ∷ [])) ≡
    answered 0
    (columns_of (0 ∷ 0 ∷ 0 ∷ 22 ∷ 7 ∷ []) (5 ∷ none ∷ 0 ∷ none ∷ 7 ∷ []) (3 ∷ 0 ∷ 1 ∷ 0 ∷ 7 ∷ [])
    (0 ∷ 1 ∷ 2 ∷ 7 ∷ 7 ∷ 7 ∷ 1 ∷ 7 ∷ 7 ∷ 7 ∷ 7 ∷ 7 ∷ 7 ∷ []))
unfolding showing
the_printed_case = refl

-- on tables that no build made a walk may be longer than a pair's places: the next pair is answered all the same
pub too_long_for_its_places : calc_paths (asking 4 round_trip (2 ∷ 0 ∷ []) (3 ∷ 3 ∷ []) 2 2 2 8 (16 ∷ 16 ∷ 42 ∷ 38 ∷ [])) ≡
    answered 0 (columns_of (25 ∷ 0 ∷ []) (none ∷ 1 ∷ []) (0 ∷ 2 ∷ []) (7 ∷ 7 ∷ 7 ∷ 7 ∷ 0 ∷ 3 ∷ 7 ∷ 7 ∷ []))
unfolding showing
too_long_for_its_places = refl

-- no pairs, and no places for them
pub no_pairs : calc_paths (asking 3 l_hierarchy [] [] 0 0 0 0 (12 ∷ 12 ∷ 36 ∷ 34 ∷ [])) ≡ answered 0 (columns_of [] [] [] [])
unfolding showing
no_pairs = refl

-- no nodes: every pair names one that is not there, and its places are none
pub no_nodes : calc_paths (asking 0 no_tables (0 ∷ 1 ∷ []) (0 ∷ 0 ∷ []) 2 2 2 0 (0 ∷ 0 ∷ 32 ∷ 32 ∷ [])) ≡
    answered 0 (columns_of (22 ∷ 22 ∷ []) (none ∷ none ∷ []) (0 ∷ 0 ∷ []) [])
unfolding showing
no_nodes = refl

-- just enough, and one place less of each column and slice
pub one_place_less : numbers_of
    (two 2 2 2 6 (12 ∷ 12 ∷ 36 ∷ 34 ∷ []) ∷
    two 1 2 2 6 (12 ∷ 12 ∷ 36 ∷ 34 ∷ []) ∷
    two 2 1 2 6 (12 ∷ 12 ∷ 36 ∷ 34 ∷ []) ∷
    two 2 2 1 6 (12 ∷ 12 ∷ 36 ∷ 34 ∷ []) ∷
    two 2 2 2 5 (12 ∷ 12 ∷ 36 ∷ 34 ∷ []) ∷
    two 2 2 2 6 (11 ∷ 12 ∷ 36 ∷ 34 ∷ []) ∷
    two 2 2 2 6 (12 ∷ 11 ∷ 36 ∷ 34 ∷ []) ∷
    two 2 2 2 6 (12 ∷ 12 ∷ 35 ∷ 34 ∷ []) ∷
    two 2 2 2 6 (12 ∷ 12 ∷ 36 ∷ 33 ∷ []) ∷
    []) ≡
    0 ∷ 24 ∷ 24 ∷ 24 ∷ 24 ∷ 24 ∷ 24 ∷ 24 ∷ 24 ∷ []
unfolding showing
one_place_less = refl

-- a refused call changes nothing; tables come before columns that differ either way, and these before what is lent
pub lowest_first : map calc_paths
    (asking 3 (l_starting (0 ∷ 1 ∷ 2 ∷ 3 ∷ [])) (0 ∷ []) [] 0 1 1 3 (12 ∷ 12 ∷ 36 ∷ 34 ∷ []) ∷
    asking 3 l_hierarchy (0 ∷ []) [] 0 1 1 3 (12 ∷ 12 ∷ 36 ∷ 34 ∷ []) ∷
    asking 3 l_hierarchy [] (0 ∷ []) 0 1 1 3 (12 ∷ 12 ∷ 36 ∷ 34 ∷ []) ∷
    asking 3 l_hierarchy (0 ∷ []) (9 ∷ []) 0 1 1 3 (12 ∷ 12 ∷ 36 ∷ 34 ∷ []) ∷
    []) ≡
    answered 20 (columns_of [] (7 ∷ []) (7 ∷ []) (7 ∷ 7 ∷ 7 ∷ [])) ∷
    answered 21 (columns_of [] (7 ∷ []) (7 ∷ []) (7 ∷ 7 ∷ 7 ∷ [])) ∷
    answered 21 (columns_of [] (7 ∷ []) (7 ∷ []) (7 ∷ 7 ∷ 7 ∷ [])) ∷
    answered 24 (columns_of [] (7 ∷ []) (7 ∷ []) (7 ∷ 7 ∷ 7 ∷ [])) ∷
    []
unfolding showing
lowest_first = refl
