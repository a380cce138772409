-- The edges of the calls' rules, as cases: just enough and one place less of all that is lent, the largest numbers and one
-- more, a walk that is longer than the buffer, and what a step does where a rule turns.
use Rattle.std.specs.Prelude.{◌≡◌, refl, List, [], ◌∷◌, ◌++◌, map, ℕ, suc, ◌+◌, ◌-◌, ◌^◌, get_or, set, replicate}
use Rattle.rules.specs.Lists.{range}
use Rattle.rules.specs.Columns.{Link, Table, Entry, Hierarchy}
use Rattle.rules.specs.Refusals.{BuildCall, QueryCall, build_scratch, check_refusal}
use Rattle.rules.specs.Build.{build}
use Rattle.rules.specs.Query.{End, query}
use Rattle.rules.specs.Bench.{Given, link, at, plain, opened, columns, building, querying, L, l_with, l_tables, observing}

-- one less of the k-th
unfoldable pub less : ℕ → List ℕ → List ℕ
less k ns = set ns k (get_or ns k 0 - 1)

-- each of the first k numbers one less, in turn
unfoldable pub each_less : ℕ → List ℕ → List (List ℕ)
each_less k ns = map (λ i. less i ns) (range 0 k)

-- What a build is lent, by the number of places of each column: ranks, and for both tables starts, bases, neighbours,
-- weights, in-numbers, out-numbers.
unfoldable pub blank_table : List ℕ → ℕ → Table
blank_table places from =
    record {
      starts = column 0;
      bases = column 1;
      neighbours = column 2;
      weights = column 3;
      in_numbers = column 4;
      out_numbers = column 5;
    }
  where
    column : ℕ → List ℕ
    column k = replicate (get_or places (from + k) 0) 7

unfoldable pub blank : List ℕ → Hierarchy
blank places = record { ranks = replicate (get_or places 0 0) 7; forward = blank_table places 1; backward = blank_table places 7 }

unfoldable pub lending : Given → List ℕ → ℕ → List ℕ → BuildCall
lending g places pool scratch = building g (blank places) pool scratch

unfoldable pub built : List BuildCall → List ℕ
built cs = map (λ c. (build c).number) cs

-- Case L: three arcs live at once, two forward entries and a backward one.
unfoldable pub l_places : List ℕ
l_places = 3 ∷ 4 ∷ 2 ∷ 2 ∷ 2 ∷ 2 ∷ 2 ∷ 4 ∷ 1 ∷ 1 ∷ 1 ∷ 1 ∷ 1 ∷ []

unfoldable pub l_scratch : List ℕ
l_scratch = 18 ∷ 3 ∷ 12 ∷ 6 ∷ 8 ∷ []

-- Links of case L with these weights: the pair's sum is theirs.
unfoldable pub l_of : ℕ → ℕ → Given
l_of a b = record { nodes = 3; links = link 0 1 a ∷ link 1 2 b ∷ []; order = 1 ∷ 0 ∷ 2 ∷ []; limit = 100 }

unfoldable pub l_built : Hierarchy
l_built = l_tables (opened 0 2 5 0 0)

-- 36 for two entries and 16 ends, and 34 for one
unfoldable pub l_query_scratch : List ℕ
l_query_scratch = 12 ∷ 12 ∷ 36 ∷ 34 ∷ []

unfoldable pub l_asking : List End → List End → QueryCall
l_asking ss ts = querying 3 l_built ss ts 3 l_query_scratch

unfoldable pub answered : List QueryCall → List ℕ
answered qs = map (λ q. (query q).number) qs

-- Tables that no build made and that pass: the forward entry 2-3 opens into the five nodes 2, 0, 1, 0, 3.
unfoldable pub round_trip : Hierarchy
round_trip =
    record {
      ranks = 0 ∷ 1 ∷ 2 ∷ 3 ∷ [];
      forward =
          columns (0 ∷ 3 ∷ 4 ∷ 5 ∷ 5 ∷ []) (plain 0 1 1 ∷ plain 0 2 9 ∷ plain 0 3 1 ∷ opened 1 3 2 0 2 ∷ opened 2 3 4 2 3 ∷ []);
      backward = columns (0 ∷ 2 ∷ 3 ∷ 3 ∷ 3 ∷ []) (plain 0 1 1 ∷ plain 0 2 1 ∷ opened 1 2 2 1 0 ∷ []);
    }

unfoldable pub round_trip_asking : ℕ → QueryCall
round_trip_asking places = querying 4 round_trip (at 2 0 ∷ []) (at 3 0 ∷ []) places (16 ∷ 16 ∷ 42 ∷ 38 ∷ [])

-- Tables of case L with another entry, and with other starts.
unfoldable pub checked : List Hierarchy → List ℕ
checked hs = map (λ h. check_refusal 3 h) hs

unfoldable pub l_starting : List ℕ → Hierarchy
l_starting starts =
    record {
      ranks = 1 ∷ 0 ∷ 2 ∷ [];
      forward = columns starts (plain 1 2 3 ∷ opened 0 2 5 0 0 ∷ []);
      backward = columns (0 ∷ 1 ∷ 1 ∷ 1 ∷ []) (plain 1 0 2 ∷ []);
    }

unfoldable pub l_ranked : List ℕ → Hierarchy
l_ranked ranks = record { ranks = ranks; forward = l_built.forward; backward = l_built.backward }

-- Tables of three nodes, of ranks 0, 1, 2: starts and entries, forward and backward.
unfoldable pub three : List ℕ → List Entry → List ℕ → List Entry → Hierarchy
three starts entries bwd_starts bwd_entries =
    record { ranks = 0 ∷ 1 ∷ 2 ∷ []; forward = columns starts entries; backward = columns bwd_starts bwd_entries }

-- the starts of a table without entries
unfoldable pub empty : List ℕ
empty = replicate 4 0

-- The node 1 of five is contracted first, with room for any graph of theirs; `most` is the most that an arc may weigh.
unfoldable pub most : ℕ
most = 2 ^ 40

unfoldable pub contracting_1 : ℕ → ℕ → List Link → BuildCall
contracting_1 limit pool ls =
    lending (record { nodes = 5; links = ls; order = 1 ∷ 0 ∷ 3 ∷ 2 ∷ 4 ∷ []; limit = limit })
    (5 ∷ 6 ∷ replicate 5 10 ++ 6 ∷ replicate 5 10)
    pool
    (build_scratch 5 pool)

-- All of the above, where a case is computed.
unfoldable pub edging : Unit {0}
unfolding
    less each_less blank_table blank lending built l_places l_scratch l_of most contracting_1 l_built l_query_scratch l_asking answered round_trip
    round_trip_asking checked l_starting l_ranked three empty L l_with l_tables observing
edging = tt

-- Builds.

pub just_enough : build (lending L l_places 3 l_scratch) ≡ record { number = 0; hierarchy = l_tables (opened 0 2 5 0 0) }
unfolding edging
just_enough = refl

-- one place less of ranks, of starts, of any column; of any slice of scratch
pub one_place_less : built (map (λ ps. lending L ps 3 l_scratch) (each_less 13 l_places)) ≡ replicate 13 9
unfolding edging
one_place_less = refl

pub scratch_one_less : built (map (λ ss. lending L l_places 3 ss) (each_less 5 l_scratch)) ≡ replicate 5 9
unfolding edging
scratch_one_less = refl

-- what is asked before is named before
pub nine_comes_last : built (lending (record { nodes = 3; links = []; order = 0 ∷ 1 ∷ 1 ∷ []; limit = 0 }) [] 0 [] ∷ []) ≡ 8 ∷ []
unfolding edging
nine_comes_last = refl

-- one less of the pool: 10; of all columns of a table: 11; and every place holds its mark
pub pool_one_less : build (lending L (4 ∷ 5 ∷ 3 ∷ 3 ∷ 3 ∷ 3 ∷ 3 ∷ 4 ∷ 2 ∷ 2 ∷ 2 ∷ 2 ∷ 2 ∷ []) 2 l_scratch) ≡
    record {
      number = 10;
      hierarchy =
          record {
            ranks = replicate 4 4294967295;
            forward =
                record {
                  starts = replicate 5 4294967295;
                  bases = replicate 3 4294967295;
                  neighbours = replicate 3 4294967295;
                  weights = replicate 3 18446744073709551615;
                  in_numbers = replicate 3 4294967295;
                  out_numbers = replicate 3 4294967295;
                };
            backward =
                record {
                  starts = replicate 4 4294967295;
                  bases = replicate 2 4294967295;
                  neighbours = replicate 2 4294967295;
                  weights = replicate 2 18446744073709551615;
                  in_numbers = replicate 2 4294967295;
                  out_numbers = replicate 2 4294967295;
                };
          };
    }
unfolding edging
pool_one_less = refl

pub table_one_less : built
    (lending L (3 ∷ 4 ∷ 1 ∷ 1 ∷ 1 ∷ 1 ∷ 1 ∷ 4 ∷ 1 ∷ 1 ∷ 1 ∷ 1 ∷ 1 ∷ []) 3 l_scratch ∷
    lending L (3 ∷ 4 ∷ 2 ∷ 2 ∷ 2 ∷ 2 ∷ 2 ∷ 4 ∷ 0 ∷ 0 ∷ 0 ∷ 0 ∷ 0 ∷ []) 3 l_scratch ∷
    lending L (3 ∷ 4 ∷ 2 ∷ 2 ∷ 2 ∷ 2 ∷ 2 ∷ 4 ∷ 0 ∷ 0 ∷ 0 ∷ 0 ∷ 0 ∷ []) 2 l_scratch ∷
    []) ≡
    11 ∷ 11 ∷ 11 ∷ []
unfolding edging
table_one_less = refl

-- rule 1 is held to the pool as well: one link, and no place for it
pub no_pool : built (lending (record { nodes = 2; links = link 0 1 1 ∷ []; order = 0 ∷ 1 ∷ []; limit = 0 }) l_places 0 l_scratch ∷ []) ≡ 10 ∷ []
unfolding edging
no_pool = refl

-- a pair sum of 2^40, and of one more (the definitions are over all numbers; a link's column holds 32 bits)
pub largest_sum : built (lending (l_of (2 ^ 39) (2 ^ 39)) l_places 3 l_scratch ∷ lending (l_of (2 ^ 39) (2 ^ 39 + 1)) l_places 3 l_scratch ∷ []) ≡ 0 ∷ 12 ∷ []
unfolding edging
largest_sum = refl

-- a witness that weighs more than 2^40 itself, and that passes a node above it; the limit, before it is found
pub heavy_witness : built
    (map (λ limit. contracting_1 limit 20 (link 0 1 most ∷ link 0 2 most ∷ link 1 4 most ∷ link 2 4 most ∷ [])) (2 ∷ 1 ∷ []) ++
    map (λ limit. contracting_1 limit 20 (link 0 1 most ∷ link 0 2 most ∷ link 1 4 most ∷ link 2 3 1 ∷ link 3 4 (most - 1) ∷ [])) (3 ∷ 2 ∷ [])) ≡
    0 ∷ 12 ∷ 0 ∷ 12 ∷ []
unfolding edging
heavy_witness = refl

-- an arc of the same ends, with a search and with none; as heavy as the sum, and heavier by one
pub arc_there_already : built
    (contracting_1 1 20 (link 0 1 most ∷ link 0 2 1 ∷ link 1 2 most ∷ []) ∷
    contracting_1 0 20 (link 0 1 most ∷ link 0 2 1 ∷ link 1 2 most ∷ []) ∷
    contracting_1 0 20 (link 0 1 most ∷ link 0 2 (2 ^ 41) ∷ link 1 2 most ∷ []) ∷
    contracting_1 0 20 (link 0 1 most ∷ link 0 2 (2 ^ 41 + 1) ∷ link 1 2 most ∷ []) ∷
    contracting_1 9 20 (link 0 1 most ∷ link 0 2 (2 ^ 41 + 1) ∷ link 1 2 most ∷ []) ∷
    []) ≡
    0 ∷ 0 ∷ 0 ∷ 12 ∷ 12 ∷ []
unfolding edging
arc_there_already = refl

-- arcs from the same tail, to the same head, and the other way
pub other_arcs : built
    (contracting_1 0 20 (link 0 1 most ∷ link 0 3 1 ∷ link 1 2 most ∷ []) ∷
    contracting_1 0 20 (link 0 1 most ∷ link 1 2 most ∷ link 3 2 1 ∷ []) ∷
    contracting_1 0 20 (link 0 1 most ∷ link 1 2 most ∷ link 2 0 1 ∷ []) ∷
    []) ≡
    12 ∷ 12 ∷ 12 ∷ []
unfolding edging
other_arcs = refl

-- with no place left 12 comes before 10; but a pair before it has its own 10
pub twelve_before_ten : built
    (contracting_1 9 2 (link 0 1 most ∷ link 1 2 most ∷ []) ∷
    contracting_1 9 3 (link 0 1 1 ∷ link 1 2 1 ∷ link 1 3 most ∷ []) ∷
    contracting_1 9 4 (link 0 1 1 ∷ link 1 2 1 ∷ link 1 3 most ∷ []) ∷
    []) ≡
    12 ∷ 10 ∷ 12 ∷ []
unfolding edging
twelve_before_ten = refl

-- Queries.

-- one place less of the path, of any slice of scratch
pub query_just_enough : query (l_asking (at 0 0 ∷ []) (at 2 0 ∷ [])) ≡ record { number = 0; weight = 5; walk = 0 ∷ 1 ∷ 2 ∷ []; path = 0 ∷ 1 ∷ 2 ∷ [] }
unfolding edging
query_just_enough = refl

pub path_one_less : query (querying 3 l_built (at 0 0 ∷ []) (at 2 0 ∷ []) 2 l_query_scratch) ≡ record { number = 24; weight = 18446744073709551615; walk = []; path = 7 ∷ 7 ∷ [] }
unfolding edging
path_one_less = refl

pub query_scratch_one_less : answered (map (λ ss. querying 3 l_built (at 0 0 ∷ []) (at 2 0 ∷ []) 3 ss) (each_less 4 l_query_scratch)) ≡ replicate 4 24
unfolding edging
query_scratch_one_less = refl

-- 16 ends and 17, on either side; none; columns that differ
pub ends : answered
    (l_asking (replicate 16 (at 0 0)) (replicate 16 (at 2 0)) ∷
    l_asking (replicate 17 (at 0 0)) (at 2 0 ∷ []) ∷
    l_asking (at 0 0 ∷ []) (replicate 17 (at 2 0)) ∷
    l_asking [] (at 2 0 ∷ []) ∷
    l_asking (at 0 0 ∷ []) [] ∷
    []) ≡
    0 ∷ 21 ∷ 21 ∷ 21 ∷ 21 ∷ []
unfolding edging
ends = refl

-- an offset of 2^40, of one more, and the mark, which doesn't count but must name a node
pub offsets : answered
    (l_asking (at 0 (2 ^ 40) ∷ []) (at 2 (2 ^ 40) ∷ []) ∷
    l_asking (at 0 (2 ^ 40 + 1) ∷ []) (at 2 0 ∷ []) ∷
    l_asking (at 0 0 ∷ []) (at 2 (2 ^ 40 + 1) ∷ []) ∷
    l_asking (at 0 0 ∷ []) (at 3 18446744073709551615 ∷ []) ∷
    []) ≡
    0 ∷ 23 ∷ 23 ∷ 22 ∷ []
unfolding edging
offsets = refl

pub largest_offsets : (query (l_asking (at 0 (2 ^ 40) ∷ []) (at 2 (2 ^ 40) ∷ []))).weight ≡ 2 ^ 41 + 5
unfolding edging
largest_offsets = refl

pub mark_does_not_count : map query (l_asking (at 0 18446744073709551615 ∷ []) (at 2 0 ∷ []) ∷ l_asking (at 1 18446744073709551615 ∷ at 1 4 ∷ []) (at 1 18446744073709551615 ∷ at 2 1 ∷ []) ∷ []) ≡
    record { number = 0; weight = 18446744073709551615; walk = []; path = 7 ∷ 7 ∷ 7 ∷ [] } ∷
    record { number = 0; weight = 8; walk = 1 ∷ 2 ∷ []; path = 1 ∷ 2 ∷ 7 ∷ [] } ∷
    []
unfolding edging
mark_does_not_count = refl

-- a walk of five nodes, for a path of five places and of four
pub walk_of_five : map (λ places. query (round_trip_asking places)) (5 ∷ 4 ∷ []) ≡
    record { number = 0; weight = 4; walk = 2 ∷ 0 ∷ 1 ∷ 0 ∷ 3 ∷ []; path = 2 ∷ 0 ∷ 1 ∷ 0 ∷ 3 ∷ [] } ∷
    record { number = 25; weight = 18446744073709551615; walk = []; path = 7 ∷ 7 ∷ 7 ∷ 7 ∷ [] } ∷
    []
unfolding edging
walk_of_five = refl

-- The table check.

-- weights 1 and 2^40, and 0 and one more; numbers both invalid or both entries, of which none is beyond the last start
pub checked_entries : checked
    (map l_tables
    (plain 0 2 5 ∷
    plain 0 2 1 ∷
    plain 0 2 (2 ^ 40) ∷
    opened 0 2 5 0 0 ∷
    plain 0 2 0 ∷
    plain 0 2 (2 ^ 40 + 1) ∷
    opened 0 2 5 4294967295 0 ∷
    opened 0 2 5 0 4294967295 ∷
    opened 0 2 5 1 0 ∷
    opened 0 2 5 0 1 ∷
    opened 0 2 5 0 2 ∷
    opened 0 2 6 0 0 ∷
    plain 0 1 5 ∷
    plain 0 0 5 ∷
    plain 2 0 5 ∷
    plain 0 3 5 ∷
    plain 3 2 5 ∷
    [])) ≡
    0 ∷ 0 ∷ 0 ∷ 0 ∷ replicate 13 20
unfolding edging
checked_entries = refl

-- starts begin at 0, never fall and end within the table; n + 1 of them, or more; an entry beyond the last is not looked at
pub checked_starts : checked
    (map l_starting
    ((0 ∷ 1 ∷ 2 ∷ 2 ∷ []) ∷
    (0 ∷ 1 ∷ 2 ∷ 2 ∷ 9 ∷ []) ∷
    (0 ∷ 1 ∷ 1 ∷ 1 ∷ []) ∷
    (0 ∷ 1 ∷ 2 ∷ []) ∷
    (1 ∷ 1 ∷ 2 ∷ 2 ∷ []) ∷
    (0 ∷ 2 ∷ 1 ∷ 2 ∷ []) ∷
    (0 ∷ 1 ∷ 2 ∷ 3 ∷ []) ∷
    (0 ∷ 0 ∷ 2 ∷ 2 ∷ []) ∷
    [])) ≡
    0 ∷ 0 ∷ 0 ∷ replicate 5 20
unfolding edging
checked_starts = refl

-- the first n ranks are a permutation
pub checked_ranks : checked (map l_ranked ((1 ∷ 0 ∷ 2 ∷ []) ∷ (1 ∷ 0 ∷ 2 ∷ 0 ∷ []) ∷ (1 ∷ 0 ∷ []) ∷ (1 ∷ 0 ∷ 3 ∷ []) ∷ (1 ∷ 0 ∷ 1 ∷ []) ∷ [])) ≡ 0 ∷ 0 ∷ replicate 3 20
unfolding edging
checked_ranks = refl

-- no nodes, in columns that hold anything; one; and one more than 1,024 (1,024 themselves: tools/bench)
unfoldable pub bare : ℕ → Hierarchy
bare n = record { ranks = range 0 n; forward = columns (replicate (suc n) 0) []; backward = columns (replicate (suc n) 0) [] }

pub checked_nodes : check_refusal 0 (l_ranked []) ∷ map (λ n. check_refusal n (bare n)) (0 ∷ 1 ∷ 1025 ∷ []) ≡ 0 ∷ 0 ∷ 0 ∷ 20 ∷ []
unfolding bare edging
checked_nodes = refl

-- request 7: two entries of one node to one neighbour, in either table: as heavy or not, side by side or apart, of the lowest rank or
-- another, a link and one that opens
pub neighbour_twice : checked
    (three (0 ∷ 2 ∷ 2 ∷ 2 ∷ []) (plain 0 1 1 ∷ plain 0 1 1 ∷ []) empty [] ∷
    three empty [] (0 ∷ 2 ∷ 2 ∷ 2 ∷ []) (plain 0 1 1 ∷ plain 0 1 1 ∷ []) ∷
    three (0 ∷ 2 ∷ 2 ∷ 2 ∷ []) (plain 0 1 1 ∷ plain 0 1 2 ∷ []) empty [] ∷
    three (0 ∷ 3 ∷ 3 ∷ 3 ∷ []) (plain 0 1 1 ∷ plain 0 2 1 ∷ plain 0 1 1 ∷ []) empty [] ∷
    three (0 ∷ 1 ∷ 3 ∷ 3 ∷ []) (plain 0 1 1 ∷ plain 1 2 1 ∷ plain 1 2 2 ∷ []) empty [] ∷
    three (0 ∷ 1 ∷ 3 ∷ 3 ∷ []) (plain 0 2 3 ∷ opened 1 2 5 0 0 ∷ plain 1 2 9 ∷ []) (0 ∷ 1 ∷ 1 ∷ 1 ∷ []) (plain 0 1 2 ∷ []) ∷
    []) ≡
    replicate 6 20
unfolding edging
neighbour_twice = refl

-- one entry in each table, as of a link both ways; one neighbour of two nodes; two neighbours of one node; a place beyond the last start
pub neighbour_once : checked
    (three (0 ∷ 1 ∷ 1 ∷ 1 ∷ []) (plain 0 1 1 ∷ []) (0 ∷ 1 ∷ 1 ∷ 1 ∷ []) (plain 0 1 1 ∷ []) ∷
    three (0 ∷ 1 ∷ 2 ∷ 2 ∷ []) (plain 0 2 1 ∷ plain 1 2 1 ∷ []) (0 ∷ 1 ∷ 2 ∷ 2 ∷ []) (plain 0 2 1 ∷ plain 1 2 1 ∷ []) ∷
    three (0 ∷ 2 ∷ 2 ∷ 2 ∷ []) (plain 0 1 1 ∷ plain 0 2 1 ∷ []) empty [] ∷
    three (0 ∷ 1 ∷ 1 ∷ 1 ∷ []) (plain 0 1 1 ∷ plain 0 1 1 ∷ []) empty [] ∷
    []) ≡
    replicate 4 0
unfolding edging
neighbour_once = refl

-- it is 20 to a query too, before ends, path and scratch are looked at, and nothing is written
pub twice_before_ends : query (querying 3 (three (0 ∷ 2 ∷ 2 ∷ 2 ∷ []) (plain 0 1 1 ∷ plain 0 1 2 ∷ []) empty []) [] [] 1 []) ≡
    record { number = 20; weight = 18446744073709551615; walk = []; path = 7 ∷ [] }
unfolding edging
twice_before_ends = refl
