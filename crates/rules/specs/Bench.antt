-- "Routes on the bench": the marked cases as one table, under one statement.
use Rattle.std.specs.Prelude.{◌≡◌, refl, List, [], ◌∷◌, map, ℕ, suc, ◌*◌, length, replicate}
use Rattle.rules.specs.Numbers.{invalid, no_weight}
use Rattle.rules.specs.Columns.{Link, Table, Entry, Hierarchy}
use Rattle.rules.specs.Refusals.{BuildCall, QueryCall, build_scratch, query_scratch}
use Rattle.rules.specs.Build.{build}
use Rattle.rules.specs.Query.{End, query}
use Rattle.rules.specs.Computing.{computing}

-- A graph with an order and a limit.
pub record Given : Type 0 where
  pub nodes : ℕ
  pub links : List Link
  pub order : List ℕ
  pub limit : ℕ

-- What is stated of it: its tables, or the weight and the walk of a route.
pub data Case : Type 0 where
  tables : Given → Hierarchy → Case
  route : Given → List End → List End → ℕ → List ℕ → Case

unfoldable pub link : ℕ → ℕ → ℕ → Link
link t h w = record { tail = t; head = h; weight = w }

unfoldable pub at : ℕ → ℕ → End
at v o = record { node = v; offset = o }

unfoldable pub plain : ℕ → ℕ → ℕ → Entry
plain v u w = record { base = v; neighbour = u; weight = w; in_number = invalid; out_number = invalid }

unfoldable pub opened : ℕ → ℕ → ℕ → ℕ → ℕ → Entry
opened v u w i o = record { base = v; neighbour = u; weight = w; in_number = i; out_number = o }

unfoldable pub columns : List ℕ → List Entry → Table
columns starts es =
    record {
      starts = starts;
      bases = map (λ e. e.base) es;
      neighbours = map (λ e. e.neighbour) es;
      weights = map (λ e. e.weight) es;
      in_numbers = map (λ e. e.in_number) es;
      out_numbers = map (λ e. e.out_number) es;
    }

-- places for the starts and for some entries
unfoldable pub blank : ℕ → ℕ → Table
blank n k = columns (replicate (suc n) 7) (replicate k (opened 7 7 7 7 7))

-- A build of a graph and a query, with what is lent for it.
unfoldable pub building : Given → Hierarchy → ℕ → List ℕ → BuildCall
building g lent pool scratch =
    record {
      nodes = g.nodes;
      links =
          record {
            tails = map (λ l. l.tail) g.links;
            heads = map (λ l. l.head) g.links;
            weights = map (λ l. l.weight) g.links;
          };
      order = g.order;
      limit = g.limit;
      pool = pool;
      lent = lent;
      scratch = scratch;
    }

unfoldable pub querying : ℕ → Hierarchy → List End → List End → ℕ → List ℕ → QueryCall
querying n h ss ts places scratch =
    record {
      nodes = n;
      hierarchy = h;
      sources = record { nodes = map (λ e. e.node) ss; offsets = map (λ e. e.offset) ss };
      targets = record { nodes = map (λ e. e.node) ts; offsets = map (λ e. e.offset) ts };
      path = replicate places 7;
      scratch = scratch;
    }

unfoldable pub lending : Given → ℕ → ℕ → BuildCall
lending g fwd bwd =
    let pool = g.nodes * g.nodes in
    building g (record { ranks = replicate g.nodes 7; forward = blank g.nodes fwd; backward = blank g.nodes bwd }) pool
    (build_scratch g.nodes pool)

unfoldable pub asking : Given → List End → List End → Hierarchy → QueryCall
asking g ss ts h = querying g.nodes h ss ts g.nodes (query_scratch g.nodes h)

-- a build into just the room that its tables take, or a query on a build into ample room
pub data Seen : Type 0 where
  saw_tables : ℕ → Hierarchy → Seen
  saw_route : ℕ → ℕ → List ℕ → Seen

unfoldable pub observed : Case → Seen
observed (tables g h) =
    let b = build (lending g (length h.forward.bases) (length h.backward.bases)) in
    saw_tables b.number b.hierarchy
observed (route g ss ts w vs) =
    let a = query (asking g ss ts (build (lending g (g.nodes * g.nodes) (g.nodes * g.nodes))).hierarchy) in
    saw_route a.number a.weight a.walk

unfoldable pub stated : Case → Seen
stated (tables g h) = saw_tables 0 h
stated (route g ss ts w vs) = saw_route 0 w vs

-- All of the above, where a case is computed.
unfoldable pub observing : Unit {0}
unfolding observed stated lending asking building querying blank columns opened plain at link computing
observing = tt

-- links 0-1 of 2, 1-2 of 3, and perhaps more; order 1, 0, 2
unfoldable pub l_with : List Link → Given
l_with more = record { nodes = 3; links = link 0 1 2 ∷ more; order = 1 ∷ 0 ∷ 2 ∷ []; limit = 100 }

unfoldable pub L : Given
L = l_with (link 1 2 3 ∷ [])

unfoldable pub l_direct : ℕ → Given
l_direct w = l_with (link 0 2 w ∷ link 1 2 3 ∷ [])

unfoldable pub l_tables : Entry → Hierarchy
l_tables e =
    record {
      ranks = 1 ∷ 0 ∷ 2 ∷ [];
      forward = columns (0 ∷ 1 ∷ 2 ∷ 2 ∷ []) (plain 1 2 3 ∷ e ∷ []);
      backward = columns (0 ∷ 1 ∷ 1 ∷ 1 ∷ []) (plain 1 0 2 ∷ []);
    }

-- 0-1, 0-2, 1-3, 2-3, all of 1; order 1, 2, 0, 3
unfoldable pub diamond : ℕ → Given
diamond limit =
    record {
      nodes = 4;
      links = link 0 1 1 ∷ link 0 2 1 ∷ link 1 3 1 ∷ link 2 3 1 ∷ [];
      order = 1 ∷ 2 ∷ 0 ∷ 3 ∷ [];
      limit = limit;
    }

unfoldable pub bench : List Case
bench =
    tables L (l_tables (opened 0 2 5 0 0)) ∷
    route L (at 0 0 ∷ []) (at 2 0 ∷ []) 5 (0 ∷ 1 ∷ 2 ∷ []) ∷
    route L (at 2 0 ∷ []) (at 0 0 ∷ []) no_weight [] ∷
    route L (at 0 10 ∷ at 1 4 ∷ []) (at 2 0 ∷ []) 7 (1 ∷ 2 ∷ []) ∷
    route L (at 1 9 ∷ at 1 4 ∷ []) (at 1 1 ∷ []) 5 (1 ∷ []) ∷
    tables (l_direct 5) (l_tables (plain 0 2 5)) ∷
    route (l_direct 5) (at 0 0 ∷ []) (at 2 0 ∷ []) 5 (0 ∷ 2 ∷ []) ∷
    tables (l_direct 6) (l_tables (opened 0 2 5 0 0)) ∷
    route (l_direct 6) (at 0 0 ∷ []) (at 2 0 ∷ []) 5 (0 ∷ 1 ∷ 2 ∷ []) ∷
    route (diamond 2) (at 0 0 ∷ []) (at 3 0 ∷ []) 2 (0 ∷ 2 ∷ 3 ∷ []) ∷
    route (diamond 0) (at 0 0 ∷ []) (at 3 0 ∷ []) 2 (0 ∷ 1 ∷ 3 ∷ []) ∷
    route (diamond 1) (at 0 0 ∷ []) (at 3 0 ∷ []) 2 (0 ∷ 1 ∷ 3 ∷ []) ∷
    []

pub bench_holds : map observed bench ≡ map stated bench
unfolding bench diamond l_tables l_direct L l_with observing
bench_holds = refl
