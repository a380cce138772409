-- "When a call is refused": rows 1 to 9 of a build and 20 to 24 of a query, which come before any work.
use Rattle.std.specs.Prelude.{Bool, true, false, not, ◌&&◌, ◌||◌, List, [], ◌∷◌, ◌++◌, ℕ, suc, ◌+◌, ◌*◌, eqb, ltb, leb, length}
use Rattle.rules.specs.Numbers.{max_nodes, max_links, max_ends, max_weight, no_weight}
use Rattle.rules.specs.Lists.{all, any, distinct}
use Rattle.rules.specs.Columns.{Links, Link, link_list, Table, Hierarchy, equally_long, Ends}
use Rattle.rules.specs.TableRules.{used, table_test}

-- A row: its number, and whether it is met.
abbrev pub Row : Type 0
Row = record { number : ℕ; met : Bool }

abbrev pub row : ℕ → Bool → Row
row n b = record { number = n; met = b }

-- "lowest number first"; 0 where no row is met
unfoldable pub first_met : List Row → ℕ
first_met [] = 0
first_met (r ∷ rs) = elim r.met [ true ↦ r.number | false ↦ first_met rs ]

-- whether a lent slice is below what is asked of it
unfoldable pub short : List ℕ → List ℕ → Bool
short [] lent = false
short (a ∷ as') [] = true
short (a ∷ as') (l ∷ ls) = ltb l a || short as' ls

-- What a build is given and lent. Of scratch only the lengths matter; the pool's size is a number.
pub record BuildCall : Type 0 where
  pub nodes : ℕ
  pub links : Links
  pub order : List ℕ
  pub limit : ℕ
  pub pool : ℕ
  pub lent : Hierarchy
  pub scratch : List ℕ

-- The scratch of a build: arcs (6 numbers a place), their weights, nodes (4), labels (2), heap items (2).
unfoldable pub build_scratch : ℕ → ℕ → List ℕ
build_scratch n pool = 6 * pool ∷ pool ∷ 4 * n ∷ 2 * n ∷ 2 * suc pool ∷ []

unfoldable pub names_none_above : ℕ → Link → Bool
names_none_above n l = ltb l.tail n && ltb l.head n

unfoldable pub loop : Link → Bool
loop l = eqb l.tail l.head

unfoldable pub goes_before : Link → Link → Bool
goes_before k l = ltb k.tail l.tail || eqb k.tail l.tail && ltb k.head l.head

unfoldable pub ascending : List Link → Bool
ascending [] = true
ascending (k ∷ []) = true
ascending (k ∷ (l ∷ ls)) = goes_before k l && ascending (l ∷ ls)

unfoldable pub columns_fit : Links → Bool
columns_fit l =
    eqb (length l.heads) (length l.tails) && eqb (length l.weights) (length l.tails) &&
    leb (length l.tails) max_links

unfoldable pub table_short : ℕ → Table → Bool
table_short n t = ltb (length t.starts) (suc n) || not (equally_long t)

unfoldable pub lent_short : BuildCall → Bool
lent_short c =
    ltb (length c.lent.ranks) c.nodes || table_short c.nodes c.lent.forward ||
    table_short c.nodes c.lent.backward || short (build_scratch c.nodes c.pool) c.scratch

-- rows 1 to 6: the graph
unfoldable pub graph_rows : ℕ → Links → List Row
graph_rows n l =
    row 1 (ltb max_nodes n) ∷
    row 2 (not (columns_fit l)) ∷
    row 3 (not (all (names_none_above n) (link_list l))) ∷
    row 4 (any loop (link_list l)) ∷
    row 5 (any (λ k. eqb k.weight 0) (link_list l)) ∷
    row 6 (not (ascending (link_list l))) ∷
    []

-- rows 7 to 9: the order and what is lent
unfoldable pub order_rows : BuildCall → List Row
order_rows c =
    row 7 (not (eqb (length c.order) c.nodes)) ∷
    row 8 (not (all (λ v. ltb v c.nodes) c.order && distinct c.order)) ∷
    row 9 (lent_short c) ∷
    []

unfoldable pub graph_refusal : ℕ → Links → ℕ
graph_refusal n l = first_met (graph_rows n l)

unfoldable pub build_refusal : BuildCall → ℕ
build_refusal c = first_met (graph_rows c.nodes c.links ++ order_rows c)

-- What a query is given and lent.
pub record QueryCall : Type 0 where
  pub nodes : ℕ
  pub hierarchy : Hierarchy
  pub sources : Ends
  pub targets : Ends
  pub path : List ℕ
  pub scratch : List ℕ

-- The scratch of a query: labels (4 numbers a node) and heap items (2) of either side.
unfoldable pub query_scratch : ℕ → Hierarchy → List ℕ
query_scratch n h =
    4 * n ∷ 4 * n ∷ 2 * (used n h.forward + max_ends) ∷ 2 * (used n h.backward + max_ends) ∷ []

-- "none, more than 16, or columns differ"
unfoldable pub ends_fit : Ends → Bool
ends_fit e =
    leb 1 (length e.nodes) && leb (length e.nodes) max_ends && eqb (length e.offsets) (length e.nodes)

unfoldable pub offset_fits : ℕ → Bool
offset_fits w = leb w max_weight || eqb w no_weight

-- the table check
unfoldable pub check_rows : ℕ → Hierarchy → List Row
check_rows n h = row 20 (not (table_test n h)) ∷ []

unfoldable pub end_rows : QueryCall → List Row
end_rows c =
    row 21 (not (ends_fit c.sources && ends_fit c.targets)) ∷
    row 22 (not (all below c.sources.nodes && all below c.targets.nodes)) ∷
    row 23 (not (all offset_fits c.sources.offsets && all offset_fits c.targets.offsets)) ∷
    row 24 (ltb (length c.path) c.nodes || short (query_scratch c.nodes c.hierarchy) c.scratch) ∷
    []
  where
    below : ℕ → Bool
    below v = ltb v c.nodes

unfoldable pub check_refusal : ℕ → Hierarchy → ℕ
check_refusal n h = first_met (check_rows n h)

unfoldable pub query_refusal : QueryCall → ℕ
query_refusal c = first_met (check_rows c.nodes c.hierarchy ++ end_rows c)
