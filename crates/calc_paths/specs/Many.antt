-- Many routes after one check. Each pair of a source and a target is the single query with both at offset 0 and with its own n places of the
-- path column.
use Rattle.std.specs.Prelude.{not, ◌||◌, List, [], ◌∷◌, ◌++◌, map, ℕ, zero, suc, ◌*◌, eqb, length, get_or, take, drop}
use Rattle.rules.specs.Lists.{range, over, flat_map}
use Rattle.rules.specs.Columns.{Hierarchy}
use Rattle.rules.specs.Refusals.{Row, row, first_met, short, QueryCall, query_scratch, check_rows}
use Rattle.rules.specs.Query.{query}
use Rattle.path_calculator.specs.Searching.{call}

-- What is lent for the answers: a place for each pair, and n places of the path column.
pub record Answers : Type 0 where
  pub numbers : List ℕ
  pub weights : List ℕ
  pub lengths : List ℕ
  pub paths : List ℕ

pub record PathsCall : Type 0 where
  pub nodes : ℕ
  pub hierarchy : Hierarchy
  pub sources : List ℕ
  pub targets : List ℕ
  pub lent : Answers
  pub scratch : List ℕ

pub record PathsAnswered : Type 0 where
  pub number : ℕ
  pub after : Answers

-- the places of a pair
unfoldable pub own_places : ℕ → List ℕ → ℕ → List ℕ
own_places n paths k = take n (drop (k * n) paths)

-- from one source to one target, both at offset 0
abbrev pub pair_call : ℕ → Hierarchy → ℕ → ℕ → List ℕ → List ℕ → QueryCall
pair_call n h s t path scratch = call n h (s ∷ []) (0 ∷ []) (t ∷ []) (0 ∷ []) path scratch

unfoldable pub single : PathsCall → ℕ → QueryCall
single c k =
    pair_call c.nodes c.hierarchy (get_or c.sources k 0) (get_or c.targets k 0) (own_places c.nodes c.lent.paths k) c.scratch

-- Rows of the whole call: 20 the tables, 21 columns of ends that differ, 24 what is lent. Of s sources and t targets, by lengths.
unfoldable pub many_rows : ℕ → Hierarchy → ℕ → ℕ → List ℕ → List ℕ → List Row
many_rows n h s t lent scratch =
    check_rows n h ++
    (row 21 (not (eqb s t)) ∷ row 24 (short (s ∷ s ∷ s ∷ s * n ∷ []) lent || short (query_scratch n h) scratch) ∷ [])

abbrev pub lengths_of : Answers → List ℕ
lengths_of a = length a.numbers ∷ length a.weights ∷ length a.lengths ∷ length a.paths ∷ []

unfoldable pub paths_refusal : PathsCall → ℕ
paths_refusal c =
    first_met (many_rows c.nodes c.hierarchy (length c.sources) (length c.targets) (lengths_of c.lent) c.scratch)

-- what the first so many pairs leave; the places beyond theirs are left alone
unfoldable pub answers_of : PathsCall → ℕ → Answers
answers_of c count =
    record {
      numbers = over c.lent.numbers (map (λ k. (query (single c k)).number) (range 0 count));
      weights = over c.lent.weights (map (λ k. (query (single c k)).weight) (range 0 count));
      lengths = over c.lent.lengths (map (λ k. length (query (single c k)).walk) (range 0 count));
      paths = over c.lent.paths (flat_map (λ k. (query (single c k)).path) (range 0 count));
    }

abbrev pub answers : PathsCall → Answers
answers c = answers_of c (length c.sources)

-- a call that is refused changes nothing
unfoldable pub unless_refused : PathsCall → ℕ → PathsAnswered
unless_refused c zero = record { number = 0; after = answers c }
unless_refused c (suc r) = record { number = suc r; after = c.lent }

unfoldable pub calc_paths : PathsCall → PathsAnswered
calc_paths c = unless_refused c (paths_refusal c)
