-- "The gateway's record program": one function from the bytes read to the bytes written.
use Rattle.std.specs.Prelude.{Bool, true, false, ◌&&◌, List, [], ◌∷◌, ◌++◌, map, ℕ, zero, suc, ◌+◌, ◌*◌, ◌/◌, ◌%◌, eqb, ltb, leb, length, get_or, drop, replicate}
use Rattle.rules.specs.Numbers.{max_input, program_nodes, program_links}
use Rattle.rules.specs.Lists.{flat_map}
use Rattle.rules.specs.Columns.{Link, Table, Hierarchy}
use Rattle.rules.specs.TableRules.{used}
use Rattle.rules.specs.Refusals.{BuildCall, QueryCall, build_scratch, query_scratch}
use Rattle.rules.specs.Build.{Built, build}
use Rattle.rules.specs.Query.{Answered, query}

-- The fixed words, and the bytes between them.
unfoldable pub word_built : List ℕ
word_built = 0x62 ∷ 0x75 ∷ 0x69 ∷ 0x6C ∷ 0x74 ∷ 0x20 ∷ []

unfoldable pub word_route : List ℕ
word_route = 0x72 ∷ 0x6F ∷ 0x75 ∷ 0x74 ∷ 0x65 ∷ 0x20 ∷ []

unfoldable pub word_none : List ℕ
word_none = 0x6E ∷ 0x6F ∷ 0x6E ∷ 0x65 ∷ []

unfoldable pub word_refused : List ℕ
word_refused = 0x72 ∷ 0x65 ∷ 0x66 ∷ 0x75 ∷ 0x73 ∷ 0x65 ∷ 0x64 ∷ 0x20 ∷ []

unfoldable pub word_bad_record : List ℕ
word_bad_record = 0x62 ∷ 0x61 ∷ 0x64 ∷ 0x20 ∷ 0x72 ∷ 0x65 ∷ 0x63 ∷ 0x6F ∷ 0x72 ∷ 0x64 ∷ 0x20 ∷ []

unfoldable pub word_too_long : List ℕ
word_too_long = 0x74 ∷ 0x6F ∷ 0x6F ∷ 0x20 ∷ 0x6C ∷ 0x6F ∷ 0x6E ∷ 0x67 ∷ []

abbrev pub newline : ℕ
newline = 0x0A

abbrev pub space : ℕ
space = 0x20

abbrev pub colon : ℕ
colon = 0x3A

-- "numbers are decimal": the last digit is the remainder by ten. A number is fuel enough for its digits.
unfoldable pub digits : ℕ → ℕ → List ℕ
digits zero n = []
digits (suc fuel) n =
    elim (ltb n 10) [
      | true ↦ (0x30 + n) ∷ []
      | false ↦ digits fuel (n / 10) ++ ((0x30 + (n % 10)) ∷ [])
    ]

unfoldable pub decimal : ℕ → List ℕ
decimal n = digits (suc n) n

unfoldable pub line : List ℕ → List ℕ
line bs = bs ++ (newline ∷ [])

unfoldable pub refused_line : ℕ → List ℕ
refused_line r = line (word_refused ++ decimal r)

-- "after `built ` come the counts of forward and backward entries"
unfoldable pub counts_line : ℕ → ℕ → List ℕ
counts_line fwd bwd = line (word_built ++ (decimal fwd ++ (space ∷ decimal bwd)))

unfoldable pub built_line : ℕ → Hierarchy → List ℕ
built_line n h = counts_line (used n h.forward) (used n h.backward)

-- "route 5: 0 1 2"; a route has a node, so an empty walk is "none"
unfoldable pub route_line : ℕ → List ℕ → List ℕ
route_line w [] = line word_none
route_line w (v ∷ vs) =
    line (word_route ++ (decimal w ++ (colon ∷ flat_map (λ u. space ∷ decimal u) (v ∷ vs))))

unfoldable pub bad_record : ℕ → List ℕ
bad_record at = line (word_bad_record ++ decimal at)

-- Records: 6E 74, a kind, and a body. "each record kind, 1 to 5, has one length"; 0 for a wrong kind.
unfoldable pub record_length : ℕ → ℕ
record_length kind = get_or (0 ∷ 5 ∷ 11 ∷ 5 ∷ 7 ∷ 7 ∷ []) kind 0

unfoldable pub kind_of : List ℕ → ℕ
kind_of bs = get_or bs 2 0

-- neither wrong nor cut
unfoldable pub whole : List ℕ → Bool
whole bs =
    eqb (get_or bs 0 0) 0x6E && eqb (get_or bs 1 0) 0x74 && leb 1 (record_length (kind_of bs)) &&
    leb (record_length (kind_of bs)) (length bs)

-- little-endian numbers at a place of a record
unfoldable pub u16_at : List ℕ → ℕ → ℕ
u16_at bs i = get_or bs i 0 + 256 * get_or bs (suc i) 0

unfoldable pub u32_at : List ℕ → ℕ → ℕ
u32_at bs i = u16_at bs i + 65536 * u16_at bs (suc (suc i))

unfoldable pub link_at : List ℕ → Link
link_at bs = record { tail = u16_at bs 3; head = u16_at bs 5; weight = u32_at bs 7 }

-- "the room is always enough": for 32 nodes, 32 · 31 live arcs and half as many entries a table
unfoldable pub blank_table : Table
blank_table =
    record {
      starts = replicate (suc program_nodes) 0;
      bases = replicate 496 0;
      neighbours = replicate 496 0;
      weights = replicate 496 0;
      in_numbers = replicate 496 0;
      out_numbers = replicate 496 0;
    }

unfoldable pub program_call : ℕ → List Link → List ℕ → ℕ → BuildCall
program_call n ls order limit =
    record {
      nodes = n;
      links =
          record { tails = map (λ l. l.tail) ls; heads = map (λ l. l.head) ls; weights = map (λ l. l.weight) ls };
      order = order;
      limit = limit;
      pool = 992;
      lent = record { ranks = replicate program_nodes 0; forward = blank_table; backward = blank_table };
      scratch = build_scratch n 992;
    }

unfoldable pub query_call : ℕ → Hierarchy → ℕ → ℕ → QueryCall
query_call n h s t =
    record {
      nodes = n;
      hierarchy = h;
      sources = record { nodes = s ∷ []; offsets = 0 ∷ [] };
      targets = record { nodes = t ∷ []; offsets = 0 ∷ [] };
      path = replicate program_nodes 0;
      scratch = query_scratch n h;
    }

-- "one 1, any 2s, any 3s, one 4, any 5s"
pub data Phase : Type 0 where
  waiting : Phase
  gathering : ℕ → List Link → List ℕ → Phase
  answering : ℕ → Hierarchy → Phase

-- What a record does: lines are written and the next phase begins, or the program stops; or it is misplaced.
pub data Next : Type 0 where
  goes_on : List ℕ → Phase → Next
  stops : List ℕ → Next
  misplaced : Next

unfoldable pub after_build : ℕ → Built → Next
after_build n b =
    elim b.number [
      | zero ↦ goes_on (built_line n b.hierarchy) (answering n b.hierarchy)
      | suc r ↦ stops (refused_line (suc r))
    ]

-- "More than 32 nodes is refusal 1 here, more than 256 links refusal 2"
unfoldable pub at_limit : ℕ → List Link → List ℕ → ℕ → Next
at_limit n ls order limit =
    elim (ltb program_nodes n) [
      | true ↦ stops (refused_line 1)
      | false ↦
          elim (ltb program_links (length ls)) [
            | true ↦ stops (refused_line 2)
            | false ↦ after_build n (build (program_call n ls order limit))
          ]
    ]

unfoldable pub answer_line : Answered → List ℕ
answer_line a = elim a.number [ zero ↦ route_line a.weight a.walk | suc r ↦ refused_line (suc r) ]

unfoldable pub no_order_yet : List ℕ → Bool
no_order_yet [] = true
no_order_yet (v ∷ vs) = false

unfoldable pub act : Phase → List ℕ → Next
act waiting bs = elim (eqb (kind_of bs) 1) [ true ↦ goes_on [] (gathering (u16_at bs 3) [] []) | false ↦ misplaced ]
act (gathering n ls order) bs =
    elim (eqb (kind_of bs) 2 && no_order_yet order) [
      | true ↦ goes_on [] (gathering n (ls ++ (link_at bs ∷ [])) order)
      | false ↦
          elim (eqb (kind_of bs) 3) [
            | true ↦ goes_on [] (gathering n ls (order ++ (u16_at bs 3 ∷ [])))
            | false ↦
                elim (eqb (kind_of bs) 4) [ true ↦ at_limit n ls order (u32_at bs 3) | false ↦ misplaced ]
          ]
    ]
act (answering n h) bs =
    elim (eqb (kind_of bs) 5) [
      | true ↦ goes_on (answer_line (query (query_call n h (u16_at bs 3) (u16_at bs 5)))) (answering n h)
      | false ↦ misplaced
    ]

-- "or an end before record 4"
unfoldable pub at_end : Phase → ℕ → List ℕ
at_end waiting at = bad_record at
at_end (gathering n ls order) at = bad_record at
at_end (answering n h) at = []

-- what a record at an offset writes, and what the rest writes after it
unfoldable pub follow : Next → ℕ → (Phase → List ℕ) → List ℕ
follow (goes_on written p) at rest = written ++ rest p
follow (stops written) at rest = written
follow misplaced at rest = bad_record at

-- From a byte offset on, in a phase. Each record takes some bytes, so their number is fuel enough.
unfoldable pub lines : ℕ → ℕ → Phase → List ℕ → List ℕ
lines zero at p bs = at_end p at
lines (suc fuel) at p [] = at_end p at
lines (suc fuel) at p (b ∷ bs) =
    let n = record_length (kind_of (b ∷ bs)) in
    elim (whole (b ∷ bs)) [
      | true ↦ follow (act p (b ∷ bs)) at (λ q. lines fuel (at + n) q (drop n (b ∷ bs)))
      | false ↦ bad_record at
    ]

unfoldable pub program : List ℕ → List ℕ
program input =
    elim (ltb max_input (length input)) [
      | true ↦ line word_too_long
      | false ↦ lines (length input) 0 waiting input
    ]
