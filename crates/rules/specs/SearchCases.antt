-- The witness search where its rules turn: what it answers, and its count, for one target and sum after another. The Rust gives
-- the same.
use Rattle.std.specs.Prelude.{◌≡◌, refl, List, [], ◌∷◌, map, ℕ}
use Rattle.rules.specs.Columns.{Link}
use Rattle.rules.specs.Graph.{Arc}
use Rattle.rules.specs.Search.{Search, init, find_max_weight}
use Rattle.rules.specs.Build.{link_arc}
use Rattle.rules.specs.Bench.{link}
use Rattle.rules.specs.Computing.{computing}

-- A target with a sum, and what is answered: a weight and the count.
pub record Ask : Type 0 where
  pub target : ℕ
  pub sum : ℕ
  pub answer : ℕ
  pub count : ℕ

unfoldable pub ask : ℕ → ℕ → ℕ → ℕ → Ask
ask target sum answer count = record { target = target; sum = sum; answer = answer; count = count }

unfoldable pub asked : List Arc → ℕ → ℕ → List Ask → Search → List Ask
asked g avoid limit [] s = []
asked g avoid limit (a ∷ rest) s =
    let f = find_max_weight g avoid limit a.target a.sum s in
    ask a.target a.sum f.weight f.search.count ∷ asked g avoid limit rest f.search

-- One search: links, a start, the node avoided, the limit, and what is asked in turn.
pub record Case : Type 0 where
  pub links : List Link
  pub start : ℕ
  pub avoid : ℕ
  pub limit : ℕ
  pub asks : List Ask

unfoldable pub over : List Link → ℕ → ℕ → List Ask → Case
over ls avoid limit asks = record { links = ls; start = 0; avoid = avoid; limit = limit; asks = asks }

-- 0 leads by 1 and 2 to 3, and on to 4 and 5; 6 beside it
unfoldable pub mesh : List Link
mesh = link 0 1 1 ∷ link 0 2 1 ∷ link 0 6 4 ∷ link 1 3 2 ∷ link 2 3 1 ∷ link 3 4 1 ∷ link 3 5 9 ∷ link 4 5 2 ∷ []

abbrev pub none : ℕ
none = 18446744073709551615

unfoldable pub cases : List Case
cases =
    over mesh 6 100
    (ask 3 1 2 3 ∷ ask 3 2 2 3 ∷ ask 3 2 2 3 ∷ ask 4 2 3 4 ∷ ask 4 3 3 4 ∷ ask 5 4 5 5 ∷ ask 5 5 5 5 ∷ ask 1 0 1 5 ∷ ask 0 0 0 5 ∷ []) ∷
    -- the count lasts: at the limit nothing more is settled
    over mesh 6 2 (ask 3 2 3 2 ∷ ask 3 3 3 2 ∷ ask 4 9 none 2 ∷ ask 2 1 1 2 ∷ []) ∷
    over mesh 6 3 (ask 4 9 none 3 ∷ ask 3 3 2 3 ∷ ask 3 2 2 3 ∷ ask 5 9 none 3 ∷ []) ∷
    over mesh 6 0 (ask 1 9 none 0 ∷ ask 0 0 0 0 ∷ []) ∷
    -- no arc to the node avoided
    over mesh 3 9 (ask 4 3 none 3 ∷ ask 6 3 4 3 ∷ ask 4 4 none 4 ∷ ask 6 9 4 4 ∷ []) ∷
    -- a weight above the sum stays in; an entry of a settled node is passed over, and not counted
    over (link 0 1 5 ∷ link 0 2 1 ∷ link 2 1 1 ∷ []) 4 9 (ask 3 0 none 1 ∷ ask 3 1 none 2 ∷ ask 3 4 none 3 ∷ ask 3 5 none 3 ∷ ask 3 9 none 3 ∷ []) ∷
    over (link 0 1 2 ∷ link 1 2 1 ∷ link 1 3 5 ∷ []) 4 9 (ask 2 9 3 2 ∷ ask 3 7 7 2 ∷ ask 3 6 7 3 ∷ []) ∷
    -- it stops after the node that labels the target with the sum itself
    over (link 0 1 1 ∷ link 0 2 2 ∷ []) 4 9 (ask 2 2 2 1 ∷ ask 3 9 none 3 ∷ []) ∷
    over (link 0 1 3 ∷ link 0 2 4 ∷ []) 4 9 (ask 3 9 none 3 ∷ []) ∷
    -- ties by smaller node
    over (link 0 1 3 ∷ link 0 2 3 ∷ link 1 3 1 ∷ link 2 3 2 ∷ []) 5 2 (ask 4 9 none 2 ∷ ask 3 1 4 2 ∷ []) ∷
    []

unfoldable pub run_case : Case → List Ask
run_case c = asked (map link_arc c.links) c.avoid c.limit c.asks (init c.start)

pub search_cases : map run_case cases ≡ map (λ c. c.asks) cases
unfolding cases run_case asked over ask mesh link computing
search_cases = refl
