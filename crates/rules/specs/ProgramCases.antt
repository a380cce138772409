-- The record program on inputs at every edge of its rules, with the text that it writes.
use Rattle.std.specs.Prelude.{◌≡◌, refl, not, List, [], ◌∷◌, ◌++◌, map, ℕ, ◌/◌, ◌%◌, eqb, replicate, take}
use Prim.Native.String.{String}
use Rattle.rules.specs.Lists.{keep, range, flat_map}
use Rattle.rules.specs.Text.{bytes}
use Rattle.rules.specs.Program.{program}
use Rattle.rules.specs.Computing.{computing}

-- Records, as bytes.
unfoldable pub two : ℕ → List ℕ
two n = n % 256 ∷ n / 256 ∷ []

unfoldable pub four : ℕ → List ℕ
four n = two (n % 65536) ++ two (n / 65536)

unfoldable pub tagged : ℕ → List ℕ → List ℕ
tagged kind body = 0x6E ∷ 0x74 ∷ kind ∷ body

unfoldable pub count : ℕ → List ℕ
count n = tagged 1 (two n)

unfoldable pub link : ℕ → ℕ → ℕ → List ℕ
link a b w = tagged 2 (two a ++ two b ++ four w)

unfoldable pub place : ℕ → List ℕ
place v = tagged 3 (two v)

unfoldable pub limit : ℕ → List ℕ
limit k = tagged 4 (four k)

unfoldable pub ask : ℕ → ℕ → List ℕ
ask s t = tagged 5 (two s ++ two t)

pub record Case : Type 0 where
  pub input : List (List ℕ)
  pub written : String

unfoldable pub writes : List (List ℕ) → String → Case
writes input text = record { input = input; written = text }

-- case L up to its limit: 49 bytes
unfoldable pub L : List (List ℕ)
L = count 3 ∷ link 0 1 2 ∷ link 1 2 3 ∷ place 1 ∷ place 0 ∷ place 2 ∷ limit 100 ∷ []

-- 0-1, 0-2, 1-3, 2-3, all of 1; order 1, 2, 0, 3
unfoldable pub diamond : ℕ → List (List ℕ)
diamond k =
    count 4 ∷ link 0 1 1 ∷ link 0 2 1 ∷ link 1 3 1 ∷ link 2 3 1 ∷ place 1 ∷ place 2 ∷ place 0 ∷ place 3 ∷ limit k ∷ ask 0 3 ∷ []

-- two nodes, one link
unfoldable pub pair : ℕ → List (List ℕ)
pair w = count 2 ∷ link 0 1 w ∷ place 0 ∷ place 1 ∷ limit 0 ∷ ask 0 1 ∷ []

-- so many links, ascending: from each node in turn to 0, 1, .. but itself
unfoldable pub links : ℕ → List (List ℕ)
links k = take k (flat_map (λ a. map (λ b. link a b 1) (keep (λ b. not (eqb a b)) (range 0 32))) (range 0 9))

unfoldable pub cases : List Case
cases =
    -- as document 01 prints it
    writes (L ++ (ask 0 2 ∷ ask 2 0 ∷ ask 1 1 ∷ ask 0 7 ∷ [])) "built 2 1\nroute 5: 0 1 2\nnone\nroute 0: 1\nrefused 22\n" ∷
    -- an end before record 4: the input's length
    writes [] "bad record 0\n" ∷
    writes (count 3 ∷ []) "bad record 5\n" ∷
    writes (count 3 ∷ link 0 1 2 ∷ []) "bad record 16\n" ∷
    writes (count 3 ∷ link 0 1 2 ∷ link 1 2 3 ∷ place 1 ∷ place 0 ∷ place 2 ∷ []) "bad record 42\n" ∷
    -- after it an end is no fault
    writes L "built 2 1\n" ∷
    -- a record that is cut: its own offset
    writes ((0x6E ∷ []) ∷ []) "bad record 0\n" ∷
    writes ((0x6E ∷ 0x74 ∷ []) ∷ []) "bad record 0\n" ∷
    writes ((0x6E ∷ 0x74 ∷ 1 ∷ []) ∷ []) "bad record 0\n" ∷
    writes (take 4 (count 3) ∷ []) "bad record 0\n" ∷
    writes (count 3 ∷ take 10 (link 0 1 2) ∷ []) "bad record 5\n" ∷
    writes (count 3 ∷ take 4 (place 1) ∷ []) "bad record 5\n" ∷
    writes (count 3 ∷ take 6 (limit 100) ∷ []) "bad record 5\n" ∷
    writes (L ++ (ask 0 2 ∷ take 6 (ask 2 0) ∷ [])) "built 2 1\nroute 5: 0 1 2\nbad record 56\n" ∷
    -- a wrong one
    writes ((0x6F ∷ 0x74 ∷ 1 ∷ 3 ∷ 0 ∷ []) ∷ []) "bad record 0\n" ∷
    writes ((0x6E ∷ 0x75 ∷ 1 ∷ 3 ∷ 0 ∷ []) ∷ []) "bad record 0\n" ∷
    writes (count 3 ∷ tagged 0 (replicate 16 0) ∷ []) "bad record 5\n" ∷
    writes (count 3 ∷ tagged 6 (replicate 16 0) ∷ []) "bad record 5\n" ∷
    writes (count 3 ∷ tagged 255 (replicate 16 0) ∷ []) "bad record 5\n" ∷
    writes (L ++ (ask 0 2 ∷ (0x6E ∷ 0x6E ∷ 5 ∷ 0 ∷ 0 ∷ 2 ∷ 0 ∷ []) ∷ [])) "built 2 1\nroute 5: 0 1 2\nbad record 56\n" ∷
    -- a misplaced one
    writes (link 0 1 2 ∷ []) "bad record 0\n" ∷
    writes (place 0 ∷ []) "bad record 0\n" ∷
    writes (limit 0 ∷ []) "bad record 0\n" ∷
    writes (ask 0 0 ∷ []) "bad record 0\n" ∷
    writes (count 3 ∷ count 3 ∷ []) "bad record 5\n" ∷
    writes (count 3 ∷ ask 0 0 ∷ []) "bad record 5\n" ∷
    writes (count 3 ∷ place 1 ∷ link 0 1 2 ∷ []) "bad record 10\n" ∷
    writes (L ++ (count 3 ∷ [])) "built 2 1\nbad record 49\n" ∷
    writes (L ++ (link 0 1 2 ∷ [])) "built 2 1\nbad record 49\n" ∷
    writes (L ++ (place 1 ∷ [])) "built 2 1\nbad record 49\n" ∷
    writes (L ++ (limit 100 ∷ [])) "built 2 1\nbad record 49\n" ∷
    -- more than 32 nodes, more than 256 links: at record 4 and not before, and nothing more is read
    writes (count 32 ∷ limit 0 ∷ []) "refused 7\n" ∷
    writes (count 33 ∷ limit 0 ∷ ask 0 0 ∷ []) "refused 1\n" ∷
    writes (count 32 ∷ (links 256 ++ (limit 0 ∷ []))) "refused 7\n" ∷
    writes (count 32 ∷ (links 257 ++ (limit 0 ∷ ask 0 0 ∷ []))) "refused 2\n" ∷
    writes (count 33 ∷ (links 257 ++ (limit 0 ∷ []))) "refused 1\n" ∷
    writes (count 32 ∷ links 257) "bad record 2832\n" ∷
    -- other refusals of a build, each of which stops
    writes (count 3 ∷ link 0 3 1 ∷ limit 0 ∷ ask 0 0 ∷ []) "refused 3\n" ∷
    writes (count 3 ∷ link 1 1 1 ∷ limit 0 ∷ []) "refused 4\n" ∷
    writes (count 3 ∷ link 0 1 0 ∷ limit 0 ∷ []) "refused 5\n" ∷
    writes (count 3 ∷ link 0 2 1 ∷ link 0 1 1 ∷ limit 0 ∷ []) "refused 6\n" ∷
    writes (count 3 ∷ place 1 ∷ place 1 ∷ place 2 ∷ limit 0 ∷ ask 0 0 ∷ []) "refused 8\n" ∷
    -- a refused query does not stop
    writes (L ++ (ask 7 0 ∷ ask 0 256 ∷ ask 256 0 ∷ ask 0 1 ∷ [])) "built 2 1\nrefused 22\nrefused 22\nrefused 22\nroute 2: 0 1\n" ∷
    -- no nodes
    writes (count 0 ∷ limit 0 ∷ ask 0 0 ∷ []) "built 0 0\nrefused 22\n" ∷
    -- numbers of four bytes, the lowest first, and in decimal
    writes (pair 9) "built 1 0\nroute 9: 0 1\n" ∷
    writes (pair 10) "built 1 0\nroute 10: 0 1\n" ∷
    writes (pair 16909060) "built 1 0\nroute 16909060: 0 1\n" ∷
    writes (pair 4294967295) "built 1 0\nroute 4294967295: 0 1\n" ∷
    writes (diamond 1) "built 3 2\nroute 2: 0 1 3\n" ∷
    writes (diamond 256) "built 3 2\nroute 2: 0 2 3\n" ∷
    writes (diamond 65536) "built 3 2\nroute 2: 0 2 3\n" ∷
    writes (diamond 16777216) "built 3 2\nroute 2: 0 2 3\n" ∷
    -- 16,384 bytes are read, and no more
    writes (replicate 16384 (0x6E ∷ [])) "bad record 0\n" ∷
    writes (replicate 16385 (0x6E ∷ [])) "too long\n" ∷
    []

unfoldable pub joined : List (List ℕ) → List ℕ
joined rs = flat_map (λ r. r) rs

pub program_cases : map (λ c. program (joined c.input)) cases ≡ map (λ c. bytes c.written) cases
unfolding cases joined links pair diamond L writes ask limit place link count tagged four two bytes computing
program_cases = refl
