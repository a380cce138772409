-- The record program, of any bytes: what it writes is whole lines, each of one of the paper's forms and short; the room is
-- always enough, so that only some numbers can be told.
use Rattle.std.specs.Prelude.{◌≡◌, ◌⊎◌, List, [], ◌∷◌, ◌++◌, ℕ, ◌+◌, ◌-◌, ◌*◌, ◌≤◌, ◌<◌, length, get_or}
use Rattle.rules.specs.Lists.{In, flat_map}
use Rattle.rules.specs.Text.{bytes}
use Rattle.rules.specs.Columns.{Link}
use Rattle.rules.specs.Build.{build}
use Rattle.rules.specs.Query.{query}
use Rattle.rules.specs.Program.{decimal, program_call, query_call, program}

abbrev pub AllBytes : List ℕ → Type 0
AllBytes input = (b : ℕ) → In b input → b < 256

-- "numbers are decimal": what digits say, after a number
unfoldable pub read : ℕ → List ℕ → ℕ
read a [] = a
read a (d ∷ ds) = read (10 * a + (d - 0x30)) ds

pub record Decimal (n : ℕ) (ds : List ℕ) : Type 0 where
  pub says : read 0 ds ≡ n
  pub digits : (d : ℕ) → In d ds → (0x30 ≤ d) × (d ≤ 0x39)
  pub some : 1 ≤ length ds
  pub no_needless_zero : 2 ≤ length ds → get_or ds 0 0 ≡ 0x30 → ⊥

-- The numbers that can be told: a build's but 9 to 11, a query's 22.
abbrev pub Told : ℕ → Type 0
Told r = ((1 ≤ r) × (r ≤ 8)) ⊎ (r ≡ 12) ⊎ (r ≡ 22)

-- Nodes are below 32, so a route has at most 31 links.
pub data Line : List ℕ → Type 0 where
  built : (f b : ℕ) → f ≤ 496 → b ≤ 496 → Line (bytes "built " ++ (decimal f ++ (bytes " " ++ (decimal b ++ bytes "\n"))))
  route : (w v : ℕ) (vs : List ℕ) → w ≤ 31 * 4294967295 → length (v ∷ vs) ≤ 32 → ((u : ℕ) → In u (v ∷ vs) → u < 32) →
      Line (bytes "route " ++ (decimal w ++ (bytes ":" ++ (flat_map (λ u. bytes " " ++ decimal u) (v ∷ vs) ++ bytes "\n"))))
  none : Line (bytes "none\n")
  refused : (r : ℕ) → Told r → Line (bytes "refused " ++ (decimal r ++ bytes "\n"))
  bad_record : (at : ℕ) → at ≤ 16384 → Line (bytes "bad record " ++ (decimal at ++ bytes "\n"))

pub record Lines (written : List ℕ) : Type 0 where
  pub lines : List (List ℕ)
  pub each : (l : List ℕ) → In l lines → Line l
  pub all : written ≡ flat_map (λ l. l) lines

pub record Records : Type 0 where
  pub decimals : (n : ℕ) → Decimal n (decimal n)
  -- "the room is always enough"
  pub builds : (n : ℕ) (ls : List Link) (order : List ℕ) (limit r : ℕ) → n ≤ 32 → ((l : Link) → In l ls → l.weight ≤ 4294967295) →
      9 ≤ r → r ≤ 11 → (build (program_call n ls order limit)).number ≡ r → ⊥
  pub queries : (n : ℕ) (ls : List Link) (order : List ℕ) (limit s t : ℕ) → n ≤ 32 → ((l : Link) → In l ls → l.weight ≤ 4294967295) →
      (build (program_call n ls order limit)).number ≡ 0 →
      ((query (query_call n (build (program_call n ls order limit)).hierarchy s t)).number ≡ 0) ⊎
      ((query (query_call n (build (program_call n ls order limit)).hierarchy s t)).number ≡ 22)
  -- 16,384 bytes are read as records, and no more
  pub whole_lines : (input : List ℕ) → AllBytes input → length input ≤ 16384 → Lines (program input)
  pub too_long : (input : List ℕ) → 16384 < length input → program input ≡ bytes "too long\n"
  -- a buffer of so many bytes holds what is written
  pub output_bound : (input : List ℕ) → AllBytes input → length (program input) ≤ 17 * 16385
