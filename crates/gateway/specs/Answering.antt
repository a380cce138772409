-- Records after the build: tables of at most 32 nodes, and what is written of them.
use Rattle.std.specs.Prelude.{List, ◌≡◌, ℕ, ◌+◌, ◌≤◌, ◌<◌, length, get_or, replicate}
use Rattle.rules.specs.Columns.{Link, Hierarchy}
use Rattle.rules.specs.Build.{Built, build}
use Rattle.rules.specs.Program.{u32_at, program_call, after_build, at_limit, follow}
use Rattle.fast_graph_builder.specs.Promises.{answer}
use Rattle.records.specs.Onward.{onward}
use Rattle.text.specs.Wrote.{Fits, Wrote}
use Rattle.gather.specs.Gathering.{InColumns}

-- tables that the program's own room holds
pub record Small (n : ℕ) (h : Hierarchy) : Type 0 where
  pub few : n ≤ 32
  pub fwd_starts : n < length h.forward.starts
  pub bwd_starts : n < length h.backward.starts
  pub fwd_most : get_or h.forward.starts n 0 ≤ 496
  pub bwd_most : get_or h.backward.starts n 0 ≤ 496

-- what the program writes from record 4 on, once it is built; `at` is the offset after that record
abbrev pub after : List ℕ → ℕ → ℕ → Built → List ℕ
after input at n b = follow (after_build n b) 0 (λ q. onward input at q)

-- a build's number and tables, and room for what is written of them
pub record Closed (input : List ℕ) (at n number : ℕ) (h : Hierarchy) : Type 0 where
  pub short : length input ≤ 16384
  pub small : number ≡ 0 → Small n h
  pub fits : Fits 0 (after input at n (answer number h))

-- links in columns, not too many, and room for what is written
pub record Limited (input : List ℕ) (at n : ℕ) (tails heads weights order : List ℕ) (limit : ℕ) : Type 0 where
  pub ls : List Link
  pub links_in : InColumns ls tails heads weights
  pub short : length input ≤ 16384
  pub few : n ≤ 32
  pub fits : Fits 0 (after input at n (build (program_call n ls order limit)))

pub record Followed (input : List ℕ) (at n : ℕ) (tails heads weights order : List ℕ) (limit : ℕ) (out : List ℕ) (r : ℕ) (out' : List ℕ) : Type 0 where
  pub wrote : (l : Limited input at n tails heads weights order limit) → Wrote out 0 (after input at n (build (program_call n l.ls order limit))) r out'

-- what the program writes from record 4 on, which stands at `at`
abbrev pub from_limit : List ℕ → ℕ → ℕ → List Link → List ℕ → List ℕ
from_limit input at n ls order = follow (at_limit n ls order (u32_at input (at + 3))) at (λ q. onward input (at + 7) q)

pub record AtLimit (input : List ℕ) (at n : ℕ) (tails heads weights order : List ℕ) : Type 0 where
  pub ls : List Link
  pub links_in : InColumns ls tails heads weights
  pub short : length input ≤ 16384
  pub within : at ≤ length input
  pub fits : Fits 0 (from_limit input at n ls order)

pub record Limits (input : List ℕ) (at n : ℕ) (tails heads weights order out : List ℕ) (r : ℕ) (out' : List ℕ) : Type 0 where
  pub wrote : (l : AtLimit input at n tails heads weights order) → Wrote out 0 (from_limit input at n l.ls order) r out'

-- a path of 32 places, all 0
abbrev pub Blank : List ℕ → Type 0
Blank path = path ≡ replicate 32 0
