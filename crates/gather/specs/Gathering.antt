-- Links and order entries, gathered from the records before the build.
use Rattle.std.specs.Prelude.{List, map, ◌≡◌, ℕ, ◌+◌, ◌*◌, ◌≤◌, length, take, drop, set}
use Rattle.rules.specs.Columns.{Link}
use Rattle.rules.specs.Program.{u16_at, u32_at, gathering, program}
use Rattle.records.specs.Kinds.{whole_kind}
use Rattle.records.specs.Onward.{onward}
use Rattle.gather.specs.declared.Gathered.{Gathered}

pub record InColumns (ls : List Link) (tails heads weights : List ℕ) : Type 0 where
  pub tails_are : tails ≡ map (λ l. l.tail) ls
  pub heads_are : heads ≡ map (λ l. l.head) ls
  pub weights_are : weights ≡ map (λ l. l.weight) ls

-- places for all that an input can have
pub record Rooms (input tails heads weights order : List ℕ) : Type 0 where
  pub small : length input ≤ 16384
  pub tails_room : 1490 ≤ length tails
  pub heads_room : 1490 ≤ length heads
  pub weights_room : 1490 ≤ length weights
  pub order_room : 3277 ≤ length order

-- the columns hold what was read so far, and from here on the program writes all that it writes
pub record Gathering (input : List ℕ) (g : Gathered) (tails heads weights order : List ℕ) : Type 0 where
  pub ls : List Link
  pub os : List ℕ
  pub links_in : InColumns ls (take g.links tails) (take g.links heads) (take g.links weights)
  pub order_is : take g.orders order ≡ os
  pub links_count : length ls ≡ g.links
  pub orders_count : length os ≡ g.orders
  pub same : onward input g.at (gathering (u16_at input 3) ls os) ≡ program input
  pub paid : 5 + 11 * g.links + 5 * g.orders ≤ g.at
  pub within : g.at ≤ length input

-- no link or order entry that may come here
pub record Stuck (input : List ℕ) (g : Gathered) : Type 0 where
  pub no_link : whole_kind (drop g.at input) ≡ 2 → g.orders ≡ 0 → ⊥
  pub no_order : whole_kind (drop g.at input) ≡ 3 → ⊥

-- one record more, or none
pub record More (input : List ℕ) (g r : Gathered) (tails heads weights order : List ℕ) : Type 0 where
  pub gathered : Gathering input r tails heads weights order
  pub onward_to : g.at ≤ r.at
  pub stuck : r.at ≤ g.at → Stuck input r

-- the first record stands at the front
pub record Begun (input : List ℕ) : Type 0 where
  pub first : 1 ≡ whole_kind (drop 0 input)

pub record Done (input : List ℕ) (g : Gathered) (tails heads weights order : List ℕ) : Type 0 where
  pub gathered : Gathering input g tails heads weights order
  pub stuck : Stuck input g

pub record LinkPut (input : List ℕ) (at k : ℕ) (tails heads weights tails' heads' weights' : List ℕ) : Type 0 where
  pub tail_is : tails' ≡ set tails k (u16_at input (at + 3))
  pub head_is : heads' ≡ set heads k (u16_at input (at + 5))
  pub weight_is : weights' ≡ set weights k (u32_at input (at + 7))
