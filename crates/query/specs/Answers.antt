-- What a query leaves, beside the paper's answer.
use Rattle.std.specs.Prelude.{List, ◌++◌, ◌≡◌, ℕ, ◌+◌, ◌*◌, ◌^◌, ◌<◌, ◌≤◌, length, take}
use Rattle.rules.specs.Numbers.{invalid}
use Rattle.rules.specs.Columns.{Hierarchy, Side, forward, backward, table}
use Rattle.rules.specs.TableRules.{used, TableRules}
use Rattle.rules.specs.Refusals.{QueryCall}
use Rattle.rules.specs.Query.{Answered, searched, route, handed_back}
use Rattle.query_laws.specs.Accepted.{Accepted}
use Rattle.halves.specs.Labels.{half}
use Rattle.paths.specs.Climbs.{half_walk, Labelled}
use Rattle.path_calculator.specs.Searching.{Earlier}

-- A query's number and weight, and how many places of the path are the walk.
pub record Answer : Type 0 where
  pub number : ℕ
  pub weight : ℕ
  pub count : ℕ

abbrev pub answer : ℕ → ℕ → ℕ → Answer
answer number weight count = record { number = number; weight = weight; count = count }

-- the answer that the call's numbers and the path stand for: the walk is the front of the path
abbrev pub told : Answer → List ℕ → Answered
told r path = record { number = r.number; weight = r.weight; walk = take r.count path; path = path }

pub record Tells (a : Answered) (r : Answer) (path : List ℕ) : Type 0 where
  pub is : told r path ≡ a
  pub count : r.count ≡ length a.walk

-- the part that is handed back, and the two lent numbers
pub record Hands (a : Answered) (part : List ℕ) (number weight : ℕ) : Type 0 where
  pub walk : part ≡ a.walk
  pub number_is : number ≡ a.number
  pub weight_is : weight ≡ a.weight

-- what a query that is not refused answers
abbrev pub found : QueryCall → Answered
found c = route c (searched c)

-- labels of both sides that lead from a meeting node, in tables with no mark for an entry's number
pub record Handing (n : ℕ) (h : Hierarchy) (fl bl : List ℕ) (base v : ℕ) : Type 0 where
  pub rules : TableRules n h
  pub few : (s : Side) → used n (table h s) ≤ invalid
  pub below : v < n
  pub fwd_room : 4 * n ≤ length fl
  pub bwd_room : 4 * n ≤ length bl
  pub fwd : Labelled n h forward fl base
  pub bwd : Labelled n h backward bl base

pub record HandedBack (n : ℕ) (h : Hierarchy) (fl bl : List ℕ) (base v sum : ℕ) (r : Answer) (path path' : List ℕ) : Type 0 where
  pub tells : (f : Labelled n h forward fl base) (b : Labelled n h backward bl base) (c : QueryCall) → c.path ≡ path →
      Tells (handed_back c sum (half_walk n h forward (half n base fl f.heap f.len) v ++ half_walk n h backward (half n base bl b.heap b.len) v)) r path'

-- a query that rows 20 to 24 let pass, over labels of earlier ones
pub record Routing (c : QueryCall) (fl bl : List ℕ) (base : ℕ) : Type 0 where
  pub accepted : Accepted c
  pub earlier : Earlier c.nodes base fl bl
  pub stamps : base + 1 < 2 ^ 64

-- its route; the labels are then of queries before the base after the next
pub record Routed (c : QueryCall) (r : Answer) (path fl bl : List ℕ) (base : ℕ) : Type 0 where
  pub tells : Tells (found c) r path
  pub earlier : Earlier c.nodes (base + 2) fl bl
