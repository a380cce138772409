-- What the search of a query asks and leaves.
use Rattle.std.specs.Prelude.{List, ◌≡◌, ℕ, ◌+◌, ◌*◌, ◌^◌, ◌<◌, ◌≤◌, length}
use Rattle.rules.specs.Numbers.{max_ends, invalid}
use Rattle.rules.specs.Columns.{Hierarchy, forward, backward, table}
use Rattle.rules.specs.TableRules.{used}
use Rattle.rules.specs.Refusals.{QueryCall}
use Rattle.rules.specs.Query.{Best, searched}
use Rattle.query_laws.specs.Accepted.{Accepted}
use Rattle.tables.specs.declared.FastGraph.{FastGraph}
use Rattle.tables.specs.Lent.{hierarchy_of}
use Rattle.halves.specs.declared.Ends.{Ends}
use Rattle.halves.specs.declared.Half.{Half as Search}
use Rattle.halves.specs.Slices.{Kept}
use Rattle.halves.specs.Labels.{Before}
use Rattle.rounds.specs.Rounds.{halves}
use Rattle.ends.specs.Given.{given}

-- what is given, with the path and the lengths of the scratch that are lent
abbrev pub call : ℕ → Hierarchy → List ℕ → List ℕ → List ℕ → List ℕ → List ℕ → List ℕ → QueryCall
call n h sources so targets to path scratch =
    record { nodes = n; hierarchy = h; sources = given sources so; targets = given targets to; path = path; scratch = scratch }

-- labels of either side of earlier queries
pub record Earlier (n base : ℕ) (fl bl : List ℕ) : Type 0 where
  pub fwd : Before n base fl
  pub bwd : Before n base bl

-- a query that is not refused, room for its search, and a base of which no stamp is
pub record Searching (n : ℕ) (h : Hierarchy) (sources so targets to fl bl fh bh : List ℕ) (base : ℕ) : Type 0 where
  pub path : List ℕ
  pub scratch : List ℕ
  pub accepted : Accepted (call n h sources so targets to path scratch)
  pub fwd_labels : 4 * n ≤ length fl
  pub bwd_labels : 4 * n ≤ length bl
  pub fwd_heap : 2 * (used n (table h forward) + max_ends) ≤ length fh
  pub bwd_heap : 2 * (used n (table h backward) + max_ends) ≤ length bh
  pub earlier : Earlier n base fl bl
  pub stamps : base + 1 < 2 ^ 64

-- the definition's search; the base after the next is then one of which no stamp is. The last starts are numbers of their columns, so
-- that no entry has the mark as its number.
pub record Searched (n : ℕ) (h : Hierarchy) (sources so targets to fl bl fh bh : List ℕ) (base : ℕ) (fl' bl' fh' bh' : List ℕ) (best : Best) : Type 0 where
  pub is : (s : Searching n h sources so targets to fl bl fh bh base) (path scratch : List ℕ) →
      searched (call n h sources so targets to path scratch) ≡ halves n base fl' bl' fh' bh' 0 0 best
  pub earlier : Earlier n (base + 2) fl' bl'
  pub few_fwd : used n h.forward ≤ invalid
  pub few_bwd : used n h.backward ≤ invalid

-- the same of the code's tables and ends
abbrev pub call_of : FastGraph → Ends → Ends → List ℕ → List ℕ → QueryCall
call_of g s t = call g.num_nodes (hierarchy_of g) s.nodes.now s.offsets.now t.nodes.now t.offsets.now

-- the same of the code's halves: of one base, and with empty heaps
pub record Fresh (x y : Search) : Type 0 where
  pub base : y.base ≡ x.base
  pub fwd_empty : x.len ≡ 0
  pub bwd_empty : y.len ≡ 0

abbrev pub SearchingOf : FastGraph → Ends → Ends → Search → Search → Type 0
SearchingOf g s t x y =
    Searching g.num_nodes (hierarchy_of g) s.nodes.now s.offsets.now t.nodes.now t.offsets.now x.labels.now y.labels.now x.heap.now y.heap.now x.base

pub record SearchedOf (g : FastGraph) (s t : Ends) (x y x' y' : Search) (best : Best) : Type 0 where
  pub searched : Searched g.num_nodes (hierarchy_of g) s.nodes.now s.offsets.now t.nodes.now t.offsets.now x.labels.now y.labels.now x.heap.now y.heap.now x.base
      x'.labels.now y'.labels.now x'.heap.now y'.heap.now best
  pub fwd_kept : Kept x x'
  pub bwd_kept : Kept y y'
