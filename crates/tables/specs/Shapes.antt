-- The table rules, part by part, as the functions of the check find them.
use Rattle.std.specs.Prelude.{List, ◌≡◌, ℕ, suc, ◌+◌, ◌≤◌, ◌<◌, length, get_or}
use Rattle.rules.specs.Columns.{Table, Hierarchy, Side, table, entry, begin, room, EquallyLong}
use Rattle.rules.specs.TableRules.{used, NeighboursDiffer, EntryRules}
use Rattle.tables.specs.declared.Sided.{Sided}
use Rattle.tables.specs.Lent.{columns_of}

-- what is said of a table's columns and starts
pub record Shape (n : ℕ) (t : Table) : Type 0 where
  pub columns : EquallyLong t
  pub places_for_starts : suc n ≤ length t.starts
  pub begin_at_0 : begin t 0 ≡ 0
  pub never_fall : (r : ℕ) → r < n → begin t r ≤ begin t (suc r)
  pub end_within : used n t ≤ room t

-- so no number of a used entry, and no rank of a node, is out of range
pub record Shaped (n : ℕ) (ranks : List ℕ) (own other : Table) : Type 0 where
  pub nodes : n ≤ 1024
  pub places_for_ranks : n ≤ length ranks
  pub own_shape : Shape n own
  pub other_shape : Shape n other

abbrev pub ShapedSided : Sided → Type 0
ShapedSided v = Shaped v.num_nodes v.ranks.now (columns_of v.own) (columns_of v.other)

-- the part of it that reading one entry takes
pub record Readable (n : ℕ) (t : Table) : Type 0 where
  pub starts : suc n ≤ length t.starts
  pub within : get_or t.starts n 0 ≤ length t.bases
  pub neighbours : length t.neighbours ≡ length t.bases
  pub weights : length t.weights ≡ length t.bases

-- `Fitting` of the rules, in the columns' numbers
pub record Opening (n : ℕ) (ranks : List ℕ) (fwd bwd : Table) (r tail head weight a b : ℕ) : Type 0 where
  pub in_used : a < get_or bwd.starts n 0
  pub out_used : b < get_or fwd.starts n 0
  pub one_node : get_or bwd.bases a 0 ≡ get_or fwd.bases b 0
  pub ranked : get_or bwd.bases a 0 < length ranks
  pub lower : get_or ranks (get_or bwd.bases a 0) 0 < r
  pub from_tail : get_or bwd.neighbours a 0 ≡ tail
  pub to_head : get_or fwd.neighbours b 0 ≡ head
  pub sum : get_or bwd.weights a 0 + get_or fwd.weights b 0 ≡ weight

-- the entries of a stretch keep the rules of rank r, each its own, and no two lead to one neighbour
pub record RankRules (n : ℕ) (h : Hierarchy) (s : Side) (r a b : ℕ) : Type 0 where
  pub entry_rules : (e : ℕ) → a ≤ e → e < b → EntryRules n h s r (entry (table h s) e)
  pub neighbours_differ : NeighboursDiffer (table h s) a b

-- a mark for each node, none as late as this one
pub record Earlier (mark : ℕ) (marks : List ℕ) : Type 0 where
  pub long : length marks ≡ 1024
  pub each : (u : ℕ) → get_or marks u 0 < mark

-- the entries of the first ranks, and of all
abbrev pub RanksRules : ℕ → Hierarchy → Side → ℕ → Type 0
RanksRules n h s k = (r : ℕ) → r < k → RankRules n h s r (begin (table h s) r) (begin (table h s) (suc r))

abbrev pub EntriesRules : ℕ → Hierarchy → Side → Type 0
EntriesRules n h s = RanksRules n h s n
