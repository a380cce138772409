-- Columns as they are lent, and the hierarchy that they are.
use Rattle.std.specs.Prelude.{List, ℕ, get_or}
use Rattle.rules.specs.Columns.{Table, Entry, Hierarchy, Side, forward, backward}
use Rattle.tables.specs.declared.Table.{Table as Columns}
use Rattle.tables.specs.declared.FastGraph.{FastGraph}
use Rattle.tables.specs.declared.Sided.{Sided}
use Rattle.tables.specs.declared.Side.{Side as Seen}
use Rattle.tables.specs.declared.Side.TheVariants.{Forward, Backward}
use Rattle.tables.specs.declared.Entry.{Entry as Numbers}

abbrev pub columns : List ℕ → List ℕ → List ℕ → List ℕ → List ℕ → List ℕ → Table
columns s b m w i o = record { starts = s; bases = b; neighbours = m; weights = w; in_numbers = i; out_numbers = o }

abbrev pub lent : List ℕ → Table → Table → Hierarchy
lent ranks f b = record { ranks = ranks; forward = f; backward = b }

-- what the code's structs hold
abbrev pub columns_of : Columns → Table
columns_of t = columns t.starts.now t.bases.now t.neighbours.now t.weights.now t.ins.now t.outs.now

abbrev pub hierarchy_of : FastGraph → Hierarchy
hierarchy_of g = lent g.ranks.now (columns_of g.fwd) (columns_of g.bwd)

-- the code's word for a side
abbrev pub side_of : Seen → Side
side_of Forward = forward
side_of Backward = backward

-- a hierarchy from a side: its own table first
abbrev pub seen_from : FastGraph → Seen → Sided
seen_from g Forward = record { num_nodes = g.num_nodes; ranks = g.ranks; own = g.fwd; other = g.bwd }
seen_from g Backward = record { num_nodes = g.num_nodes; ranks = g.ranks; own = g.bwd; other = g.fwd }

-- the same from the other side
abbrev pub turned : Sided → Sided
turned v = record { num_nodes = v.num_nodes; ranks = v.ranks; own = v.other; other = v.own }

-- a side's own table and the other, each at its place
abbrev pub either : Side → Table → Table → Table
either forward own other = own
either backward own other = other

abbrev pub sided : Side → List ℕ → Table → Table → Hierarchy
sided s ranks own other = lent ranks (either s own other) (either s other own)

abbrev pub sided_of : Seen → Sided → Hierarchy
sided_of s v = sided (side_of s) v.ranks.now (columns_of v.own) (columns_of v.other)

-- an entry's numbers
abbrev pub entry_of : Numbers → Entry
entry_of e = record { base = e.base; neighbour = e.neighbour; weight = e.weight; in_number = e.in_number; out_number = e.out_number }

-- an entry within the columns, as the code reads it
abbrev pub read : Table → ℕ → Entry
read t e =
    record {
      base = get_or t.bases e 0;
      neighbour = get_or t.neighbours e 0;
      weight = get_or t.weights e 0;
      in_number = get_or t.in_numbers e 0;
      out_number = get_or t.out_numbers e 0;
    }
