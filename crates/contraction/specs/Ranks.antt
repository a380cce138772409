-- What is given, and how far the tables are laid.
use Rattle.std.specs.Prelude.{List, ◌≡◌, ℕ, ◌*◌, ◌^◌, ◌≤◌, length, Result, Ok, Err}
use Rattle.rules.specs.Columns.{Links, Hierarchy, Table, Side, forward, backward, room}
use Rattle.rules.specs.Refusals.{BuildCall}
use Rattle.rules.specs.Build.{Level, raws, Building}
use Rattle.search.specs.Searching.{Lent}
use Rattle.node_contractor.specs.Work.{Work}
use Rattle.node_contractor.specs.Promises.{Rests}
use Rattle.rules.specs.declared.Refusal.{Refusal}
use Rattle.contraction.specs.declared.Ranked.{Ranked}
use Rattle.entries.specs.Laid.{Part, part_of, laid_part}

-- what of a call is no number of the code
pub record Given : Type 0 where
  pub nodes : ℕ
  pub links : Links
  pub order : List ℕ
  pub lent : Hierarchy
  pub scratch : List ℕ

abbrev pub given : ℕ → Links → List ℕ → Hierarchy → List ℕ → Given
given n l order h s = record { nodes = n; links = l; order = order; lent = h; scratch = s }

abbrev pub call : Given → (limit pool : ℕ) → BuildCall
call g limit pool =
    record { nodes = g.nodes; links = g.links; order = g.order; limit = limit; pool = pool; lent = g.lent; scratch = g.scratch }

pub record Parts : Type 0 where
  pub forward : Part
  pub backward : Part

abbrev pub parts : Part → Part → Parts
parts f b = record { forward = f; backward = b }

abbrev pub parts_of : Hierarchy → Parts
parts_of h = parts (part_of h.forward) (part_of h.backward)

unfoldable pub laid_parts : List Level → Hierarchy → Parts
laid_parts ls h = parts (laid_part forward ls (part_of h.forward)) (laid_part backward ls (part_of h.backward))

-- so many entries are laid, and they are within the table
pub record Counted (s : Side) (t : Table) (ls : List Level) (count : ℕ) : Type 0 where
  pub is : count ≡ length (raws s ls)
  pub within : count ≤ room t

-- the slices hold the graph of the build, and the columns the levels so far
pub record At (c : BuildCall) (b : Building) (t : Parts) (m : Lent) (x : Work) (fwd bwd : ℕ) : Type 0 where
  pub rests : Rests m c.pool x c.nodes b.graph
  pub base : x.search.base ≤ 2 ^ 33 * length b.levels
  pub laid : t ≡ laid_parts b.levels c.lent
  pub fwd_count : Counted forward c.lent.forward b.levels fwd
  pub bwd_count : Counted backward c.lent.backward b.levels bwd

-- how far the ranks have come: what graph and search are, and the entries so far
pub record Stage : Type 0 where
  pub work : Work
  pub fwd : ℕ
  pub bwd : ℕ

abbrev pub staged : Work → Result Ranked Refusal → Result Stage Refusal
staged w (Ok r) = Ok (record { work = w; fwd = r.fwd; bwd = r.bwd })
staged w (Err e) = Err e
