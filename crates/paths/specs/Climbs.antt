-- What climbing the labels asks and leaves.
use Rattle.std.specs.Prelude.{List, [], ◌∷◌, ◌++◌, reverse, ℕ, ◌+◌, ◌*◌, ◌^◌, ◌<◌, ◌≤◌, length}
use Rattle.rules.specs.Lists.{flat_map}
use Rattle.rules.specs.Columns.{Hierarchy, Side, forward, backward}
use Rattle.rules.specs.Unpack.{unpacked}
use Rattle.rules.specs.Query.{End, Half, climb, root}
use Rattle.query_laws.specs.Sound.{Sound}
use Rattle.unpacking.specs.Written.{Shown, Put}
use Rattle.halves.specs.Labels.{half}

-- the nodes of a side's half of the walk from v on
unfoldable pub half_walk : ℕ → Hierarchy → Side → Half → ℕ → List ℕ
half_walk n h forward x v = flat_map (unpacked h forward) (climb n x v)
half_walk n h backward x v = flat_map (unpacked h backward) (reverse (climb n x v)) ++ (root n x v ∷ [])

-- labels of a sound search
pub record Labelled (n : ℕ) (h : Hierarchy) (s : Side) (labels : List ℕ) (base : ℕ) : Type 0 where
  pub heap : List ℕ
  pub len : ℕ
  pub es : List End
  pub floor : ℕ
  pub b : ℕ
  pub sound : Sound n h s es floor b (half n base labels heap len)

-- in tables of which g is shown, labels that lead up from v
pub record Ascent (n : ℕ) (h g : Hierarchy) (s : Side) (labels : List ℕ) (base v : ℕ) : Type 0 where
  pub tables : Shown n h g
  pub below : v < n
  pub labelled : Labelled n h s labels base

pub record Climbing (g : Hierarchy) (s : Side) (labels : List ℕ) (base v at limit : ℕ) : Type 0 where
  pub n : ℕ
  pub h : Hierarchy
  pub ascent : Ascent n h g s labels base v
  pub room : 4 * n ≤ length labels
  pub fits : at + limit < 2 ^ 64

-- whichever tables they are, and whatever search
pub record Climbed (g : Hierarchy) (s : Side) (labels : List ℕ) (base v at limit r : ℕ) (path path' : List ℕ) : Type 0 where
  pub put : {n : ℕ} {h : Hierarchy} (a : Ascent n h g s labels base v) →
      Put (half_walk n h s (half n base labels a.labelled.heap a.labelled.len) v) at limit r path path'

pub record Extracting (g : Hierarchy) (fl bl : List ℕ) (base v limit : ℕ) : Type 0 where
  pub n : ℕ
  pub h : Hierarchy
  pub fwd : Ascent n h g forward fl base v
  pub bwd : Ascent n h g backward bl base v
  pub fwd_room : 4 * n ≤ length fl
  pub bwd_room : 4 * n ≤ length bl
  pub fits : limit < 2 ^ 64

pub record Extracted (g : Hierarchy) (fl bl : List ℕ) (base v limit r : ℕ) (path path' : List ℕ) : Type 0 where
  pub put : {n : ℕ} {h : Hierarchy} (f : Ascent n h g forward fl base v) (b : Ascent n h g backward bl base v) →
      Put
      (half_walk n h forward (half n base fl f.labelled.heap f.labelled.len) v ++
      half_walk n h backward (half n base bl b.labelled.heap b.labelled.len) v)
      0 limit r path path'
