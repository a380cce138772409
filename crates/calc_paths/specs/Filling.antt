-- What the parts of `calc_paths` ask and leave.
use Rattle.std.specs.Prelude.{true, false, List, [], ◌∷◌, ◌++◌, ◌≡◌, ℕ, ◌+◌, ◌*◌, ◌^◌, ◌<◌, ◌≤◌, length, set, take, drop}
use Rattle.rules.specs.Columns.{Hierarchy}
use Rattle.rules.specs.TableRules.{table_test}
use Rattle.rules.specs.Refusals.{short, query_scratch}
use Rattle.rules.specs.Query.{Answered, query}
use Rattle.path_calculator.specs.Searching.{Earlier}
use Rattle.tables.specs.declared.FastGraph.{FastGraph}
use Rattle.tables.specs.Lent.{hierarchy_of}
use Rattle.halves.specs.declared.Half.{Half}
use Rattle.halves.specs.Slices.{Kept, AsLong}
use Rattle.query.specs.Answers.{Answer, Tells}
use Rattle.query.specs.Routes.{scratch_of}
use Rattle.calc_paths.specs.Many.{Answers, PathsCall, PathsAnswered, own_places, pair_call}

abbrev pub columns_of : List ℕ → List ℕ → List ℕ → List ℕ → Answers
columns_of numbers weights lengths paths = record { numbers = numbers; weights = weights; lengths = lengths; paths = paths }

abbrev pub paths_call : ℕ → Hierarchy → List ℕ → List ℕ → Answers → List ℕ → PathsCall
paths_call n h sources targets lent scratch =
    record { nodes = n; hierarchy = h; sources = sources; targets = targets; lent = lent; scratch = scratch }

abbrev pub answered : ℕ → Answers → PathsAnswered
answered number after = record { number = number; after = after }

-- tables that pass, and scratch that row 24 lets pass
pub record Checked (n : ℕ) (h : Hierarchy) (scratch : List ℕ) : Type 0 where
  pub tables : table_test n h ≡ true
  pub room : short (query_scratch n h) scratch ≡ false

-- one pair, with places of its own
pub record Pairing (n : ℕ) (h : Hierarchy) (path fl bl fh bh : List ℕ) (base : ℕ) : Type 0 where
  pub checked : Checked n h (length fl ∷ length bl ∷ length fh ∷ length bh ∷ [])
  pub places : length path ≡ n
  pub earlier : Earlier n base fl bl
  pub stamps : base + 1 < 2 ^ 64

pub record Paired (n : ℕ) (h : Hierarchy) (s t : ℕ) (path scratch : List ℕ) (base : ℕ) (r : Answer) (path' fl' bl' : List ℕ) : Type 0 where
  pub tells : Tells (query (pair_call n h s t path scratch)) r path'
  pub few : r.count ≤ n
  pub earlier : Earlier n (base + 2) fl' bl'

-- room for the answer of pair k; base and stamps go by pairs
pub record Filling (n : ℕ) (h : Hierarchy) (sources targets : List ℕ) (k : ℕ) (lent : Answers) (fl bl fh bh : List ℕ) : Type 0 where
  pub checked : Checked n h (length fl ∷ length bl ∷ length fh ∷ length bh ∷ [])
  pub source : k < length sources
  pub target : k < length targets
  pub number_room : k < length lent.numbers
  pub weight_room : k < length lent.weights
  pub length_room : k < length lent.lengths
  pub path_room : k * n + n ≤ length lent.paths
  pub earlier : Earlier n (2 * k + 1) fl bl

-- an answer put in its places
unfoldable pub put_answer : ℕ → ℕ → Answered → Answers → Answers
put_answer n k a x =
    record {
      numbers = set x.numbers k a.number;
      weights = set x.weights k a.weight;
      lengths = set x.lengths k (length a.walk);
      paths = take (k * n) x.paths ++ (a.path ++ drop (k * n + n) x.paths);
    }

pub record Filled (n : ℕ) (h : Hierarchy) (s t k : ℕ) (lent : Answers) (scratch : List ℕ) (after : Answers) (fl' bl' : List ℕ) : Type 0 where
  pub is : after ≡ put_answer n k (query (pair_call n h s t (own_places n lent.paths k) scratch)) lent
  pub earlier : Earlier n (2 * k + 3) fl' bl'

-- a call that is not refused, over cleared labels
pub record Fillable (c : PathsCall) (fl bl : List ℕ) : Type 0 where
  pub checked : Checked c.nodes c.hierarchy c.scratch
  pub even : length c.targets ≡ length c.sources
  pub number_room : length c.sources ≤ length c.lent.numbers
  pub weight_room : length c.sources ≤ length c.lent.weights
  pub length_room : length c.sources ≤ length c.lent.lengths
  pub path_room : length c.sources * c.nodes ≤ length c.lent.paths
  pub earlier : Earlier c.nodes 1 fl bl

-- The same of the code's tables and halves.
abbrev pub PairingOn : FastGraph → List ℕ → Half → Half → Type 0
PairingOn g path x y = Pairing g.num_nodes (hierarchy_of g) path x.labels.now y.labels.now x.heap.now y.heap.now x.base

pub record PairedOn (g : FastGraph) (s t : ℕ) (path : List ℕ) (x y : Half) (r : Answer) (path' : List ℕ) (x' y' : Half) : Type 0 where
  pub paired : Paired g.num_nodes (hierarchy_of g) s t path (scratch_of x y) x.base r path' x'.labels.now y'.labels.now
  pub fwd_kept : Kept x x'
  pub bwd_kept : Kept y y'

abbrev pub FillingOn : FastGraph → List ℕ → List ℕ → ℕ → Answers → Half → Half → Type 0
FillingOn g sources targets k lent x y =
    Filling g.num_nodes (hierarchy_of g) sources targets k lent x.labels.now y.labels.now x.heap.now y.heap.now

pub record FilledOn (g : FastGraph) (s t k : ℕ) (lent : Answers) (x y : Half) (after : Answers) (x' y' : Half) : Type 0 where
  pub filled : Filled g.num_nodes (hierarchy_of g) s t k lent (scratch_of x y) after x'.labels.now y'.labels.now
  pub fwd_long : AsLong x x'
  pub bwd_long : AsLong y y'
