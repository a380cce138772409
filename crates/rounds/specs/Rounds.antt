-- What rounds ask and leave: for any hierarchy that the columns are, and any ends.
use Rattle.std.specs.Prelude.{List, ◌≡◌, ℕ, ◌+◌, ◌*◌, ◌^◌, ◌<◌, ◌≤◌, length}
use Rattle.rules.specs.Columns.{Hierarchy, forward, backward, table}
use Rattle.rules.specs.TableRules.{used, TableRules}
use Rattle.rules.specs.Query.{End, Best, Halves, round, rounds}
use Rattle.heap.specs.Items.{items}
use Rattle.heap.specs.Shape.{Ordered}
use Rattle.query_laws.specs.Sound.{Both, both_loads}
use Rattle.tables.specs.declared.FastGraph.{FastGraph}
use Rattle.tables.specs.declared.Sided.{Sided}
use Rattle.halves.specs.declared.Half.{Half as Search}
use Rattle.halves.specs.Slices.{Kept}
use Rattle.halves.specs.Labels.{Keeps, half}
use Rattle.turns.specs.Turning.{View}

-- both searches, in their slices
abbrev pub halves : ℕ → ℕ → List ℕ → List ℕ → List ℕ → List ℕ → ℕ → ℕ → Best → Halves
halves n base fl bl fh bh f b best = record { fwd = half n base fl fh f; bwd = half n base bl bh b; best = best }

-- a heap of so many items, in a slice
pub record Heap (heap : List ℕ) (len : ℕ) : Type 0 where
  pub ordered : Ordered (items heap len)
  pub held : 2 * len ≤ length heap

-- tables that keep the rules, sound searches in the slices, and room for what rounds may add
pub record Rounding (n : ℕ) (ranks fs fm fw bs bm bw fl bl fh bh : List ℕ) (base f b : ℕ) (best : Best) : Type 0 where
  pub h : Hierarchy
  pub sources : List End
  pub targets : List End
  pub rules : TableRules n h
  pub view : View h forward ranks fs fm fw bs bm bw
  pub both : Both n h sources targets (halves n base fl bl fh bh f b best)
  pub fwd : Heap fh f
  pub bwd : Heap bh b
  pub fwd_room : 2 * (length sources + used n (table h forward)) ≤ length fh
  pub bwd_room : 2 * (length targets + used n (table h backward)) ≤ length bh
  pub fwd_labels : 4 * n ≤ length fl
  pub bwd_labels : 4 * n ≤ length bl
  pub stamps : base + 1 < 2 ^ 64

pub record Rounded (n : ℕ) (ranks fs fm fw bs bm bw fl bl fh bh : List ℕ) (base f b : ℕ) (best : Best) (fl' bl' fh' bh' : List ℕ) (f' b' : ℕ) (best' : Best) : Type 0 where
  pub is : (t : Rounding n ranks fs fm fw bs bm bw fl bl fh bh base f b best) →
      round t.h (halves n base fl bl fh bh f b best) ≡ halves n base fl' bl' fh' bh' f' b' best'
  pub fwd : Heap fh' f'
  pub bwd : Heap bh' b'
  pub fwd_stamps : Keeps base fl fl'
  pub bwd_stamps : Keeps base bl bl'

pub record Running (n : ℕ) (ranks fs fm fw bs bm bw fl bl fh bh : List ℕ) (base f b : ℕ) (best : Best) (fuel : ℕ) : Type 0 where
  pub rounding : Rounding n ranks fs fm fw bs bm bw fl bl fh bh base f b best
  pub enough : both_loads n rounding.h (halves n base fl bl fh bh f b best) ≤ fuel

-- nothing is left in the heaps
pub record Ran (n : ℕ) (ranks fs fm fw bs bm bw fl bl fh bh : List ℕ) (base f b : ℕ) (best : Best) (fuel : ℕ) (fl' bl' fh' bh' : List ℕ) (best' : Best) : Type 0 where
  pub is : (t : Running n ranks fs fm fw bs bm bw fl bl fh bh base f b best fuel) →
      rounds t.rounding.h fuel (halves n base fl bl fh bh f b best) ≡ halves n base fl' bl' fh' bh' 0 0 best'
  pub fwd_stamps : Keeps base fl fl'
  pub bwd_stamps : Keeps base bl bl'

-- The same of the code's tables, the forward one first, and halves.
abbrev pub RoundingOn : Sided → Search → Search → Best → Type 0
RoundingOn t x y =
    Rounding t.num_nodes t.ranks.now t.own.starts.now t.own.neighbours.now t.own.weights.now t.other.starts.now
    t.other.neighbours.now t.other.weights.now x.labels.now y.labels.now x.heap.now y.heap.now x.base x.len y.len

pub record RoundedOn (t : Sided) (x y : Search) (best : Best) (x' y' : Search) (best' : Best) : Type 0 where
  pub rounded : Rounded t.num_nodes t.ranks.now t.own.starts.now t.own.neighbours.now t.own.weights.now t.other.starts.now
      t.other.neighbours.now t.other.weights.now x.labels.now y.labels.now x.heap.now y.heap.now x.base x.len y.len best
      x'.labels.now y'.labels.now x'.heap.now y'.heap.now x'.len y'.len best'
  pub fwd_kept : Kept x x'
  pub bwd_kept : Kept y y'

abbrev pub RunningOn : FastGraph → Search → Search → Best → ℕ → Type 0
RunningOn g x y =
    Running g.num_nodes g.ranks.now g.fwd.starts.now g.fwd.neighbours.now g.fwd.weights.now g.bwd.starts.now
    g.bwd.neighbours.now g.bwd.weights.now x.labels.now y.labels.now x.heap.now y.heap.now x.base x.len y.len

pub record RanOn (g : FastGraph) (x y : Search) (best : Best) (fuel : ℕ) (x' y' : Search) (best' : Best) : Type 0 where
  pub ran : Ran g.num_nodes g.ranks.now g.fwd.starts.now g.fwd.neighbours.now g.fwd.weights.now g.bwd.starts.now
      g.bwd.neighbours.now g.bwd.weights.now x.labels.now y.labels.now x.heap.now y.heap.now x.base x.len y.len best fuel
      x'.labels.now y'.labels.now x'.heap.now y'.heap.now best'
  pub fwd_kept : Kept x x'
  pub bwd_kept : Kept y y'
