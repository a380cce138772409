-- What the functions ask and promise.
use Rattle.std.specs.Prelude.{List, map, ◌≡◌, ℕ, ◌+◌, ◌≤◌, ◌<◌, length, get_or}
use Rattle.rules.specs.Numbers.{max_link_weight, invalid}
use Rattle.rules.specs.Lists.{In, over}
use Rattle.rules.specs.Columns.{Side, forward, backward}
use Rattle.rules.specs.TableRules.{tail_of, head_of}
use Rattle.rules.specs.Refusals.{BuildCall}
use Rattle.rules.specs.Build.{went, Raw, raws, Building, open_entry, finish, finished, starts_of, ranks_of, contraction}
use Rattle.entries.specs.Laid.{begun_of}
use Rattle.finish.specs.declared.Numbers.{Numbers}
use Rattle.rules.specs.Accepted.{AcceptedBuild}

-- the starts of rank r and of the next can be read, and the rank's entries
pub record Seekable (starts : List ℕ) (places r : ℕ) : Type 0 where
  pub room : r + 1 < length starts
  pub within : get_or starts (r + 1) 0 ≤ places

-- the first entry of rank r with this neighbour
pub record Sought (starts neighbours : List ℕ) (r u e : ℕ) : Type 0 where
  pub low : get_or starts r 0 ≤ e
  pub before : (k : ℕ) → get_or starts r 0 ≤ k → k < e → get_or neighbours k 0 ≡ u → ⊥
  pub here : e < get_or starts (r + 1) 0 → get_or neighbours e 0 ≡ u

-- a build of an accepted call that went to its end
pub record Whole (c : BuildCall) (b : Building) : Type 0 where
  pub ok : AcceptedBuild c
  pub weights : (w : ℕ) → In w c.links.weights → w ≤ max_link_weight
  pub went_to : contraction c ≡ went b

-- the columns that rule 5 reads
pub record Columns (c : BuildCall) (b : Building) (ranks fs fn bs bn : List ℕ) : Type 0 where
  pub whole : Whole c b
  pub ranks_are : ranks ≡ over c.lent.ranks (ranks_of c.order c.nodes)
  pub fwd_starts : fs ≡ over c.lent.forward.starts (starts_of forward b.levels)
  pub fwd_neighbours : fn ≡ over c.lent.forward.neighbours (map (λ r. r.neighbour) (raws forward b.levels))
  pub bwd_starts : bs ≡ over c.lent.backward.starts (starts_of backward b.levels)
  pub bwd_neighbours : bn ≡ over c.lent.backward.neighbours (map (λ r. r.neighbour) (raws backward b.levels))

-- the ends of an entry before its numbers are known
abbrev pub raw_tail : Side → Raw → ℕ
raw_tail s r = tail_of s (open_entry r invalid invalid)

abbrev pub raw_head : Side → Raw → ℕ
raw_head s r = head_of s (open_entry r invalid invalid)

-- the entry at hand
pub record Opening (c : BuildCall) (b : Building) (s : Side) (x : Raw) (centre tail head : ℕ) (ranks fs fn bs bn : List ℕ) : Type 0 where
  pub columns : Columns c b ranks fs fn bs bn
  pub written : In x (raws s b.levels)
  pub centre_is : centre ≡ x.centre
  pub tail_is : tail ≡ raw_tail s x
  pub head_is : head ≡ raw_head s x

-- it becomes what the definition says
pub record Opened (b : Building) (s : Side) (x : Raw) (r : Numbers) : Type 0 where
  pub into : r.into ≡ (finish (raws forward b.levels) (raws backward b.levels) s x).in_number
  pub out : r.out ≡ (finish (raws forward b.levels) (raws backward b.levels) s x).out_number

abbrev pub Opens : (centre tail head : ℕ) (ranks fs fn bs bn : List ℕ) → Numbers → Type 0
Opens centre tail head ranks fs fn bs bn r =
    (c : BuildCall) (b : Building) (s : Side) (x : Raw) → Opening c b s x centre tail head ranks fs fn bs bn → Opened b s x r

-- a table's entries, whose centres wait
pub record Finishing (c : BuildCall) (b : Building) (s : Side) (count : ℕ) (ranks fs fn bs bn tails heads ins outs : List ℕ) : Type 0 where
  pub columns : Columns c b ranks fs fn bs bn
  pub count_is : count ≡ length (raws s b.levels)
  pub ins_are : (e : ℕ) → e < count → get_or ins e 0 ≡ get_or (map (λ r. r.centre) (raws s b.levels)) e 0
  pub tails_are : (e : ℕ) → e < count → get_or tails e 0 ≡ get_or (map (raw_tail s) (raws s b.levels)) e 0
  pub heads_are : (e : ℕ) → e < count → get_or heads e 0 ≡ get_or (map (raw_head s) (raws s b.levels)) e 0
  pub tails_room : count ≤ length tails
  pub heads_room : count ≤ length heads
  pub ins_room : count ≤ length ins
  pub outs_room : count ≤ length outs

pub record Finished (b : Building) (s : Side) (ins outs ins' outs' : List ℕ) : Type 0 where
  pub ins_are : ins' ≡ over ins (map (λ e. e.in_number) (finished s b.levels))
  pub outs_are : outs' ≡ over outs (map (λ e. e.out_number) (finished s b.levels))

abbrev pub Finishes : (count : ℕ) (ranks fs fn bs bn tails heads ins outs ins' outs' : List ℕ) → Type 0
Finishes count ranks fs fn bs bn tails heads ins outs ins' outs' =
    (c : BuildCall) (b : Building) (s : Side) → Finishing c b s count ranks fs fn bs bn tails heads ins outs → Finished b s ins outs ins' outs'

-- each node of the order is below n and has a place; none stands twice
pub record Inverse (n : ℕ) (order ranks : List ℕ) : Type 0 where
  pub long : length order ≡ n
  pub few : n < invalid
  pub below : (v : ℕ) → In v order → v < n
  pub every : (v : ℕ) → v < n → In v order
  pub apart : (j k : ℕ) → j < length order → k < length order → get_or order j 0 ≡ get_or order k 0 → j ≡ k
  pub room : n ≤ length ranks

abbrev pub Ranks : (order ranks ranks' : List ℕ) → Type 0
Ranks order ranks ranks' = (n : ℕ) → Inverse n order ranks → ranks' ≡ over ranks (ranks_of order n)

-- all of it: the ranks are laid, and ranks and second numbers as they were lent
pub record Ending (c : BuildCall) (b : Building) (n : ℕ) (order : List ℕ) (fwd bwd : ℕ) (ranks fs fb fn fi fo bs bb bn bi bo : List ℕ) : Type 0 where
  pub whole : Whole c b
  pub nodes_are : c.nodes ≡ n
  pub order_is : c.order ≡ order
  pub fwd_count : fwd ≡ length (raws forward b.levels)
  pub bwd_count : bwd ≡ length (raws backward b.levels)
  pub ranks_are : ranks ≡ c.lent.ranks
  pub fwd_starts : fs ≡ over c.lent.forward.starts (begun_of forward b.levels)
  pub fwd_bases : fb ≡ over c.lent.forward.bases (map (λ r. r.base) (raws forward b.levels))
  pub fwd_neighbours : fn ≡ over c.lent.forward.neighbours (map (λ r. r.neighbour) (raws forward b.levels))
  pub fwd_ins : fi ≡ over c.lent.forward.in_numbers (map (λ r. r.centre) (raws forward b.levels))
  pub fwd_outs : fo ≡ c.lent.forward.out_numbers
  pub bwd_starts : bs ≡ over c.lent.backward.starts (begun_of backward b.levels)
  pub bwd_bases : bb ≡ over c.lent.backward.bases (map (λ r. r.base) (raws backward b.levels))
  pub bwd_neighbours : bn ≡ over c.lent.backward.neighbours (map (λ r. r.neighbour) (raws backward b.levels))
  pub bwd_ins : bi ≡ over c.lent.backward.in_numbers (map (λ r. r.centre) (raws backward b.levels))
  pub bwd_outs : bo ≡ c.lent.backward.out_numbers

pub record Ended (c : BuildCall) (b : Building) (ranks fs fi fo bs bi bo : List ℕ) : Type 0 where
  pub ranks_are : ranks ≡ over c.lent.ranks (ranks_of c.order c.nodes)
  pub fwd_starts : fs ≡ over c.lent.forward.starts (starts_of forward b.levels)
  pub fwd_ins : fi ≡ over c.lent.forward.in_numbers (map (λ e. e.in_number) (finished forward b.levels))
  pub fwd_outs : fo ≡ over c.lent.forward.out_numbers (map (λ e. e.out_number) (finished forward b.levels))
  pub bwd_starts : bs ≡ over c.lent.backward.starts (starts_of backward b.levels)
  pub bwd_ins : bi ≡ over c.lent.backward.in_numbers (map (λ e. e.in_number) (finished backward b.levels))
  pub bwd_outs : bo ≡ over c.lent.backward.out_numbers (map (λ e. e.out_number) (finished backward b.levels))
