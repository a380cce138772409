-- What handing back leaves: the walk is counted into an empty part, then written over the front of the path.
use mathlib.Core.List.{List, [], ◌++◌}
use mathlib.Core.Path.{◌≡◌, refl, sym, ap, ◌∙◌}
use Prim.Native.Nat.{ℕ, ◌+◌, ◌^◌, ◌<◌, ◌≤◌, min}
use native.Mathlib.Omega.{arith}
use lib.ListN.{length, take, drop, length-take}
use lib.Seq.{take_all, take-append_seam}
use Rattle.rules.specs.Numbers.{no_weight}
use Rattle.rules.specs.Lists.{over}
use Rattle.rules.specs.Columns.{Hierarchy, Side}
use Rattle.rules.specs.Refusals.{QueryCall, query_refusal}
use Rattle.rules.specs.Query.{Answered, no_route, handed_back, query}
use Rattle.rules.proofs.Prefixes.{written_nowhere, written_over}
use Rattle.query_laws.proofs.Answers.{accepted_query, refused_query, handed_fits, handed_long}
use Rattle.unpacking.specs.Written.{Put}
use Rattle.paths.specs.Climbs.{Labelled, Ascent, Extracting}
use Rattle.query.specs.Answers.{Answer, answer, told, Tells, Hands, found, Handing}

front : (path w : List ℕ) → take (length w) (over path w) ≡ w
unfolding over
front path w = take-append_seam w (drop (length w) path)

-- A refusal, or "none": nothing is handed back.
pub tells_none : (c : QueryCall) (number : ℕ) (path : List ℕ) → path ≡ c.path → Tells (no_route c number) (answer number no_weight 0) path
unfolding no_route
tells_none c number path e = record { is = ap (λ p. told (answer number no_weight 0) p) e; count = refl }

-- the front part of the path
module _ (a : Answered) (r : Answer) (path : List ℕ) (t : Tells a r path) where
  pub part_long : r.count ≡ length (take r.count path)
  part_long = t.count ∙ sym (ap (λ b. length b.walk) t.is)

  pub hands : Hands a (take r.count path) r.number r.weight
  hands =
      record { walk = ap (λ b. b.walk) t.is; number_is = ap (λ b. b.number) t.is; weight_is = ap (λ b. b.weight) t.is }

-- a refusal before any work
pub tells_refused : (c : QueryCall) (r : ℕ) → r ≡ query_refusal c → (r ≡ 0 → ⊥) → Tells (query c) (answer r no_weight 0) c.path
tells_refused c r is some = rw (refused_query c r is some) (tells_none c r c.path refl)

pub tells_found : (c : QueryCall) (r : Answer) (path : List ℕ) → query_refusal c ≡ 0 → Tells (found c) r path → Tells (query c) r path
tells_found c r path fine t = rw (accepted_query c fine) t

module _ (c : QueryCall) (sum : ℕ) (w path : List ℕ) (e : c.path ≡ path) (k : ℕ) (part : List ℕ) (p : Put w 0 (length path + 1) k [] part) where
  -- the path comes back from the counting as it was
  comes_back : part ++ path ≡ c.path
  comes_back = rw (p.path_is, written_nowhere 0 (take (length path + 1) w)) (sym e)

  counted : k ≡ min (length path + 1) (length w)
  counted = p.count ∙ length-take (length path + 1) w

  as_long : length c.path ≡ length path
  as_long = ap length e

  pub too_long : length path < k → Tells (handed_back c sum w) (answer 25 no_weight 0) (part ++ path)
  too_long h = rw (handed_long c sum w (omega (arith, counted, as_long))) (tells_none c 25 (part ++ path) comes_back)

  module _ (fits : k ≤ length path) where
    is_long : k ≡ length w
    is_long = omega (arith, counted)

    pub tells_walk : (r : ℕ) (path' : List ℕ) → Put w 0 k r (part ++ path) path' → Tells (handed_back c sum w) (answer 0 sum r) path'
    tells_walk r path' q =
        let whole : take k w ≡ w = take_all k w (omega (arith, is_long)) in
        let long : r ≡ length w = q.count ∙ ap length whole in
        let is_path : path' ≡ over c.path w = q.path_is ∙ rw (whole, comes_back) (written_over c.path w (omega (arith, is_long, as_long))) in
        rw (handed_fits c sum w (omega (arith, is_long, as_long)), is_path, long)
        (record { is = ap (λ t. walked t) (front c.path w); count = refl })
      where
        walked : List ℕ → Answered
        walked t = record { number = 0; weight = sum; walk = t; path = over c.path w }

-- What the walk is read from, for any limit.
module _ {n : ℕ} {h : Hierarchy} {fl bl : List ℕ} {base v : ℕ} (p : Handing n h fl bl base v) where
  abbrev pub ascent : {s : Side} {labels : List ℕ} → Labelled n h s labels base → Ascent n h h s labels base v
  ascent l =
      record {
        tables = record { rules = p.rules; few = p.few; tails_are = λ s. refl; in_numbers_are = λ s. refl; out_numbers_are = λ s. refl };
        below = p.below;
        labelled = l;
      }

  pub extracting : (limit : ℕ) → limit < 2 ^ 64 → Extracting h fl bl base v limit
  extracting limit fits =
      record { n = n; h = h; fwd = ascent p.fwd; bwd = ascent p.bwd; fwd_room = p.fwd_room; bwd_room = p.bwd_room; fits = fits }
