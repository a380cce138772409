-- One pair: its rows, and what it leaves.
use mathlib.Core.List.{List, [], ◌∷◌, ◌++◌}
use mathlib.Core.Path.{◌≡◌, ap, ◌∙◌}
use Prim.Native.Nat.{ℕ, ◌+◌, ◌*◌, ◌-◌, ◌<◌, ◌≤◌}
use native.Mathlib.Omega.{arith}
use lib.ListN.{length, set, take, drop, length-take, length-drop}
use lib.Seq.{length-take-le, drop-drop}
use borrow.Author.Tests.{lt-ltb, le-ltb}
use Rattle.rules.specs.Numbers.{no_weight}
use Rattle.rules.specs.Columns.{Hierarchy}
use Rattle.rules.specs.Lists.{all}
use Rattle.rules.specs.Refusals.{QueryCall, first_met, check_rows, end_rows, ends_fit, offset_fits, query_refusal}
use Rattle.rules.specs.Query.{Answered, query}
use Rattle.rules.proofs.TablesDecided.{tables_decided}
use Rattle.query_laws.proofs.Accepted.{accepted}
use Rattle.path_calculator.specs.Searching.{Earlier}
use Rattle.query.specs.Answers.{Answer, answer, Tells, Routing, Routed}
use Rattle.query.proofs.Handing.{part_long, tells_refused, tells_found}
use Rattle.calc_paths.specs.Many.{Answers, own_places, pair_call}
use Rattle.calc_paths.specs.Filling.{columns_of, Checked, Pairing, Paired, Filling, Filled, put_answer}

-- labels of earlier pairs are of earlier pairs later too
pub earlier_still : {n base : ℕ} {fl bl : List ℕ} → Earlier n base fl bl → Earlier n (base + 2) fl bl
earlier_still e = record { fwd = λ v below. omega (arith, e.fwd v below); bwd = λ v below. omega (arith, e.bwd v below) }

module _ (n : ℕ) (h : Hierarchy) (s t : ℕ) (path scratch : List ℕ) (checked : Checked n h scratch) (places : length path ≡ n) where
  abbrev c : QueryCall
  c = pair_call n h s t path scratch

  refused_source : n ≤ s → 22 ≡ query_refusal c
  unfolding query_refusal check_rows end_rows first_met ends_fit all offset_fits
  refused_source high = rw (checked.tables, le-ltb s n high)

  refused_target : s < n → n ≤ t → 22 ≡ query_refusal c
  unfolding query_refusal check_rows end_rows first_met ends_fit all offset_fits
  refused_target low high = rw (checked.tables, lt-ltb s n low, le-ltb t n high)

  pub taken : s < n → t < n → query_refusal c ≡ 0
  unfolding query_refusal check_rows end_rows first_met ends_fit all offset_fits
  taken low low_t =
      rw (checked.tables, lt-ltb s n low, lt-ltb t n low_t, places, le-ltb n n (omega arith), checked.room)

  module _ {base : ℕ} {fl bl : List ℕ} (earlier : Earlier n base fl bl) where
    refused : 22 ≡ query_refusal c → Paired n h s t path scratch base (answer 22 no_weight 0) path fl bl
    refused e = record { tells = tells_refused c 22 e (λ z. omega arith); few = omega arith; earlier = earlier_still earlier }

    pub pair_source : n ≤ s → Paired n h s t path scratch base (answer 22 no_weight 0) path fl bl
    pair_source high = refused (refused_source high)

    pub pair_target : s < n → n ≤ t → Paired n h s t path scratch base (answer 22 no_weight 0) path fl bl
    pair_target low high = refused (refused_target low high)

  -- the walk is a part of the path
  walk_few : (a : Answered) (r : Answer) (path' : List ℕ) → Tells a r path' → length path' ≡ n → r.count ≤ n
  walk_few a r path' tells long = omega (arith, part_long a r path' tells, length-take r.count path')

  pub paired : {base : ℕ} {r : Answer} {path' fl bl : List ℕ} → s < n → t < n → length path' ≡ length path → Routed c r path' fl bl base →
      Paired n h s t path scratch base r path' fl bl
  paired {base} {r} {path'} low low_t long routed =
      let tells = tells_found c r path' (taken low low_t) routed.tells in
      record {
        tells = tells;
        few = walk_few (query c) r path' tells (long ∙ places);
        earlier = routed.earlier;
      }

-- a pair that is searched
pub routing : (n : ℕ) (h : Hierarchy) (s t : ℕ) (path fl bl fh bh : List ℕ) (base : ℕ) → Pairing n h path fl bl fh bh base → s < n → t < n →
    Routing (pair_call n h s t path (length fl ∷ length bl ∷ length fh ∷ length bh ∷ [])) fl bl base
routing n h s t path fl bl fh bh base p low low_t =
    record {
      accepted = accepted _ (taken n h s t path _ p.checked p.places low low_t);
      earlier = p.earlier;
      stamps = p.stamps;
    }

-- The places of pair k, cut out of the path column.
module _ (n k : ℕ) (ps : List ℕ) where
  abbrev cut : List ℕ
  cut = take (k * n + n - k * n) (drop (k * n) ps)

  cut_is : cut ≡ own_places n ps k
  unfolding own_places
  cut_is =
      let e : k * n + n - k * n ≡ n = omega arith in
      ap (λ j. take j (drop (k * n) ps)) e

  pub cut_long : k * n + n ≤ length ps → length cut ≡ n
  cut_long room = length-take-le (k * n + n - k * n) (drop (k * n) ps) (omega (arith, length-drop (k * n) ps)) ∙ omega arith

  rest_is : drop (k * n + n - k * n) (drop (k * n) ps) ≡ drop (k * n + n) ps
  rest_is =
      let e : k * n + n - k * n ≡ n = omega arith in
      ap (λ j. drop j (drop (k * n) ps)) e ∙ drop-drop n (k * n) ps

  -- the answer's numbers and its part of the path, put in their places
  put : (a : Answered) (r : Answer) (part ns ws ls : List ℕ) → Tells a r part →
      columns_of (set ns k r.number) (set ws k r.weight) (set ls k r.count) (take (k * n) ps ++ (part ++ drop (k * n + n) ps)) ≡
      put_answer n k a (columns_of ns ws ls ps)
  unfolding put_answer
  put a r part ns ws ls t i =
      columns_of (set ns k (t.is i).number) (set ws k (t.is i).weight) (set ls k (t.count i))
      (take (k * n) ps ++ ((t.is i).path ++ drop (k * n + n) ps))

  pub filled : (h : Hierarchy) (s t : ℕ) (ns ws ls scratch part : List ℕ) (r : Answer) (fl bl : List ℕ) →
      Paired n h s t cut scratch (2 * k + 1) r part fl bl →
      Filled n h s t k (columns_of ns ws ls ps) scratch
      (columns_of (set ns k r.number) (set ws k r.weight) (set ls k r.count) (take (k * n) ps ++ (part ++ drop (k * n + n - k * n) (drop (k * n) ps)))) fl bl
  filled h s t ns ws ls scratch part r fl bl p =
      record {
        is =
            ap (λ q. columns_of (set ns k r.number) (set ws k r.weight) (set ls k r.count) (take (k * n) ps ++ (part ++ q))) rest_is
            ∙ put (query (pair_call n h s t (own_places n ps k) scratch)) r part ns ws ls (rw cut_is at p.tells);
        earlier = record { fwd = λ v below. omega (arith, p.earlier.fwd v below); bwd = λ v below. omega (arith, p.earlier.bwd v below) };
      }

-- What pair k asks of the ranges of numbers.
module _ {n : ℕ} {h : Hierarchy} {sources targets : List ℕ} {k : ℕ} {lent : Answers} {fl bl fh bh : List ℕ}
    (f : Filling n h sources targets k lent fl bl fh bh) where
  pub few_nodes : n ≤ 1024
  few_nodes = ((tables_decided n h).0 f.checked.tables).nodes
