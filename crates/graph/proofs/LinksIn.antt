-- The first links, as arcs.
use mathlib.Core.List.{List, [], ◌∷◌, ◌++◌, map, map-append, cons-eq-cons}
use mathlib.Core.Path.{◌≡◌, sym, ap, ◌∙◌}
use Prim.Native.Nat.{ℕ, ◌+◌, ◌≤◌, ◌<◌}
use native.Mathlib.Numerals.{add-one}
use native.Mathlib.Omega.{arith}
use lib.ListN.{length, get_or, take, drop, length-map, length-take, length-drop}
use lib.Seq.{take-suc, take_all, drop-cons}
use Rattle.rules.specs.Numbers.{invalid}
use Rattle.rules.specs.Columns.{link_list}
use Rattle.rules.specs.Graph.{Arc}
use Rattle.rules.specs.Build.{link_arc, graph_of}
use Rattle.input_graph.specs.Given.{link, links, Even, Between}
use Rattle.std.specs.Prelude.{Result, Ok, Err}
use Rattle.rules.specs.declared.Refusal.{Refusal}
use Rattle.graph.specs.declared.preparation_graph.Pool.{Pool}
use Rattle.lists.specs.Memory.{Memory, arc}
use Rattle.graph.specs.Stands.{Stands}
use Rattle.graph.specs.Promises.{Addable, Answers, TookIn}
use Rattle.input_graph.proofs.Columns.{at, from_link, link_count}

module _ (ts hs ws : List ℕ) (even : Even ts hs ws) where
  abbrev pub so_far : ℕ → List Arc
  so_far i = map link_arc (take i (link_list (links ts hs ws)))

  link_at : (i : ℕ) → i < length ts → get_or (link_list (links ts hs ws)) i (link 0 0 0) ≡ at ts hs ws even i
  link_at i h =
      (cons-eq-cons.0 (sym (drop-cons (link_list (links ts hs ws)) i (link 0 0 0) (omega (arith, link_count ts hs ws even))) ∙ from_link ts hs ws even i h)).0

  pub one_more : (i : ℕ) → i < length ts → so_far i ++ (arc (get_or ts i 0) (get_or hs i 0) (get_or ws i 0) invalid ∷ []) ≡ so_far (i + 1)
  unfolding link_arc
  one_more i h =
      sym
      (ap (λ k. so_far k) (add-one i) ∙
      ap (map link_arc) (take-suc (link_list (links ts hs ws)) i (link 0 0 0) (omega (arith, link_count ts hs ws even))) ∙
      map-append link_arc (take i (link_list (links ts hs ws))) _ ∙
      ap (λ l. so_far i ++ (link_arc l ∷ [])) (link_at i h))

  pub all_links : (i : ℕ) → length ts ≤ i → so_far i ≡ graph_of (links ts hs ws)
  all_links i h = ap (map link_arc) (take_all i (link_list (links ts hs ws)) (omega (arith, link_count ts hs ws even)))

  pub no_longer : (i : ℕ) → length (so_far i) ≤ length (graph_of (links ts hs ws))
  no_longer i =
      omega (
        arith,
        length-map (take i (link_list (links ts hs ws))) link_arc,
        length-map (link_list (links ts hs ws)) link_arc,
        length-take i (link_list (links ts hs ws)),
      )

  -- a pool with a place for each link takes them all
  pub never_full : {pool : ℕ} → length ts ≤ pool → pool < length (graph_of (links ts hs ws)) → ⊥
  never_full enough more = omega (arith, length-map (link_list (links ts hs ws)) link_arc, link_count ts hs ws even)

-- A column of which the first i numbers were taken, and one more is.
pub taken : (s : List ℕ) (i : ℕ) {x : ℕ} {left rest : List ℕ} → left ≡ drop i s → left ≡ x ∷ rest
    → (i < length s) × (x ≡ get_or s i 0) × (rest ≡ drop (i + 1) s)
taken s i is more =
    let below : i < length s = omega (arith, ap length is, ap length more, length-drop i s) in
    let both = sym more ∙ is ∙ drop-cons s i 0 below in
    (below, (cons-eq-cons.0 both).0, rw (add-one i) (cons-eq-cons.0 both).1)

-- none is left
pub spent : (s : List ℕ) (i : ℕ) {left : List ℕ} → left ≡ drop i s → length left ≡ 0 → length s ≤ i
spent s i is none = omega (arith, ap length is, length-drop i s)

-- A walk over the links: the slices hold the first i of them.
module _ {n pool : ℕ} {m : Memory} {w : List ℕ} {state : Pool} (ts hs ws : List ℕ) (b : Between n ts hs ws) (i : ℕ)
    (stands : Stands n pool m w state (so_far ts hs ws b.even i)) where
  abbrev pub next_arc : Arc
  next_arc = arc (get_or ts i 0) (get_or hs i 0) (get_or ws i 0) invalid

  module _ {a : Arc} (a_is : a ≡ next_arc) (h : i < length ts) where
    pub next_addable : Addable n pool m w state a (so_far ts hs ws b.even i)
    next_addable = record { stands = stands; tail_in = rw a_is (b.tails i h); head_in = rw a_is (b.heads i h) }

    module _ {m' : Memory} {w' places : List ℕ} {r : Result Pool Refusal}
        (answers : Answers n pool m w m' w' places (so_far ts hs ws b.even i ++ (a ∷ [])) r) where
      one_came : so_far ts hs ws b.even i ++ (a ∷ []) ≡ so_far ts hs ws b.even (i + 1)
      one_came = rw a_is (one_more ts hs ws b.even i h)

      pub next_came : {next : Pool} → r ≡ Ok next → Stands n pool m' w' next (so_far ts hs ws b.even (i + 1))
      next_came {next} e = rw one_came at (answers.came next e).stands

      pub next_full : {e : Refusal} → r ≡ Err e → TookIn n pool m' w' (graph_of (links ts hs ws)) (Err e)
      next_full {e} is =
          let full = answers.full e is in
          record {
            came = λ next f. absurd (cc);
            full = λ e' f. let same : e' ≡ e = cc in rw same (full.0, omega (arith, full.1, ap length one_came, no_longer ts hs ws b.even (i + 1)));
          }

  pub all_came : length ts ≤ i → TookIn n pool m w (graph_of (links ts hs ws)) (Ok state)
  all_came h =
      record {
        came = λ next e. let same : state ≡ next = cc in rw (← same, ← (all_links ts hs ws b.even i h)) stands;
        full = λ r e. absurd (cc);
      }
