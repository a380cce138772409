-- Of every build that was not refused: its tables pass the table check, also cut to the used places, its ranks are the order's inverse, and no
-- neighbour stands twice among a node's entries.
use mathlib.Core.Path.{◌≡◌, refl, ◌∙◌, ap}
use mathlib.Core.Bool.{true}
use mathlib.Core.List.{List, [], ◌∷◌, map}
use Prim.Native.Nat.{ℕ, suc, ◌≤◌, ◌<◌}
use native.Mathlib.Omega.{arith}
use lib.ListN.{get_or}
use Rattle.rules.specs.Numbers.{max_link_weight}
use Rattle.rules.specs.Lists.{In, distinct}
use Rattle.rules.specs.Columns.{Hierarchy, Side, table, entry, rank, begin, places, entries}
use Rattle.rules.specs.TableRules.{TableRules}
use Rattle.rules.specs.Refusals.{BuildCall, first_met, check_rows, check_refusal}
use Rattle.rules.specs.Build.{Building, finish_contraction, build}
use Rattle.rules.proofs.TablesDecided.{tables_decided}
use Rattle.rules.proofs.Members.{get_d_in}
use Rattle.rules.proofs.Ranges.{places_differ}
use Rattle.rules.proofs.Accepted.{accepted_build}
use Rattle.rules.specs.Accepted.{AcceptedBuild}
use Rattle.walks.specs.Agreement.{cut}
use Rattle.walks.proofs.Cut.{cut_rules}
use Rattle.build_laws.proofs.Starts.{Contracted, contraction_went}
use Rattle.build_laws.proofs.BuiltTables.{rank_is, rank_at}
use Rattle.build_laws.proofs.Refused.{build_went, build_half}

rules_pass : (n : ℕ) (h : Hierarchy) → TableRules n h → check_refusal n h ≡ 0
unfolding check_refusal check_rows first_met
rules_pass n h rules = rw ((tables_decided n h).1 rules, first_met)

map_twice : {A B C : Type 0} (f : A → B) (g : B → C) (xs : List A) → map g (map f xs) ≡ map (λ x. g (f x)) xs
map_twice f g [] = refl
map_twice f g (x ∷ xs) = ap (λ ys. g (f x) ∷ ys) (map_twice f g xs)

-- What every build that answers 0 gives, whoever asks.
module _ (c : BuildCall) (small : (w : ℕ) → In w c.links.weights → w ≤ max_link_weight) (zero : (build c).number ≡ 0) where
  built : (ok : AcceptedBuild c) × (b : Building) × Contracted c ok small b × ((build c).hierarchy ≡ finish_contraction c b.levels)
  built =
      let w = build_went c small zero in
      let ok = accepted_build c w.accepted in
      (ok, w.building, contraction_went c ok small w.building w.contracts, w.tables)

  -- no query on its tables is refused with 20
  pub build_passes : check_refusal c.nodes (build c).hierarchy ≡ 0
  build_passes = rules_pass c.nodes (build c).hierarchy (build_half c small zero).rules

  pub cut_passes : check_refusal c.nodes (cut c.nodes (build c).hierarchy) ≡ 0
  cut_passes = rules_pass c.nodes (cut c.nodes (build c).hierarchy) (cut_rules c.nodes (build c).hierarchy (build_half c small zero).rules)

  pub ranks_inverse : (r : ℕ) → r < c.nodes → rank (build c).hierarchy (get_or c.order r 0) ≡ r
  ranks_inverse r h =
      let ok = built.0 in
      let b = built.1 in
      let done = built.2 in
      rw built.3
      (rank_is c ok small b done (get_or c.order r 0)
      (ok.order_below _ (get_d_in c.order r 0 (omega (arith, ok.order_length)))) ∙
      rank_at c ok small b done r h)

  pub no_neighbour_twice : (s : Side) (v : ℕ) → v < c.nodes → distinct (map (λ e. e.neighbour) (entries (build c).hierarchy s v)) ≡ true
  unfolding entries places
  no_neighbour_twice s v h =
      let tables = (build c).hierarchy in
      let rules = (build_half c small zero).rules in
      let r = rank tables v in
      rw (map_twice (entry (table tables s)) (λ e. e.neighbour) (places (table tables s) r))
      ((places_differ (λ e. (entry (table tables s) e).neighbour) (begin (table tables s) r) (begin (table tables s) (suc r))).1
      (rules.neighbours_differ s r (rules.ranks_below v h)))
