-- The program's own call of a build: what is lent is its room, to the place.
use mathlib.Core.List.{List, [], ◌∷◌}
use mathlib.Core.Path.{◌≡◌, refl, sym, ap, ◌∙◌, subst}
use Prim.Native.Nat.{ℕ, ◌*◌, ◌≤◌}
use native.Mathlib.Omega.{arith}
use lib.ListN.{length, replicate}
use Rattle.rules.specs.Numbers.{program_nodes}
use Rattle.rules.specs.Columns.{Hierarchy}
use Rattle.rules.specs.Refusals.{BuildCall, build_scratch}
use Rattle.rules.specs.Build.{build}
use Rattle.rules.specs.FirstDemand.{BeyondAll}
use Rattle.rules.specs.Program.{blank_table, program_call}
use Rattle.rules.proofs.FirstDemand.{first_demand}
use Rattle.input_graph.specs.Given.{links}
use Rattle.contraction.specs.Ranks.{given, call}
use Rattle.fast_graph_builder.specs.Promises.{answer}
use Rattle.text.specs.Wrote.{Fits, Wrote}
use Rattle.gateway.specs.Answering.{Small, Closed, Limited, after}

-- tables of 33 starts and 496 entries
pub record Fitting (h : Hierarchy) : Type 0 where
  pub fwd_starts : length h.forward.starts ≡ 33
  pub bwd_starts : length h.backward.starts ≡ 33
  pub fwd_room : length h.forward.bases ≡ 496
  pub bwd_room : length h.backward.bases ≡ 496

small : (c : BuildCall) (number : ℕ) (h : Hierarchy) → answer number h ≡ build c → Fitting c.lent → c.nodes ≤ 32 → number ≡ 0 → Small c.nodes h
small c number h is room few none =
    let done : (build c).number ≡ 0 = sym (ap (λ b. b.number) is) ∙ none in
    let beyond = subst (λ k. BeyondAll c.nodes c.lent k) (sym (ap (λ b. b.hierarchy) is)) (first_demand.beyond c done) in
    record {
      few = few;
      fwd_starts = omega (arith, beyond.forward.starts.places, beyond.forward.starts.room);
      bwd_starts = omega (arith, beyond.backward.starts.places, beyond.backward.starts.room);
      fwd_most = omega (arith, beyond.forward.bases.room, room.fwd_room);
      bwd_most = omega (arith, beyond.backward.bases.room, room.bwd_room);
    }

abbrev blank : Hierarchy
blank = record { ranks = replicate program_nodes 0; forward = blank_table; backward = blank_table }

blank_fits : Fitting blank
unfolding blank_table
blank_fits = record { fwd_starts = refl; bwd_starts = refl; fwd_room = refl; bwd_room = refl }

module _ (input : List ℕ) (at n : ℕ) (tails heads weights order : List ℕ) (limit arcs arc_weights nodes labels heap : ℕ)
    (a : arcs ≡ 5952) (b : arc_weights ≡ 992) (c : nodes ≡ 4 * n) (d : labels ≡ 2 * n) (e : heap ≡ 1986) (number : ℕ) (h : Hierarchy) where
  abbrev lent_call : BuildCall
  lent_call = call (given n (links tails heads weights) order blank (arcs ∷ arc_weights ∷ nodes ∷ labels ∷ heap ∷ [])) limit 992

  module _ (is : answer number h ≡ build lent_call) where
    built : (l : Limited input at n tails heads weights order limit) → answer number h ≡ build (program_call n l.ls order limit)
    unfolding program_call build_scratch
    built l =
        is
        ∙ ap build
        (λ j. call (given n (links (l.links_in.tails_are j) (l.links_in.heads_are j) (l.links_in.weights_are j)) order blank (a j ∷ b j ∷ c j ∷ d j ∷ e j ∷ [])) limit 992)

    pub closed : Limited input at n tails heads weights order limit → Closed input at n number h
    closed l =
        record {
          short = l.short;
          small = small lent_call number h is blank_fits l.few;
          fits = subst (λ x. Fits 0 (after input at n x)) (sym (built l)) l.fits;
        }

    pub followed : {out out' : List ℕ} {r : ℕ} → Wrote out 0 (after input at n (answer number h)) r out' → (l : Limited input at n tails heads weights order limit) →
        Wrote out 0 (after input at n (build (program_call n l.ls order limit))) r out'
    followed {out} {out'} {r} w l = subst (λ x. Wrote out 0 (after input at n x) r out') (built l) w
