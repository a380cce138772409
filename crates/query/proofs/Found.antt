-- From a query that rows 20 to 24 let pass, through its search, to what it hands back.
use mathlib.Core.Bool.{false}
use mathlib.Core.List.{List, [], ◌∷◌}
use mathlib.Core.Logic.{inl, inr}
use mathlib.Core.Path.{◌≡◌, refl, ap}
use Prim.Native.Nat.{ℕ, ◌+◌, ◌*◌, ◌<◌, ◌≤◌}
use native.Mathlib.Omega.{arith}
use lib.Dec.{ltb}
use lib.ListN.{length}
use borrow.Author.Tests.{ltb-false, eq-eqb, ne_eqb}
use Rattle.rules.specs.Numbers.{max_ends, no_weight, invalid}
use Rattle.rules.specs.Columns.{Hierarchy, Side, forward, backward, table}
use Rattle.rules.specs.TableRules.{used}
use Rattle.rules.specs.Refusals.{QueryCall, short, query_scratch, query_refusal}
use Rattle.rules.specs.Query.{end_list, Best, Halves, searched, walk, query}
use Rattle.rules.proofs.Cases.{neither}
use Rattle.query_laws.specs.Accepted.{Accepted}
use Rattle.query_laws.specs.Sound.{Both}
use Rattle.query_laws.proofs.Accepted.{accepted, searched_both}
use Rattle.query_laws.proofs.Answers.{route_none, route_found}
use Rattle.halves.specs.Labels.{Before}
use Rattle.rounds.specs.Rounds.{halves}
use Rattle.path_calculator.specs.Searching.{call, Searching, Searched}
use Rattle.paths.specs.Climbs.{half_walk, Labelled}
use Rattle.query.specs.Answers.{Answer, answer, Tells, found, Handing, HandedBack, Routing, Routed}
use Rattle.query.proofs.Handing.{tells_none, tells_found}

-- no number of an entry is the mark, on either side
either_few : (n : ℕ) (h : Hierarchy) → used n h.forward ≤ invalid → used n h.backward ≤ invalid → (s : Side) → used n (table h s) ≤ invalid
unfolding table
either_few n h f b forward = f
either_few n h f b backward = b

-- what row 24 asks of scratch, by its lengths
module _ (n : ℕ) (h : Hierarchy) (kf kb jf jb : ℕ) where
  pub rooms : short (query_scratch n h) (kf ∷ kb ∷ jf ∷ jb ∷ []) ≡ false →
      (4 * n ≤ kf) × (4 * n ≤ kb) × (2 * (used n h.forward + max_ends) ≤ jf) × (2 * (used n h.backward + max_ends) ≤ jb)
  unfolding short query_scratch
  rooms fit =
      let f = neither (ltb kf (4 * n)) _ fit in
      let b = neither (ltb kb (4 * n)) _ f.1 in
      let p = neither (ltb jf (2 * (used n h.forward + max_ends))) _ b.1 in
      let q = neither (ltb jb (2 * (used n h.backward + max_ends))) _ p.1 in (
        ltb-false kf (4 * n) f.0,
        ltb-false kb (4 * n) b.0,
        ltb-false jf (2 * (used n h.forward + max_ends)) p.0,
        ltb-false jb (2 * (used n h.backward + max_ends)) q.0,
      )

-- Labels that are cleared first are as long as they were, so that the call is the same.
module _ (n : ℕ) (h : Hierarchy) (sources so targets to path : List ℕ) (kf kb jf jb : ℕ) where
  abbrev of_lengths : QueryCall
  of_lengths = call n h sources so targets to path (kf ∷ kb ∷ jf ∷ jb ∷ [])

  module _ (fine : query_refusal of_lengths ≡ 0) (kf' kb' : ℕ) (ef : kf' ≡ kf) (eb : kb' ≡ kb) where
    abbrev cleared : QueryCall
    cleared = call n h sources so targets to path (kf' ∷ kb' ∷ jf ∷ jb ∷ [])

    is_call : cleared ≡ of_lengths
    is_call i = call n h sources so targets to path (ef i ∷ eb i ∷ jf ∷ jb ∷ [])

    pub routing : {fl bl : List ℕ} → Before n 1 fl → Before n 1 bl → Routing cleared fl bl 1
    routing f b = record { accepted = rw is_call (accepted of_lengths fine); earlier = record { fwd = f; bwd = b }; stamps = omega arith }

    pub tells_routed : {x : Answer} {path' fl bl : List ℕ} → Routed cleared x path' fl bl 1 → Tells (query of_lengths) x path'
    tells_routed {x} {path'} t = tells_found of_lengths x path' fine (rw is_call at t.tells)

module _ (n : ℕ) (h : Hierarchy) (sources so targets to path fl bl fh bh : List ℕ) where
  abbrev c : QueryCall
  c = call n h sources so targets to path (length fl ∷ length bl ∷ length fh ∷ length bh ∷ [])

  module _ (base : ℕ) (r : Routing c fl bl base) where
    abbrev a : Accepted c
    a = r.accepted

    pub searching : Searching n h sources so targets to fl bl fh bh base
    unfolding table
    searching =
        let room = rooms n h (length fl) (length bl) (length fh) (length bh) a.scratch_room in
        record {
          path = path;
          scratch = c.scratch;
          accepted = a;
          fwd_labels = room.0;
          bwd_labels = room.1;
          fwd_heap = room.2;
          bwd_heap = room.3;
          earlier = r.earlier;
          stamps = r.stamps;
        }

    module _ (fl' bl' fh' bh' : List ℕ) (best : Best) (s : Searched n h sources so targets to fl bl fh bh base fl' bl' fh' bh' best) where
      abbrev q : Halves
      q = halves n base fl' bl' fh' bh' 0 0 best

      is_searched : searched c ≡ q
      is_searched = s.is searching path c.scratch

      both : Both n h (end_list c.sources) (end_list c.targets) q
      both = rw is_searched at (searched_both c a)

      fwd : Labelled n h forward fl' base
      fwd = record { heap = fh'; len = 0; es = end_list c.sources; floor = both.fwd_floor; b = best.sum; sound = both.fwd }

      bwd : Labelled n h backward bl' base
      bwd = record { heap = bh'; len = 0; es = end_list c.targets; floor = both.bwd_floor; b = best.sum; sound = both.bwd }

      routed : (x : Answer) (path' : List ℕ) → Tells (found c) x path' → Routed c x path' fl' bl' base
      routed x path' t = record { tells = t; earlier = s.earlier }

      pub none_found : best.node ≡ invalid → Routed c (answer 0 no_weight 0) path fl' bl' base
      none_found e =
          routed (answer 0 no_weight 0) path
          (rw (is_searched, route_none c q (eq-eqb best.node invalid e)) (tells_none c 0 path refl))

      module _ (some : best.node ≡ invalid → ⊥) where
        below : best.node < n
        below = elim both.meets.real [ inl none ↦ absurd (some (ap (λ b. b.node) none)) | inr met ↦ met.node_below ]

        pub handing : length fl' ≡ length fl → length bl' ≡ length bl →
            Handing n h fl' bl' base best.node
        handing f b =
            record {
              rules = a.rules;
              few = either_few n h s.few_fwd s.few_bwd;
              below = below;
              fwd_room = omega (arith, searching.fwd_labels, f);
              bwd_room = omega (arith, searching.bwd_labels, b);
              fwd = fwd;
              bwd = bwd;
            }

        pub walk_found : (x : Answer) (path' : List ℕ) → HandedBack n h fl' bl' base best.node best.sum x path path' → Routed c x path' fl' bl' base
        unfolding walk half_walk fwd bwd
        walk_found x path' handed =
            routed x path' (rw (is_searched, route_found c q (ne_eqb best.node invalid some)) (handed.tells fwd bwd c refl))
