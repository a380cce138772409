-- What the record program writes, record by record: whole lines, and for each byte read no more than 17.
use mathlib.Core.Path.{◌≡◌, refl, sym, ◌∙◌, ap, subst}
use mathlib.Core.Logic.{◌⊎◌, inl, inr}
use mathlib.Core.Bool.{true, ◌&&◌}
use mathlib.Core.List.Memᴰ
use mathlib.Core.List.{List, [], ◌∷◌, ◌++◌, append_assoc, append-nil}
use Prim.Native.Nat.{ℕ, zero, suc, ◌+◌, ◌*◌, ◌≤◌, ◌<◌}
use native.Mathlib.Omega.{arith}
use native.Mathlib.Decide.{dec_lt}
use lib.Dec.{eqb, ltb}
use lib.ListN.{length, get_or, drop, length-append, length-drop, get_or-eq_default}
use borrow.Author.Tests.{eqb-true, ltb-false, le-ltb, lt-ltb}
use Rattle.rules.specs.Numbers.{max_link_weight, program_nodes, program_links, max_input}
use Rattle.rules.specs.Lists.{In, flat_map}
use Rattle.rules.specs.Text.{bytes}
use Rattle.rules.specs.Columns.{Link, link_list, Hierarchy, begin}
use Rattle.rules.specs.TableRules.{used}
use Rattle.rules.specs.Refusals.{BuildCall, QueryCall, query_refusal}
use Rattle.rules.specs.Build.{build}
use Rattle.rules.specs.Query.{End, zip_ends, end_list, query}
use Rattle.rules.specs.Program.{word_built, word_route, word_none, word_refused, word_bad_record, word_too_long, decimal, line, refused_line, counts_line, built_line, route_line, bad_record, record_length, kind_of, whole, u16_at, u32_at, link_at, blank_table, program_call, query_call, Phase, waiting, gathering, answering, Next, goes_on, stops, misplaced, after_build, at_limit, answer_line, no_order_yet, act, at_end, follow, lines, program}
use Rattle.rules.proofs.Cases.{on_test}
use Rattle.rules.proofs.Members.{get_d_in, weight_in}
use Rattle.rules.proofs.Accepted.{accepted_build}
use Rattle.rules.proofs.FirstDemand.{first_demand}
use Rattle.rules.proofs.Prefixes.{flat_map_append}
use Rattle.walks.specs.Walks.{Walk, stay, step}
use Rattle.build_laws.proofs.Refused.{build_went}
use Rattle.query_laws.specs.LeastWalk.{AnsweredWalk}
use Rattle.query_laws.proofs.Accepted.{accepted}
use Rattle.routes.specs.Records as spec
use Rattle.routes.specs.Records.{AllBytes, Told, Line, Lines, Records}
use Rattle.rules.proofs.ProgramFuel.{whole_fits}
use Rattle.routes.proofs.Decimals.{decimal_says, decimal_few}
use Rattle.routes.proofs.Rooms.{call, weights_small, build_numbers, asked, answered, query_numbers}

-- Lines, one after the other.
no_lines : Lines []
unfolding flat_map
no_lines = record { lines = []; each = λ l m. absurd (Memᴰ.not-nil m); all = refl }

one_line : {l : List ℕ} → Line l → Lines l
unfolding flat_map
one_line {l} x = record { lines = l ∷ []; each = λ k m. rw (Memᴰ.eq_of_singleton m) x; all = sym (append-nil l) }

more_lines : {a b : List ℕ} → Lines a → Lines b → Lines (a ++ b)
more_lines x y =
    record {
      lines = x.lines ++ y.lines;
      each = λ l m. elim (Memᴰ.append_cases x.lines m) [ inl before ↦ x.each l before | inr after ↦ y.each l after ];
      all = (λ i. x.all i ++ y.all i) ∙ sym (flat_map_append (λ l. l) x.lines y.lines);
    }

-- whole lines of at most so many bytes
abbrev Short : ℕ → List ℕ → Type 0
Short most written = Lines written × (length written ≤ most)

abbrev nothing : {most : ℕ} → Short most []
nothing = (no_lines, omega arith)

-- The lines, each of its form.
as_line : {most : ℕ} (a b : List ℕ) → a ≡ b → Line b → length b ≤ most → Short most a
as_line {most} a b e l low = subst (Short most) (sym e) (one_line l, low)

refused_short : (r : ℕ) → Told r → Short 11 (refused_line r)
unfolding refused_line line word_refused bytes
refused_short r told =
    let digits = decimal_few 1 r (elim told [ inl a ↦ omega (arith, a.1) | inr x ↦ elim x [ inl a ↦ omega arith | inr a ↦ omega arith ] ]) in
    rw (append_assoc word_refused (decimal r) (0x0A ∷ [])) (one_line (spec.refused r told), omega (arith, length-append (decimal r) (0x0A ∷ [])))

bad_record_short : (at : ℕ) → at ≤ 16384 → Short 17 (bad_record at)
unfolding bad_record line word_bad_record bytes
bad_record_short at low =
    let digits = decimal_few 4 at (omega arith) in
    rw (append_assoc word_bad_record (decimal at) (0x0A ∷ [])) (one_line (spec.bad_record at low), omega (arith, length-append (decimal at) (0x0A ∷ [])))

built_short : (n : ℕ) (h : Hierarchy) → used n h.forward ≤ 496 → used n h.backward ≤ 496 → Short 14 (built_line n h)
unfolding built_line counts_line line word_built bytes
built_short n h fwd bwd =
    let f = decimal (used n h.forward) in
    let b = decimal (used n h.backward) in
    let fs = decimal_few 2 (used n h.forward) (omega arith) in
    let bs = decimal_few 2 (used n h.backward) (omega arith) in
    let whole_line : built_line n h ≡ bytes "built " ++ (f ++ (bytes " " ++ (b ++ bytes "\n"))) = simp append_assoc in
    as_line _ _ whole_line (spec.built (used n h.forward) (used n h.backward) fwd bwd)
    (omega (arith, length-append f (0x20 ∷ (b ++ (0x0A ∷ []))), length-append b (0x0A ∷ [])))

-- a node below 32 takes a blank and two digits
nodes_short : (vs : List ℕ) → ((u : ℕ) → In u vs → u < 32) → length (flat_map (λ u. bytes " " ++ decimal u) vs) ≤ 3 * length vs
unfolding flat_map bytes
nodes_short [] low = omega arith
nodes_short (v ∷ vs) low =
    let digits = decimal_few 1 v (omega (arith, low v (Memᴰ.head refl))) in
    omega (
      arith,
      length-append (decimal v) (flat_map (λ u. 0x20 ∷ decimal u) vs),
      nodes_short vs (λ u m. low u (Memᴰ.tail m)),
    )

route_short : (w v : ℕ) (vs : List ℕ) → w ≤ 31 * 4294967295 → length (v ∷ vs) ≤ 32 → ((u : ℕ) → In u (v ∷ vs) → u < 32) → Short 116 (route_line w (v ∷ vs))
unfolding route_line line word_route bytes
route_short w v vs light few low =
    let nodes = flat_map (λ u. 0x20 ∷ decimal u) (v ∷ vs) in
    let ds = decimal_few 11 w (omega arith) in
    let whole_line : route_line w (v ∷ vs) ≡ bytes "route " ++ (decimal w ++ (bytes ":" ++ (flat_map (λ u. bytes " " ++ decimal u) (v ∷ vs) ++ bytes "\n"))) = simp append_assoc in
    as_line _ _ whole_line (spec.route w v vs light few low)
    (omega (
      arith,
      length-append (decimal w) (0x3A ∷ (nodes ++ (0x0A ∷ []))),
      length-append nodes (0x0A ∷ []),
      nodes_short (v ∷ vs) low,
    ))

none_short : (w : ℕ) → Short 5 (route_line w [])
unfolding route_line line word_none bytes
none_short w = (one_line spec.none, omega arith)

-- What the program knows between records: weights are of 32 bits, and tables are those of its build.
data Sane : Phase → Type 0 where
  waits : Sane waiting
  gathers : {n : ℕ} {ls : List Link} {order : List ℕ} → ((l : Link) → In l ls → l.weight ≤ max_link_weight) → Sane (gathering n ls order)
  answers : (n : ℕ) (ls : List Link) (order : List ℕ) (limit : ℕ) → n ≤ 32 → ((l : Link) → In l ls → l.weight ≤ max_link_weight) →
      (build (program_call n ls order limit)).number ≡ 0 → Sane (answering n (build (program_call n ls order limit)).hierarchy)

byte_at : (bs : List ℕ) (i : ℕ) → AllBytes bs → get_or bs i 0 < 256
byte_at bs i each =
    elim (dec_lt i (length bs)) [
      | yes inside ↦ each (get_or bs i 0) (get_d_in bs i 0 inside)
      | no beyond ↦ omega (arith, get_or-eq_default bs 0 {n = i} (omega arith))
    ]

weight_small : (bs : List ℕ) → AllBytes bs → (link_at bs).weight ≤ max_link_weight
unfolding link_at u32_at u16_at
weight_small bs each = omega (arith, byte_at bs 7 each, byte_at bs 8 each, byte_at bs 9 each, byte_at bs 10 each)

one_more_small : (ls : List Link) (bs : List ℕ) → ((l : Link) → In l ls → l.weight ≤ max_link_weight) → AllBytes bs →
    (l : Link) → In l (ls ++ (link_at bs ∷ [])) → l.weight ≤ max_link_weight
one_more_small ls bs small each l m =
    elim (Memᴰ.append_cases ls m) [
      | inl before ↦ small l before
      | inr here ↦ rw (Memᴰ.eq_of_singleton here) (weight_small bs each)
    ]

-- The walk of an answer: its nodes, and what it weighs.
module _ (ls : List Link) (n : ℕ) (below : (l : Link) → In l ls → l.tail < n) (small : (l : Link) → In l ls → l.weight ≤ max_link_weight) where
  walk_below : {t u w : ℕ} {vs : List ℕ} → t < n → Walk ls t u w vs → (v : ℕ) → In v vs → v < n
  walk_below low stay v m = rw (Memᴰ.eq_of_singleton m) low
  walk_below low (step l rest) v m =
      elim (Memᴰ.cases_cons m) [
        | inl here ↦ rw here (below _ l)
        | inr later ↦ walk_below low rest v later
      ]

  walk_light : {t u w : ℕ} {vs : List ℕ} → Walk ls t u w vs → w + max_link_weight ≤ max_link_weight * length vs
  walk_light stay = omega arith
  walk_light (step l rest) = omega (arith, walk_light rest, small _ l)

walk_line : (w : ℕ) (vs : List ℕ) → w ≤ 31 * 4294967295 → length vs ≤ 32 → ((u : ℕ) → In u vs → u < 32) → Short 116 (route_line w vs)
walk_line w [] light few low = let x = none_short w in (x.0, omega (arith, x.1))
walk_line w (v ∷ vs) light few low = route_short w v vs light few low

-- An answer on tables of the program's own.
module _ (n : ℕ) (ls : List Link) (order : List ℕ) (limit : ℕ) (few : n ≤ 32) (small : (l : Link) → In l ls → l.weight ≤ max_link_weight)
    (done : (build (program_call n ls order limit)).number ≡ 0) (s t : ℕ) where
  abbrev the_call : BuildCall
  the_call = call n ls order limit few small

  abbrev the_query : QueryCall
  the_query = asked n ls order limit few small done s t

  light : (l : Link) → In l (link_list the_call.links) → l.weight ≤ max_link_weight
  unfolding link_list
  light l m = weights_small n ls order limit few small l.weight (weight_in _ _ _ l m)

  -- an end's offset is 0
  at_zero : (v u o : ℕ) → In (record { node = u; offset = o }) (end_list (record { nodes = v ∷ []; offsets = 0 ∷ [] })) → o ≡ 0
  unfolding end_list zip_ends
  at_zero v u o m = ap (λ (e : End). e.offset) (Memᴰ.eq_of_singleton m)

  walk_short : query_refusal the_query ≡ 0 → AnsweredWalk (link_list the_call.links) the_query → Short 116 (route_line (query the_query).weight (query the_query).walk)
  unfolding query_call program_call
  walk_short fine a =
      let r = a.least_walk in
      let ok = accepted_build the_call (build_went the_call (weights_small n ls order limit few small) done).accepted in
      let target_below = ((accepted the_query fine).targets.each (record { node = r.target; offset = r.to }) r.to_least.0.0).node_below in
      let heavy = walk_light (link_list the_call.links) n (λ l m. (ok.below l m).0) light r.is_walk in
      let low = walk_below (link_list the_call.links) n (λ l m. (ok.below l m).0) light target_below r.is_walk in
      walk_line (query the_query).weight (query the_query).walk
      (omega (arith, heavy, r.makes, a.fits, at_zero s r.source r.from r.from_least.0.0, at_zero t r.target r.to r.to_least.0.0))
      (omega (arith, a.fits))
      (λ u m. omega (arith, low u m))

  answer_short : Short 116 (answer_line (query the_query))
  unfolding answer_line
  answer_short =
      elim (answered n ls order limit few small done s t) [
        | inr amiss ↦ rw (amiss, answer_line) (let x = refused_short 22 (inr (inr refl)) in (x.0, omega (arith, x.1)))
        | inl fine ↦
            elim fine.1 [
              | inl none ↦ rw (none.number, answer_line, none.walk) (let x = none_short (query the_query).weight in (x.0, omega (arith, x.1)))
              | inr found ↦ rw (found.number, answer_line) (walk_short fine.0 found)
            ]
      ]

  built_line_short : Short 14 (built_line n (build the_call).hierarchy)
  unfolding used begin program_call blank_table
  built_line_short =
      let beyond = first_demand.beyond the_call done in
      built_short n (build the_call).hierarchy beyond.forward.bases.room beyond.backward.bases.room

-- What a record does: it writes at most 17 bytes for each of its own.
abbrev Acts : ℕ → Next → Type 0
Acts n (goes_on written p) = Short (17 * n) written × Sane p
Acts n (stops written) = Short (17 * n) written
Acts n misplaced = Unit {0}

shorter : {a b : ℕ} {written : List ℕ} → a ≤ b → Short a written → Short b written
shorter low x = (x.0, omega (arith, x.1))

-- at record 4
limit_acts : (n : ℕ) (ls : List Link) (order : List ℕ) (limit : ℕ) → ((l : Link) → In l ls → l.weight ≤ max_link_weight) → Acts 7 (at_limit n ls order limit)
unfolding at_limit after_build
limit_acts n ls order limit small =
    on_test (ltb program_nodes n)
    (λ t. rw (t, at_limit) (shorter (omega arith) (refused_short 1 (inl (omega arith)))))
    (λ t.
    rw (t, at_limit)
    (on_test (ltb program_links (length ls))
    (λ u. rw u (shorter (omega arith) (refused_short 2 (inl (omega arith)))))
    (λ u. rw u (after (ltb-false program_nodes n t) (build (program_call n ls order limit)).number refl))))
  where
    after : n ≤ 32 → (r : ℕ) → (build (program_call n ls order limit)).number ≡ r → Acts 7 (after_build n (build (program_call n ls order limit)))
    after few zero e = rw (e, after_build) (shorter (omega arith) (built_line_short n ls order limit few small e 0 0), answers n ls order limit few small e)
    after few (suc r) e =
        rw (e, after_build)
        (shorter (omega arith)
        (refused_short (suc r)
        (elim (build_numbers n ls order limit few small (suc r) e) [ inl low ↦ inl (omega arith, low) | inr twelve ↦ inr (inl twelve) ])))

-- a record of kind 4 or 5 has seven bytes
seven : (bs : List ℕ) → (eqb (kind_of bs) 4 ≡ true) ⊎ (eqb (kind_of bs) 5 ≡ true) → record_length (kind_of bs) ≡ 7
unfolding record_length
seven bs (inl t) = ap record_length (eqb-true (kind_of bs) 4 t)
seven bs (inr t) = ap record_length (eqb-true (kind_of bs) 5 t)

act_acts : (p : Phase) (bs : List ℕ) → Sane p → AllBytes bs → Acts (record_length (kind_of bs)) (act p bs)
unfolding act
act_acts waiting bs waits each =
    on_test (eqb (kind_of bs) 1)
    (λ t. rw (t, act) (nothing, gathers (λ l m. absurd (Memᴰ.not-nil m))))
    (λ t. rw (t, act) tt)
act_acts (gathering n ls order) bs (gathers small) each =
    on_test (eqb (kind_of bs) 2 && no_order_yet order)
    (λ t. rw (t, act) (nothing, gathers (one_more_small ls bs small each)))
    (λ t.
    rw (t, act)
    (on_test (eqb (kind_of bs) 3)
    (λ u. rw u (nothing, gathers small))
    (λ u.
    rw u
    (on_test (eqb (kind_of bs) 4)
    (λ w. rw (w, seven bs (inl w)) (limit_acts n ls order (u32_at bs 3) small))
    (λ w. rw w tt)))))
act_acts (answering n h) bs (answers _ ls order limit few small done) each =
    on_test (eqb (kind_of bs) 5)
    (λ t.
    rw (t, act, seven bs (inr t)) (
      shorter (omega arith) (answer_short n ls order limit few small done (u16_at bs 3) (u16_at bs 5)),
      answers n ls order limit few small done,
    ))
    (λ t. rw (t, act) tt)

end_short : (p : Phase) (at : ℕ) → at ≤ 16384 → Short 17 (at_end p at)
unfolding at_end
end_short waiting at low = bad_record_short at low
end_short (gathering n ls order) at low = bad_record_short at low
end_short (answering n h) at low = nothing

follow_short : (k rest : ℕ) (x : Next) (at : ℕ) (f : Phase → List ℕ) → at ≤ 16384 → Acts k x → ((p : Phase) → Sane p → Short (17 * rest + 17) (f p)) →
    Short (17 * (k + rest) + 17) (follow x at f)
unfolding follow
follow_short k rest (goes_on written p) at f low acts goes =
    let a = acts.0 in
    let b = goes p acts.1 in
    (more_lines a.0 b.0, omega (arith, length-append written (f p), a.1, b.1))
follow_short k rest (stops written) at f low acts goes = shorter (omega arith) acts
follow_short k rest misplaced at f low acts goes = shorter (omega arith) (bad_record_short at low)

in_drop : {A : Type 0} (k : ℕ) (xs : List A) (x : A) → In x (drop k xs) → In x xs
in_drop zero xs x m = m
in_drop (suc k) [] x m = m
in_drop (suc k) (y ∷ xs) x m = Memᴰ.tail (in_drop k xs x m)

lines_short : (fuel at : ℕ) (p : Phase) (bs : List ℕ) → at + length bs ≤ 16384 → Sane p → AllBytes bs → Short (17 * length bs + 17) (lines fuel at p bs)
unfolding lines
lines_short zero at p bs low sane each = shorter (omega arith) (end_short p at (omega arith))
lines_short (suc fuel) at p [] low sane each = shorter (omega arith) (end_short p at (omega arith))
lines_short (suc fuel) at p (b ∷ bs) low sane each =
    on_test (whole (b ∷ bs))
    (λ t.
    let n = record_length (kind_of (b ∷ bs)) in
    let fits = whole_fits (b ∷ bs) t in
    let left = length-drop n (b ∷ bs) in
    rw (t, lines)
    (shorter {a = 17 * (n + length (drop n (b ∷ bs))) + 17} (omega arith)
    (follow_short n (length (drop n (b ∷ bs))) (act p (b ∷ bs)) at _ (omega arith) (act_acts p (b ∷ bs) sane each)
    (λ q fine. lines_short fuel (at + n) q (drop n (b ∷ bs)) (omega arith) fine (λ x m. each x (in_drop n (b ∷ bs) x m))))))
    (λ t. rw (t, lines) (shorter (omega arith) (bad_record_short at (omega arith))))

pub program_short : (input : List ℕ) → AllBytes input → length input ≤ 16384 → Short (17 * length input + 17) (program input)
unfolding program
program_short input each low = rw (le-ltb max_input (length input) low, program) (lines_short (length input) 0 waiting input (omega arith) waits each)

pub too_long : (input : List ℕ) → 16384 < length input → program input ≡ bytes "too long\n"
unfolding program line word_too_long bytes
too_long input high = rw (lt-ltb max_input (length input) high, program)

nine : length (bytes "too long\n") ≤ 17 * 16385
unfolding bytes
nine = omega arith

pub records : Records
records =
    record {
      decimals = decimal_says;
      builds = λ n ls order limit r few small low high e. elim (build_numbers n ls order limit few small r e) [ inl x ↦ omega arith | inr x ↦ omega arith ];
      queries = λ n ls order limit s t few small done. query_numbers n ls order limit few small done s t;
      whole_lines = λ input each low. (program_short input each low).0;
      too_long = too_long;
      output_bound =
          λ input each.
          elim (dec_lt 16384 (length input)) [
            | yes high ↦ rw (too_long input high) nine
            | no low ↦ omega (arith, (program_short input each (omega arith)).1)
          ];
    }
