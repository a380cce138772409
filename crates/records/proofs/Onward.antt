-- Record by record: what the program does at an offset, by the kind that stands there.
use mathlib.Core.Bool.{Bool, true, false, ◌&&◌}
use mathlib.Core.List.{List, [], ◌∷◌, ◌++◌}
use mathlib.Core.Path.{◌≡◌, refl, sym, ap, ◌∙◌, fun_ext}
use Prim.Native.Nat.{ℕ, zero, suc, ◌+◌, ◌-◌, ◌≤◌, ◌<◌}
use native.Mathlib.Omega.{arith}
use native.Mathlib.Nat.{add-zero, add-suc}
use lib.Dec.{eqb}
use lib.ListN.{length, get_or, drop, length-drop, drop_of_length-le}
use lib.Seq.{get_or-drop, drop-drop}
use borrow.Author.Tests.{eqb-true, eqb-false, eq-eqb, ne_eqb, le-ltb}
use Rattle.rules.specs.Numbers.{max_input}
use Rattle.rules.specs.Columns.{Link, Hierarchy}
use Rattle.rules.specs.Query.{query}
use Rattle.rules.specs.Program.{record_length, kind_of, whole, u16_at, u32_at, link_at, query_call, Phase, waiting, gathering, answering, goes_on, misplaced, at_limit, answer_line, no_order_yet, act, at_end, bad_record, follow, lines, program}
use Rattle.rules.proofs.Cases.{on_test}
use Rattle.rules.proofs.ProgramFuel.{whole_takes, whole_fits, lines_enough}
use Rattle.records.specs.Kinds.{whole_kind}
use Rattle.records.specs.Onward.{onward, link_from}

-- more fuel than bytes changes nothing
fuel_down : (j at : ℕ) (p : Phase) (bs : List ℕ) → lines (length bs + j) at p bs ≡ lines (length bs) at p bs
fuel_down zero at p bs = ap (λ (k : ℕ). lines k at p bs) (add-zero (length bs))
fuel_down (suc j) at p bs =
    ap (λ (k : ℕ). lines k at p bs) (add-suc (length bs) j) ∙ sym (lines_enough (length bs + j) at p bs (omega arith)) ∙ fuel_down j at p bs

enough : (k at : ℕ) (p : Phase) (bs : List ℕ) → length bs ≤ k → lines k at p bs ≡ lines (length bs) at p bs
enough k at p bs h =
    let more : k ≡ length bs + (k - length bs) = omega arith in
    ap (λ (j : ℕ). lines j at p bs) more ∙ fuel_down (k - length bs) at p bs

-- a whole record, and what is left after it
taken : (at : ℕ) (p : Phase) (bs : List ℕ) → whole bs ≡ true →
    lines (length bs) at p bs ≡ follow (act p bs) at (λ q. lines (length (drop (record_length (kind_of bs)) bs)) (at + record_length (kind_of bs)) q (drop (record_length (kind_of bs)) bs))
unfolding lines
taken at p [] t = absurd (omega (arith, whole_takes [] t, whole_fits [] t))
taken at p (b ∷ bs) t =
    let n = record_length (kind_of (b ∷ bs)) in
    rw (t, lines)
    (ap (follow (act p (b ∷ bs)) at)
    (fun_ext (λ q. enough (length bs) (at + n) q (drop n (b ∷ bs)) (omega (arith, length-drop n (b ∷ bs), whole_takes (b ∷ bs) t)))))

-- none stands there whole: before the build that is a bad record, and after it unless the input ends
left : (at : ℕ) (p : Phase) (bs : List ℕ) → whole bs ≡ false → at_end p at ≡ bad_record at → lines (length bs) at p bs ≡ bad_record at
unfolding lines
left at p [] f e = e
left at p (b ∷ bs) f e = rw (f, lines)

left_over : (at : ℕ) (p : Phase) (bs : List ℕ) → whole bs ≡ false → 1 ≤ length bs → lines (length bs) at p bs ≡ bad_record at
unfolding lines
left_over at p [] f some = absurd (omega arith)
left_over at p (b ∷ bs) f some = rw (f, lines)

-- What each kind does between the first record and the build, and after it.
module _ (bs : List ℕ) (n : ℕ) (ls : List Link) (os : List ℕ) where
  abbrev takes_link : Bool
  takes_link = eqb (kind_of bs) 2 && no_order_yet os

  other_kind : (kind_of bs ≡ 2 → ⊥) → takes_link ≡ false
  other_kind other = rw (ne_eqb (kind_of bs) 2 other)

  after_order : (l : List ℕ) → (kind_of bs ≡ 2 → length l ≡ 0 → ⊥) → (eqb (kind_of bs) 2 && no_order_yet l) ≡ false
  unfolding no_order_yet
  after_order [] never = rw (ne_eqb (kind_of bs) 2 (λ e. never e refl))
  after_order (x ∷ l) never = on_test (eqb (kind_of bs) 2) (λ t. rw t) (λ f. rw f)

  act_order : kind_of bs ≡ 3 → act (gathering n ls os) bs ≡ goes_on [] (gathering n ls (os ++ (u16_at bs 3 ∷ [])))
  unfolding act
  act_order e = rw (other_kind (λ z. omega (arith, e, z)), act) (rw (eq-eqb (kind_of bs) 3 e))

  act_limit : kind_of bs ≡ 4 → act (gathering n ls os) bs ≡ at_limit n ls os (u32_at bs 3)
  unfolding act
  act_limit e =
      rw (other_kind (λ z. omega (arith, e, z)), act)
      (rw (ne_eqb (kind_of bs) 3 (λ z. omega (arith, e, z))) (rw (eq-eqb (kind_of bs) 4 e)))

  act_none : (kind_of bs ≡ 2 → length os ≡ 0 → ⊥) → (kind_of bs ≡ 3 → ⊥) → (kind_of bs ≡ 4 → ⊥) → act (gathering n ls os) bs ≡ misplaced
  unfolding act
  act_none two three four =
      rw (after_order os two, act) (rw (ne_eqb (kind_of bs) 3 three) (rw (ne_eqb (kind_of bs) 4 four)))

act_query : (bs : List ℕ) (n : ℕ) (h : Hierarchy) → kind_of bs ≡ 5 → act (answering n h) bs ≡ goes_on (answer_line (query (query_call n h (u16_at bs 3) (u16_at bs 5)))) (answering n h)
unfolding act
act_query bs n h e = rw (e, act)

no_length_of_none : record_length 0 ≡ 0
unfolding record_length
no_length_of_none = refl

module _ (input : List ℕ) (at k : ℕ) (here : k ≡ whole_kind (drop at input)) where
  abbrev bs : List ℕ
  bs = drop at input

  -- what the kind says
  wrong : k ≡ 0 → whole bs ≡ false
  unfolding whole_kind record_length
  wrong e =
      on_test (whole bs)
      (λ t.
      let kind : kind_of bs ≡ 0 = sym (rw (t, whole_kind) at here) ∙ e in
      absurd (omega (arith, whole_takes bs t, ap record_length kind)))
      (λ f. f)

  right : (k ≡ 0 → ⊥) → (whole bs ≡ true) × (kind_of bs ≡ k)
  unfolding whole_kind
  right some =
      on_test (whole bs)
      (λ t. (t, sym (rw (t, whole_kind) at here)))
      (λ f. absurd (some (rw (f, whole_kind) at here)))

  step : (p : Phase) → (k ≡ 0 → ⊥) → onward input at p ≡ follow (act p bs) at (λ q. onward input (at + record_length k) q)
  unfolding onward
  step p some =
      let r = right some in
      taken at p bs r.0
      ∙ ap (follow (act p bs) at)
      (fun_ext (λ q. rw (r.1, drop-drop (record_length k) at input)))

  u16_here : (i : ℕ) → u16_at bs i ≡ u16_at input (at + i)
  unfolding u16_at
  u16_here i = omega (arith, get_or-drop at input i 0, get_or-drop at input (suc i) 0, ap (λ (j : ℕ). get_or input j 0) (add-suc at i))

  u32_here : (i : ℕ) → u32_at bs i ≡ u32_at input (at + i)
  unfolding u32_at
  u32_here i =
      let two : at + suc (suc i) ≡ suc (suc (at + i)) = omega arith in
      omega (arith, u16_here i, u16_here (suc (suc i)), ap (u16_at input) two)

  link_here : link_at bs ≡ link_from input at
  unfolding link_at
  link_here = λ j. record { tail = u16_here 3 j; head = u16_here 5 j; weight = u32_here 7 j }

  -- a whole record lies within the input
  pub whole_within : (n : ℕ) → record_length k ≡ suc n → at + suc n ≤ length input
  whole_within n long =
      let some : k ≡ 0 → ⊥ = λ z. zero_length z long in
      let r = right some in
      omega (arith, whole_takes bs r.0, whole_fits bs r.0, ap record_length r.1, long, length-drop at input)
    where
      zero_length : k ≡ 0 → record_length k ≡ suc n → ⊥
      zero_length z long = omega (arith, no_length_of_none, ap record_length z, long)

  -- the first record
  pub first_record : k ≡ 1 → onward input at waiting ≡ onward input (at + 5) (gathering (u16_at input (at + 3)) [] [])
  unfolding act follow record_length
  first_record e =
      step waiting (λ z. omega (arith, e, z))
      ∙ rw ((right (λ z. omega (arith, e, z))).1, act, e, follow, u16_here 3)

  pub no_first : (k ≡ 1 → ⊥) → onward input at waiting ≡ bad_record at
  unfolding onward act follow at_end
  no_first other =
      on_test (eqb k 0)
      (λ t. left at waiting bs (wrong (eqb-true k 0 t)) refl)
      (λ f.
      let some = eqb-false k 0 f in
      step waiting some ∙ rw ((right some).1, ne_eqb k 1 other, act, follow))

  module _ (n : ℕ) (ls : List Link) where
    pub link_record : k ≡ 2 → onward input at (gathering n ls []) ≡ onward input (at + 11) (gathering n (ls ++ (link_from input at ∷ [])) [])
    unfolding act follow record_length no_order_yet
    link_record e =
        step (gathering n ls []) (λ z. omega (arith, e, z))
        ∙ rw ((right (λ z. omega (arith, e, z))).1, act, e, follow, link_here)

    pub order_record : (os : List ℕ) → k ≡ 3 → onward input at (gathering n ls os) ≡ onward input (at + 5) (gathering n ls (os ++ (u16_at input (at + 3) ∷ [])))
    unfolding follow record_length
    order_record os e =
        let some : k ≡ 0 → ⊥ = λ z. omega (arith, e, z) in
        step (gathering n ls os) some
        ∙ rw (act_order bs n ls os ((right some).1 ∙ e), follow, e)
        (ap (λ (v : ℕ). onward input (at + 5) (gathering n ls (os ++ (v ∷ [])))) (u16_here 3))

    pub limit_record : (os : List ℕ) → k ≡ 4 → onward input at (gathering n ls os) ≡ follow (at_limit n ls os (u32_at input (at + 3))) at (λ q. onward input (at + 7) q)
    unfolding record_length
    limit_record os e =
        let some : k ≡ 0 → ⊥ = λ z. omega (arith, e, z) in
        step (gathering n ls os) some
        ∙ rw (act_limit bs n ls os ((right some).1 ∙ e), e)
        (ap (λ (w : ℕ). follow (at_limit n ls os w) at (λ q. onward input (at + 7) q)) (u32_here 3))

    -- no record that may come here
    pub no_gathering : (os : List ℕ) → (k ≡ 2 → length os ≡ 0 → ⊥) → (k ≡ 3 → ⊥) → (k ≡ 4 → ⊥) → onward input at (gathering n ls os) ≡ bad_record at
    unfolding onward follow at_end
    no_gathering os two three four =
        on_test (eqb k 0)
        (λ t. left at (gathering n ls os) bs (wrong (eqb-true k 0 t)) refl)
        (λ f.
        let some = eqb-false k 0 f in
        let kind = (right some).1 in
        step (gathering n ls os) some
        ∙ rw (act_none bs n ls os (λ e. two (sym kind ∙ e)) (λ e. three (sym kind ∙ e)) (λ e. four (sym kind ∙ e)), follow))

  module _ (n : ℕ) (h : Hierarchy) where
    pub query_record : k ≡ 5 →
        onward input at (answering n h) ≡ answer_line (query (query_call n h (u16_at input (at + 3)) (u16_at input (at + 5)))) ++ onward input (at + 7) (answering n h)
    unfolding follow record_length
    query_record e =
        let some : k ≡ 0 → ⊥ = λ z. omega (arith, e, z) in
        step (answering n h) some
        ∙ rw (act_query bs n h ((right some).1 ∙ e), follow, e)
        (ap (λ (s : ℕ). answer_line (query (query_call n h s (u16_at bs 5))) ++ onward input (at + 7) (answering n h)) (u16_here 3)
        ∙ ap (λ (t : ℕ). answer_line (query (query_call n h (u16_at input (at + 3)) t)) ++ onward input (at + 7) (answering n h)) (u16_here 5))

    pub no_query : (k ≡ 5 → ⊥) → at < length input → onward input at (answering n h) ≡ bad_record at
    unfolding onward act follow
    no_query other inside =
        on_test (eqb k 0)
        (λ t. left_over at (answering n h) bs (wrong (eqb-true k 0 t)) (omega (arith, length-drop at input)))
        (λ f.
        let some = eqb-false k 0 f in
        step (answering n h) some ∙ rw ((right some).1, ne_eqb k 5 other, act, follow))

-- at the end of the input after the build
pub at_the_end : (input : List ℕ) (at n : ℕ) (h : Hierarchy) → length input ≤ at → onward input at (answering n h) ≡ []
unfolding onward at_end lines
at_the_end input at n h past = rw (drop_of_length-le input {i = at} past)

-- from the start
pub from_start : (input : List ℕ) → length input ≤ max_input → program input ≡ onward input 0 waiting
unfolding program onward
from_start input low = rw (le-ltb max_input (length input) low, program)
