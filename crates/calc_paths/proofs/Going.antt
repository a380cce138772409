-- Pair after pair: what the first so many leave.
use mathlib.Core.List.{List, [], ◌∷◌, ◌++◌, map, map-append, append_assoc, append-nil}
use mathlib.Core.Path.{◌≡◌, refl, sym, ap, ◌∙◌}
use Prim.Native.Nat.{ℕ, zero, suc, ◌+◌, ◌*◌, ◌-◌, ◌<◌, ◌≤◌}
use native.Mathlib.Nat.{add-mul, one-mul, mul-le-mul_right}
use native.Mathlib.Omega.{arith}
use lib.ListN.{length, get_or, set, take, drop, length-map, length-append, length-drop}
use lib.Seq.{take_at, drop_at, drop-drop, drop-append-add, length-take-le}
use Rattle.rules.specs.Lists.{count_from, range, over, flat_map}
use Rattle.rules.specs.Columns.{Hierarchy}
use Rattle.rules.specs.Query.{Answered, query}
use Rattle.rules.proofs.Prefixes.{counted_length, flat_map_append, over_next}
use Rattle.path_calculator.specs.Searching.{Earlier}
use Rattle.calc_paths.specs.Many.{Answers, PathsCall, own_places, pair_call, single, answers_of, answers}
use Rattle.calc_paths.specs.Filling.{columns_of, paths_call, Filling, Filled, Fillable, put_answer}

counted_on : (a m : ℕ) → count_from a (suc m) ≡ count_from a m ++ (a + m) ∷ []
unfolding count_from
counted_on a zero =
    let e : a + zero ≡ a = omega arith in
    rw e
counted_on a (suc m) =
    let e : suc a + m ≡ a + suc m = omega arith in
    ap (λ l. a ∷ l) (counted_on (suc a) m) ∙ ap (λ j. a ∷ (count_from (suc a) m ++ j ∷ [])) e

pub range_more : (k : ℕ) → range 0 (k + 1) ≡ range 0 k ++ k ∷ []
unfolding range
range_more k =
    let a : k + 1 - 0 ≡ suc k = omega arith in
    let b : k - 0 ≡ k = omega arith in
    let z : 0 + k ≡ k = omega arith in
    rw (a, b) (counted_on 0 k ∙ ap (λ j. count_from 0 k ++ j ∷ []) z)

range_long : (k : ℕ) → length (range 0 k) ≡ k
unfolding range
range_long k = counted_length 0 (k - 0) ∙ omega arith

-- one number more
column_on : (f : ℕ → ℕ) (lent : List ℕ) (k : ℕ) → k < length lent → set (over lent (map f (range 0 k))) k (f k) ≡ over lent (map f (range 0 (k + 1)))
column_on f lent k room =
    over_next lent (map f (range 0 k)) k (f k) (length-map (range 0 k) f ∙ range_long k) room
    ∙ ap (over lent) (sym (ap (map f) (range_more k) ∙ map-append f (range 0 k) (k ∷ [])))

-- the places of one pair more: m places are written, and n follow
places_on : (lent w q : List ℕ) (m n : ℕ) → length w ≡ m → length q ≡ n →
    take m (over lent w) ++ (q ++ drop (m + n) (over lent w)) ≡ over lent (w ++ q)
unfolding over
places_on lent w q m n lw lq =
    let d = drop (length w) lent in
    let rest : drop (m + n) (w ++ d) ≡ drop (length (w ++ q)) lent =
    ap (λ j. drop (j + n) (w ++ d)) (sym lw) ∙ drop-append-add w d n ∙ drop-drop n (length w) lent
    ∙ ap (λ j. drop j lent) (ap (λ j. length w + j) (sym lq) ∙ sym (length-append w q)) in
    (λ i. take_at w d m lw i ++ (q ++ rest i)) ∙ sym (append_assoc w q (drop (length (w ++ q)) lent))

module _ (n : ℕ) (h : Hierarchy) (sources targets : List ℕ) (lent : Answers) (fl₀ bl₀ fh₀ bh₀ : List ℕ) where
  abbrev c : PathsCall
  c = paths_call n h sources targets lent (length fl₀ ∷ length bl₀ ∷ length fh₀ ∷ length bh₀ ∷ [])

  -- the walks of the first k pairs, each in its places
  abbrev walks : ℕ → List ℕ
  walks k = flat_map (λ j. (query (single c j)).path) (range 0 k)

  pub record Going (now : Answers) (fl bl fh bh : List ℕ) (k : ℕ) : Type 0 where
    pub passed : k ≤ length sources
    pub is : now ≡ answers_of c k
    pub whole : length (walks k) ≡ k * n
    pub earlier : Earlier n (2 * k + 1) fl bl
    pub numbers_long : length now.numbers ≡ length lent.numbers
    pub weights_long : length now.weights ≡ length lent.weights
    pub lengths_long : length now.lengths ≡ length lent.lengths
    pub paths_long : length now.paths ≡ length lent.paths
    pub fl_long : length fl ≡ length fl₀
    pub bl_long : length bl ≡ length bl₀
    pub fh_long : length fh ≡ length fh₀
    pub bh_long : length bh ≡ length bh₀

  module _ (f : Fillable c fl₀ bl₀) where
    pub going_first : Going lent fl₀ bl₀ fh₀ bh₀ 0
    unfolding answers_of over flat_map range count_from
    going_first =
        record {
          passed = omega arith;
          is = refl;
          whole = omega arith;
          earlier = f.earlier;
          numbers_long = refl;
          weights_long = refl;
          lengths_long = refl;
          paths_long = refl;
          fl_long = refl;
          bl_long = refl;
          fh_long = refl;
          bh_long = refl;
        }

    module _ (now : Answers) (fl bl fh bh : List ℕ) (k : ℕ) (g : Going now fl bl fh bh k) where
      pub done : length sources ≤ k → now ≡ answers c
      done all = g.is ∙ ap (answers_of c) (omega (arith, g.passed))

      module _ (more : k < length sources) where
        next_places : (k + 1) * n ≡ k * n + n
        next_places = add-mul k 1 n ∙ ap (λ j. k * n + j) (one-mul n)

        room : k * n + n ≤ length now.paths
        room =
            let most = mul-le-mul_right {m = k + 1} {n = length sources} n (omega arith) in
            omega (arith, most, next_places, f.path_room, g.paths_long)

        pub filling : Filling n h sources targets k now fl bl fh bh
        filling =
            record {
              checked = rw (g.fl_long, g.bl_long, g.fh_long, g.bh_long) f.checked;
              source = more;
              target = omega (arith, f.even);
              number_room = omega (arith, f.number_room, g.numbers_long);
              weight_room = omega (arith, f.weight_room, g.weights_long);
              length_room = omega (arith, f.length_room, g.lengths_long);
              path_room = room;
              earlier = g.earlier;
            }

        abbrev ps : List ℕ
        ps = lent.paths

        abbrev a : Answered
        a = query (single c k)

        -- the pair's places hold what they held
        own : own_places n now.paths k ≡ own_places n ps k
        unfolding own_places answers_of over
        own =
            ap (λ (x : Answers). take n (drop (k * n) x.paths)) g.is
            ∙ ap (take n) (drop_at (walks k) (drop (length (walks k)) ps) (k * n) g.whole ∙ ap (λ j. drop j ps) g.whole)

        module _ (after : Answers) (fl' bl' fh' bh' : List ℕ)
            (x : Filled n h (get_or sources k 0) (get_or targets k 0) k now (length fl ∷ length bl ∷ length fh ∷ length bh ∷ []) after fl' bl')
            (ln : length after.numbers ≡ length now.numbers) (lw : length after.weights ≡ length now.weights)
            (ll : length after.lengths ≡ length now.lengths) (lp : length after.paths ≡ length now.paths)
            (lf : length fl' ≡ length fl) (lb : length bl' ≡ length bl) (hf : length fh' ≡ length fh) (hb : length bh' ≡ length bh) where
          after_is : after ≡ put_answer n k a now
          unfolding single
          after_is =
              x.is
              ∙ (λ i.
              put_answer n k
              (query
              (pair_call n h (get_or sources k 0) (get_or targets k 0) (own i) (g.fl_long i ∷ g.bl_long i ∷ g.fh_long i ∷ g.bh_long i ∷ [])))
              now)

          own_long : length a.path ≡ n
          unfolding put_answer
          own_long =
              let cut = take (k * n) now.paths in
              let rest = drop (k * n + n) now.paths in
              omega (
                arith,
                room,
                lp,
                ap (λ (z : Answers). length z.paths) after_is,
                length-append cut (a.path ++ rest),
                length-append a.path rest,
                length-take-le (k * n) now.paths (omega (arith, room)),
                length-drop (k * n + n) now.paths,
              )

          walks_on : walks (k + 1) ≡ walks k ++ a.path
          unfolding flat_map
          walks_on =
              let o : ℕ → List ℕ = λ j. (query (single c j)).path in
              ap (flat_map o) (range_more k) ∙ flat_map_append o (range 0 k) (k ∷ []) ∙ ap (λ l. walks k ++ l) (append-nil a.path)

          put_on : put_answer n k a (answers_of c k) ≡ answers_of c (k + 1)
          unfolding put_answer answers_of
          put_on =
              let x = column_on (λ j. (query (single c j)).number) lent.numbers k (omega (arith, f.number_room)) in
              let y = column_on (λ j. (query (single c j)).weight) lent.weights k (omega (arith, f.weight_room)) in
              let z = column_on (λ j. length (query (single c j)).walk) lent.lengths k (omega (arith, f.length_room)) in
              let p = places_on ps (walks k) a.path (k * n) n g.whole own_long ∙ ap (over ps) (sym walks_on) in
              λ i. columns_of (x i) (y i) (z i) (p i)

          pub going_on : Going after fl' bl' fh' bh' (k + 1)
          going_on =
              record {
                passed = omega arith;
                is = after_is ∙ ap (put_answer n k a) g.is ∙ put_on;
                whole = omega (arith, ap length walks_on, length-append (walks k) a.path, own_long, g.whole, next_places);
                earlier = record { fwd = λ v below. omega (arith, x.earlier.fwd v below); bwd = λ v below. omega (arith, x.earlier.bwd v below) };
                numbers_long = ln ∙ g.numbers_long;
                weights_long = lw ∙ g.weights_long;
                lengths_long = ll ∙ g.lengths_long;
                paths_long = lp ∙ g.paths_long;
                fl_long = lf ∙ g.fl_long;
                bl_long = lb ∙ g.bl_long;
                fh_long = hf ∙ g.fh_long;
                bh_long = hb ∙ g.bh_long;
              }
