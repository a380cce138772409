-- A rank is laid after those that are: columns written onward from where they end.
use mathlib.Core.Path.{◌≡◌, refl, sym, ◌∙◌, ap, ap₂}
use mathlib.Core.List.{List, [], ◌∷◌, ◌++◌, map, map-append, append-nil}
use Prim.Native.Nat.{ℕ, ◌+◌, ◌-◌, ◌<◌}
use native.Mathlib.Omega.{arith}
use native.Mathlib.Nat.{add-zero, zero-add}
use lib.ListN.{length, set, take, drop, length-append, length-map, length-drop, drop_of_length-le}
use lib.Seq.{take_all}
use Rattle.rules.specs.Lists.{over, flat_map}
use Rattle.rules.specs.Columns.{Side}
use Rattle.rules.specs.Graph.{Arc}
use Rattle.rules.specs.Build.{Level, Raw, raw, arcs_of, level_raws, raws}
use Rattle.rules.proofs.Prefixes.{over_next, over_onward, flat_map_append}
use Rattle.lists.specs.Memory.{Memory}
use Rattle.entries.specs.Laid.{side_of, four, Part, part, four_over, begun, begun_of, laid_part}
use Rattle.entries.specs.Promises.{Writable, Layable}

-- a part of a slice onward from a place, as it is lent and as it comes back
pub lent_onward : (at : ℕ) (xs : List ℕ) → take (length xs - at) (drop at xs) ≡ drop at xs
lent_onward at xs = take_all (length xs - at) (drop at xs) (omega (arith, length-drop at xs))

back_onward : (at : ℕ) (xs ys : List ℕ) → take at xs ++ (ys ++ drop (length xs - at) (drop at xs)) ≡ take at xs ++ ys
back_onward at xs ys = rw (drop_of_length-le (drop at xs) {i = length xs - at} (omega (arith, length-drop at xs)), append-nil)

lent_long : (at : ℕ) (xs : List ℕ) → length (take (length xs - at) (drop at xs)) ≡ length xs - at
lent_long at xs = ap length (lent_onward at xs) ∙ length-drop at xs

-- what the writer asks
pub writable_onward : {m : Memory} {weights : List ℕ} {side first r at : ℕ} {list : List Arc} {starts b n w c : List ℕ} →
    Layable m weights side first list r at (part starts (four b n w c)) →
    Writable m weights side first list
    (four (take (length b - at) (drop at b)) (take (length n - at) (drop at n)) (take (length w - at) (drop at w)) (take (length c - at) (drop at c)))
writable_onward {at = at} {b = b} {n} {w} {c} p =
    record {
      two = p.two;
      reads = p.reads;
      even =
          record {
            neighbours = omega (arith, lent_long at n, lent_long at b, p.even.neighbours);
            weights = omega (arith, lent_long at w, lent_long at b, p.even.weights);
            centres = omega (arith, lent_long at c, lent_long at b, p.even.centres);
          };
      room = omega (arith, lent_long at b, p.room);
    }

pub raws_more : (s : Side) (ls : List Level) (l : Level) → raws s (ls ++ l ∷ []) ≡ raws s ls ++ level_raws s l
unfolding raws flat_map
raws_more s ls l = flat_map_append (level_raws s) ls (l ∷ []) ∙ ap (λ k. raws s ls ++ k) (append-nil (level_raws s l))

-- an entry for each arc
pub level_size : (s : Side) (l : Level) → length (level_raws s l) ≡ length (arcs_of s l)
unfolding level_raws
level_size s l = length-map (arcs_of s l) _

begun_after : (s : Side) (a : ℕ) (ls : List Level) (l : Level) →
    begun a (map (λ k. length (arcs_of s k)) (ls ++ l ∷ [])) ≡ begun a (map (λ k. length (arcs_of s k)) ls) ++ (a + length (raws s ls)) ∷ []
unfolding begun raws flat_map
begun_after s a [] l = ap (λ k. k ∷ []) (sym (add-zero a))
begun_after s a (k ∷ ls) l =
    ap (λ t. a ∷ t)
    (begun_after s (a + length (arcs_of s k)) ls l ∙
    ap (λ n. begun (a + length (arcs_of s k)) (map (λ k. length (arcs_of s k)) ls) ++ n ∷ []) (omega (arith, length-append (level_raws s k) (flat_map (level_raws s) ls), level_size s k)))

-- one start more
pub begun_more : (s : Side) (ls : List Level) (l : Level) → begun_of s (ls ++ l ∷ []) ≡ begun_of s ls ++ length (raws s ls) ∷ []
unfolding begun_of
begun_more s ls l = begun_after s 0 ls l ∙ ap (λ n. begun 0 (map (λ k. length (arcs_of s k)) ls) ++ n ∷ []) (zero-add (length (raws s ls)))

begun_long : (a : ℕ) (xs : List ℕ) → length (begun a xs) ≡ length xs
unfolding begun
begun_long a [] = refl
begun_long a (x ∷ xs) = omega (arith, begun_long (a + x) xs)

pub begun_count : (s : Side) (ls : List Level) → length (begun_of s ls) ≡ length ls
unfolding begun_of
begun_count s ls = begun_long 0 (map (λ k. length (arcs_of s k)) ls) ∙ length-map ls _

over_size : (lent values : List ℕ) → length (over lent values) ≡ length values + (length lent - length values)
unfolding over
over_size lent values = length-append values (drop (length values) lent) ∙ ap (λ k. length values + k) (length-drop (length values) lent)

-- one column
column_onward : (f : Raw → ℕ) (lent now ys : List ℕ) (old rs : List Raw) (at : ℕ) → now ≡ over lent (map f old) → at ≡ length old →
    ys ≡ over (take (length now - at) (drop at now)) (map f rs) →
    take at now ++ (ys ++ drop (length now - at) (drop at now)) ≡ over lent (map f (old ++ rs))
column_onward f lent now ys old rs at is e ys_is =
    back_onward at now ys ∙
    ap (λ l. take at now ++ l) (ys_is ∙ ap (λ l. over l (map f rs)) (lent_onward at now)) ∙
    ap (λ l. take at l ++ over (drop at l) (map f rs)) is ∙
    over_onward lent (map f old) (map f rs) at (e ∙ sym (length-map old f)) ∙
    ap (over lent) (sym (map-append f old rs))

module _ {m : Memory} {weights : List ℕ} {side first v r at : ℕ} {list : List Arc} {starts b n w c : List ℕ}
    (p : Layable m weights side first list r at (part starts (four b n w c))) (ls : List Level) (l : Level) (lent : Part)
    (is : part starts (four b n w c) ≡ laid_part (side_of side) ls lent) (rank : r ≡ length ls) (count : at ≡ length (raws (side_of side) ls))
    (node : l.node ≡ v) (arcs : arcs_of (side_of side) l ≡ list) (b' n' w' c' : List ℕ)
    (written : four b' n' w' c' ≡
    four_over (four (take (length b - at) (drop at b)) (take (length n - at) (drop at n)) (take (length w - at) (drop at w)) (take (length c - at) (drop at c)))
    (map (raw (side_of side) v) list)) where
  own_raws : level_raws (side_of side) l ≡ map (raw (side_of side) v) list
  unfolding level_raws
  own_raws = ap₂ (λ u k. map (raw (side_of side) u) k) node arcs

  all_raws : raws (side_of side) (ls ++ l ∷ []) ≡ raws (side_of side) ls ++ map (raw (side_of side) v) list
  all_raws = raws_more (side_of side) ls l ∙ ap (λ k. raws (side_of side) ls ++ k) own_raws

  pub rank_laid : part (set starts r at)
      (four
      (take at b ++ (b' ++ drop (length b - at) (drop at b)))
      (take at n ++ (n' ++ drop (length n - at) (drop at n)))
      (take at w ++ (w' ++ drop (length w - at) (drop at w)))
      (take at c ++ (c' ++ drop (length c - at) (drop at c))))
      ≡ laid_part (side_of side) (ls ++ l ∷ []) lent
  unfolding laid_part four_over
  rank_laid =
      let old = raws (side_of side) ls in
      let rs = map (raw (side_of side) v) list in
      let starts_is : starts ≡ over lent.starts (begun_of (side_of side) ls) = ap (λ t. t.starts) is in
      let room : r < length lent.starts =
      omega (arith, p.start_room, ap length starts_is, over_size lent.starts (begun_of (side_of side) ls), begun_count (side_of side) ls)
      in
      rw (all_raws, begun_more (side_of side) ls l)
      (λ i.
      part
      ((ap (λ k. set k r at) starts_is ∙ over_next lent.starts (begun_of (side_of side) ls) r at (begun_count (side_of side) ls ∙ sym rank) room ∙ ap (λ k. over lent.starts (begun_of (side_of side) ls ++ k ∷ [])) count) i)
      (four
      (column_onward (λ r. r.base) lent.entries.bases b b' old rs at (ap (λ t. t.entries.bases) is) count (ap (λ t. t.bases) written) i)
      (column_onward (λ r. r.neighbour) lent.entries.neighbours n n' old rs at (ap (λ t. t.entries.neighbours) is) count (ap (λ t. t.neighbours) written) i)
      (column_onward (λ r. r.weight) lent.entries.weights w w' old rs at (ap (λ t. t.entries.weights) is) count (ap (λ t. t.weights) written) i)
      (column_onward (λ r. r.centre) lent.entries.centres c c' old rs at (ap (λ t. t.entries.centres) is) count (ap (λ t. t.centres) written) i)))
