-- What the numbers of a used entry say, as the code reads them, and how what it opens into is put together.
use mathlib.Core.Bool.{true, false}
use mathlib.Core.List.{List, [], ◌∷◌, ◌++◌}
use mathlib.Core.Logic.{inl, inr}
use mathlib.Core.Path.{◌≡◌, refl, sym, ap, ap₂, ◌∙◌}
use Prim.Native.Nat.{ℕ, zero, suc, ◌+◌, ◌-◌, ◌^◌, ◌≤◌, ◌<◌}
use native.Mathlib.Nat.{sub-zero}
use native.Mathlib.Omega.{arith}
use lib.ListN.{length, get_or, take, set, length-append}
use lib.Seq.{set_out}
use borrow.Author.Tests.{eq-eqb, ne_eqb}
use Rattle.rules.specs.Numbers.{max_nodes, invalid}
use Rattle.rules.specs.Lists.{written}
use Rattle.rules.specs.Columns.{Entry, Hierarchy, Side, forward, backward, table, entry, rank, room}
use Rattle.rules.specs.TableRules.{used, tail_of, Opens, EntryRules, TableRules}
use Rattle.rules.specs.Unpack.{is_shortcut, unpack, unpacked}
use Rattle.rules.proofs.Cases.{on_test}
use Rattle.rules.proofs.Prefixes.{written_parts}
use Rattle.walks.proofs.Places.{used_entry}
use Rattle.query_laws.proofs.Unpacking.{shortcut_opens, unpack_shortcut, unpack_plain, unpack_enough, unpacked_shortcut, unpacked_plain}
use Rattle.tables.specs.Shapes.{Shape}
use Rattle.tables.specs.Lent.{read}
use Rattle.tables.proofs.Entries.{entry_read}
use Rattle.tables.proofs.Check.{shape_of}
use Rattle.unpacking.specs.Written.{tails, Shown, Used, Put}

-- Lists.
take_parts : (limit : ℕ) (xs ys : List ℕ) → take limit (xs ++ ys) ≡ take limit xs ++ take (limit - length (take limit xs)) ys
take_parts zero [] ys = refl
take_parts zero (x ∷ xs) ys = refl
take_parts (suc limit) [] ys = rw (sub-zero (suc limit))
take_parts (suc limit) (x ∷ xs) ys =
    let same : suc limit - suc (length (take limit xs)) ≡ limit - length (take limit xs) = omega arith in
    rw same (ap (λ (l : List ℕ). x ∷ l) (take_parts limit xs ys))

take_at_most : (limit : ℕ) (xs : List ℕ) → length (take limit xs) ≤ limit
take_at_most zero [] = omega arith
take_at_most zero (x ∷ xs) = omega arith
take_at_most (suc limit) [] = omega arith
take_at_most (suc limit) (x ∷ xs) = omega (arith, take_at_most limit xs)

-- Nodes are put in two parts, one after the other.
module _ {first : List ℕ} {at limit r : ℕ} {path path' : List ℕ} (p : Put first at limit r path path') where
  pub first_within : r ≤ limit
  first_within = omega (arith, p.count, take_at_most limit first)

  pub rest_fits : at + limit < 2 ^ 64 → at + r + (limit - r) < 2 ^ 64
  rest_fits fits = omega (arith, first_within)

  module _ {then : List ℕ} {k : ℕ} {path'' : List ℕ} (q : Put then (at + r) (limit - r) k path' path'') where
    pub both_within : at + limit < 2 ^ 64 → r + k < 2 ^ 64
    both_within fits = omega (arith, first_within, q.count, take_at_most (limit - r) then)

    pub put_both : {nodes : List ℕ} → nodes ≡ first ++ then → Put nodes at limit (r + k) path path''
    put_both joined =
        record {
          count = rw (joined, take_parts limit first then, ← p.count) (counted ∙ sym (length-append (take limit first) (take (limit - r) then)));
          path_is =
              rw (joined, take_parts limit first then, ← p.count, written_parts path at (take limit first) (take (limit - r) then), ← p.count, ← p.path_is)
              q.path_is;
        }
      where
        counted : r + k ≡ length (take limit first) + length (take (limit - r) then)
        counted = omega (arith, p.count, q.count)

pub put_none : (nodes : List ℕ) (at limit : ℕ) (path : List ℕ) → limit ≡ 0 → Put nodes at limit 0 path path
unfolding written
put_none nodes at limit path e = rw e (nothing nodes)
  where
    nothing : (l : List ℕ) → Put l at 0 0 path path
    nothing [] = record { count = refl; path_is = refl }
    nothing (x ∷ l) = record { count = refl; path_is = refl }

pub put_one : (x at limit : ℕ) (path : List ℕ) → (limit ≡ 0 → ⊥) → Put (x ∷ []) at limit 1 path (set path at x)
unfolding written
put_one x at zero path some = absurd (some refl)
put_one x at (suc limit) path some = record { count = ap suc (sym (none limit)); path_is = rest limit }
  where
    none : (k : ℕ) → length (take {A = ℕ} k []) ≡ 0
    none zero = refl
    none (suc k) = refl

    rest : (k : ℕ) → set path at x ≡ written (set path at x) (suc at) (take k [])
    rest zero = refl
    rest (suc k) = refl

-- past the end of the path a node is counted and not written
pub put_past : (x at limit : ℕ) (path : List ℕ) → (limit ≡ 0 → ⊥) → length path ≤ at → Put (x ∷ []) at limit 1 path path
put_past x at limit path some past = rw (set_out path at x past) at (put_one x at limit path some)

-- A used entry, by the columns that are read.
tail_read : (h : Hierarchy) (s : Side) (e : ℕ) → tail_of s (read (table h s) e) ≡ get_or (tails h s) e 0
unfolding tail_of tails table
tail_read h forward e = refl
tail_read h backward e = refl

tails_long : (n : ℕ) (h : Hierarchy) (s : Side) → Shape n (table h s) → length (tails h s) ≡ room (table h s)
unfolding tails table room
tails_long n h forward shape = refl
tails_long n h backward shape = shape.columns.neighbours

-- Unpacking reads no other column.
module _ {n : ℕ} {h g : Hierarchy} (k : Shown n h g) where
  same_kind : (s : Side) (e : ℕ) → is_shortcut (entry (table g s) e) ≡ is_shortcut (entry (table h s) e)
  unfolding is_shortcut entry
  same_kind s e = rw (k.in_numbers_are s, k.out_numbers_are s)

  same_tail : (s : Side) (e : ℕ) → tail_of s (entry (table g s) e) ≡ tail_of s (entry (table h s) e)
  unfolding tail_of entry tails table
  same_tail forward e = rw (k.tails_are forward)
  same_tail backward e = rw (k.tails_are backward)

  same_in : (s : Side) (e : ℕ) → (entry (table g s) e).in_number ≡ (entry (table h s) e).in_number
  unfolding entry
  same_in s e = rw (k.in_numbers_are s)

  same_out : (s : Side) (e : ℕ) → (entry (table g s) e).out_number ≡ (entry (table h s) e).out_number
  unfolding entry
  same_out s e = rw (k.out_numbers_are s)

  unpack_same : (f : ℕ) (s : Side) (e : ℕ) → unpack g f s e ≡ unpack h f s e
  unfolding unpack
  unpack_same zero s e = refl
  unpack_same (suc f) s e =
      on_test (is_shortcut (entry (table h s) e))
      (λ t.
      rw (unpack_shortcut g f s e (same_kind s e ∙ t), unpack_shortcut h f s e t, same_in s e, same_out s e)
      (ap₂ (λ xs ys. xs ++ ys) (unpack_same f backward (entry (table h s) e).in_number) (unpack_same f forward (entry (table h s) e).out_number)))
      (λ t. rw (unpack_plain g f s e (same_kind s e ∙ t), unpack_plain h f s e t, same_tail s e))

-- An entry opens into some node.
module _ (n : ℕ) (h : Hierarchy) (rules : TableRules n h) where
  unpack_some : (f : ℕ) (s : Side) (e : ℕ) → e < used n (table h s) → rank h (entry (table h s) e).base < f → 0 < length (unpack h f s e)
  unfolding table
  unpack_some zero s e below high = absurd (omega arith)
  unpack_some (suc f) s e below high =
      on_test (is_shortcut (entry (table h s) e))
      (λ t.
      let o = shortcut_opens n h s _ (entry (table h s) e) (used_entry n h rules s e below) t in
      let i = (entry (table h s) e).in_number in
      let k = (entry (table h s) e).out_number in
      rw (unpack_shortcut h f s e t, length-append (unpack h f backward i) (unpack h f forward k))
      (omega (arith, unpack_some f backward i o.in_used (omega (arith, o.lower)))))
      (λ t. rw (unpack_plain h f s e t) (omega arith))

-- How many nodes an entry opens into, by the columns alone: every rank is below the most nodes, so that fuel is enough.
unfoldable pub opening : Hierarchy → Side → ℕ → ℕ
opening g s e = length (unpack g max_nodes s e)

module _ {n : ℕ} {h g : Hierarchy} {s : Side} {e : ℕ} (u : Used n h g s e) where
  abbrev rules : TableRules n h
  rules = u.tables.rules

  shape : Shape n (table h s)
  shape = shape_of n h s rules

  inside : e < room (table h s)
  inside = omega (arith, u.below, shape.end_within)

  is_read : entry (table h s) e ≡ read (table h s) e
  is_read = entry_read n (table h s) shape e inside

  own_rules : EntryRules n h s (rank h (entry (table h s) e).base) (entry (table h s) e)
  own_rules = used_entry n h rules s e u.below

  pub tail_room : e < length (tails g s)
  tail_room = omega (arith, inside, tails_long n h s shape, ap length (u.tables.tails_are s))

  pub in_room : e < length (table g s).in_numbers
  in_room = omega (arith, inside, shape.columns.in_numbers, ap length (u.tables.in_numbers_are s))

  pub out_room : e < length (table g s).out_numbers
  out_room = omega (arith, inside, shape.columns.out_numbers, ap length (u.tables.out_numbers_are s))

  abbrev a : ℕ
  a = get_or (table g s).in_numbers e 0

  abbrev b : ℕ
  b = get_or (table g s).out_numbers e 0

  in_is : (entry (table h s) e).in_number ≡ a
  in_is = ap (λ (x : Entry). x.in_number) is_read ∙ ap (λ (l : List ℕ). get_or l e 0) (u.tables.in_numbers_are s)

  out_is : (entry (table h s) e).out_number ≡ b
  out_is = ap (λ (x : Entry). x.out_number) is_read ∙ ap (λ (l : List ℕ). get_or l e 0) (u.tables.out_numbers_are s)

  tail_is : tail_of s (entry (table h s) e) ≡ get_or (tails g s) e 0
  tail_is = ap (tail_of s) is_read ∙ (tail_read h s e ∙ ap (λ (l : List ℕ). get_or l e 0) (u.tables.tails_are s))

  -- no used entry has the mark as its number
  pub plain : a ≡ invalid → unpacked h s e ≡ get_or (tails g s) e 0 ∷ []
  unfolding is_shortcut table
  plain mark = unpacked_plain h s e both_marks ∙ ap (λ (x : ℕ). x ∷ []) tail_is
    where
      both_marks : is_shortcut (entry (table h s) e) ≡ false
      both_marks =
          elim own_rules.numbers [
            | inl p ↦ rw (eq-eqb (entry (table h s) e).in_number invalid p.0, eq-eqb (entry (table h s) e).out_number invalid p.1, is_shortcut)
            | inr o ↦ absurd (omega (arith, o.in_used, in_is, u.tables.few backward))
          ]

  -- the columns say how much it opens into
  counted : opening g s e ≡ length (unpacked h s e)
  unfolding opening unpacked
  counted =
      ap length
      (unpack_same u.tables max_nodes s e ∙
      unpack_enough n h rules max_nodes _ s e u.below (omega (arith, rules.ranks_below _ own_rules.base_below, rules.nodes)) (omega arith))

  some : 0 < length (unpacked h s e)
  unfolding unpacked
  some = unpack_some n h rules _ s e u.below (omega arith)

-- A shortcut opens into two used entries, each into fewer nodes.
module _ {n : ℕ} {h g : Hierarchy} {s : Side} {e : ℕ} (u : Used n h g s e) (more : get_or (table g s).in_numbers e 0 ≡ invalid → ⊥) where
  shortcut : is_shortcut (entry (table h s) e) ≡ true
  unfolding is_shortcut
  shortcut = rw (ne_eqb (entry (table h s) e).in_number invalid (λ z. more (sym (in_is u) ∙ z)), is_shortcut)

  opens : Opens n h s (entry (table h s) e)
  opens = shortcut_opens n h s _ (entry (table h s) e) (own_rules u) shortcut

  pub open_in : Used n h g backward (a u)
  unfolding table
  open_in = record { tables = u.tables; below = rw (in_is u) at opens.in_used }

  pub open_out : Used n h g forward (b u)
  unfolding table
  open_out = record { tables = u.tables; below = rw (out_is u) at opens.out_used }

  pub both : unpacked h s e ≡ unpacked h backward (a u) ++ unpacked h forward (b u)
  both = rw (in_is u, out_is u) at (unpacked_shortcut n h u.tables.rules s e u.below shortcut)

  sum : opening g s e ≡ opening g backward (a u) + opening g forward (b u)
  sum = rw (counted u, counted open_in, counted open_out, both) (length-append (unpacked h backward (a u)) (unpacked h forward (b u)))

  pub in_fewer : opening g backward (a u) < opening g s e
  in_fewer = omega (arith, sum, counted open_out, some open_out)

  pub out_fewer : opening g forward (b u) < opening g s e
  out_fewer = omega (arith, sum, counted open_in, some open_in)
