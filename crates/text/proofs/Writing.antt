-- What is written, one part after the other.
use mathlib.Core.List.{List, [], ◌∷◌, ◌++◌, append-nil, append_assoc}
use mathlib.Core.Path.{◌≡◌, refl, sym, ap, ◌∙◌}
use Prim.Native.Nat.{ℕ, ◌+◌, ◌/◌, ◌%◌, ◌≤◌, ◌<◌}
use native.Mathlib.Omega.{arith}
use native.Mathlib.Nat.{add-zero}
use native.Mathlib.Numerals.{add-one}
use lib.ListN.{length, get_or, set, take, drop, length-append, take-append-drop}
use lib.Seq.{set_out, take-suc}
use Rattle.rules.specs.Lists.{written, flat_map}
use Rattle.rules.specs.Program.{word_built, word_route, word_none, newline, space, colon, decimal, line, counts_line, route_line}
use Rattle.rules.proofs.Prefixes.{written_parts, flat_map_append}
use Rattle.rules.proofs.ProgramFuel.{decimal_one, decimal_last}
use Rattle.text.specs.Wrote.{Fits, Wrote}

pub wrote_none : (out : List ℕ) (at : ℕ) → Wrote out at [] at out
unfolding written
wrote_none out at = record { is = refl; end = sym (add-zero at) }

pub wrote_one : (out : List ℕ) (at byte : ℕ) → Wrote out at (byte ∷ []) (at + 1) (set out at byte)
unfolding written
wrote_one out at byte = record { is = refl; end = omega arith }

-- beyond the end nothing changes
pub wrote_past : (out : List ℕ) (at byte : ℕ) → length out ≤ at → Wrote out at (byte ∷ []) (at + 1) out
unfolding written
wrote_past out at byte past = record { is = sym (set_out out at byte past); end = omega arith }

pub wrote_both : {out out' out'' : List ℕ} {at r s : ℕ} (xs ys : List ℕ) → Wrote out at xs r out' → Wrote out' r ys s out'' → Wrote out at (xs ++ ys) s out''
wrote_both {out} {out'} {out''} {at} {r} {s} xs ys p q =
    record {
      is = rw (written_parts out at xs ys, ← p.is, ← p.end) q.is;
      end = omega (arith, p.end, q.end, length-append xs ys);
    }

-- what is written as one list may be read as another
pub wrote_as : {out out' : List ℕ} {at r : ℕ} (xs ys : List ℕ) → xs ≡ ys → Wrote out at xs r out' → Wrote out at ys r out'
wrote_as xs ys e p = rw (← e) p

-- Room for the whole is room for its parts.
pub fits_first : (at : ℕ) (xs ys : List ℕ) → Fits at (xs ++ ys) → Fits at xs
fits_first at xs ys h = record { fits = omega (arith, h.fits, length-append xs ys) }

pub fits_then : {out out' : List ℕ} {at r : ℕ} (xs ys : List ℕ) → Fits at (xs ++ ys) → Wrote out at xs r out' → Fits r ys
fits_then xs ys h p = record { fits = omega (arith, h.fits, p.end, length-append xs ys) }

-- Decimal numbers, digit by digit.
pub digit_fits : {at n : ℕ} → n < 10 → Fits at (decimal n) → Fits at ((0x30 + n) ∷ [])
digit_fits {n = n} low h = rw (decimal_one n low) at h

pub digit_wrote : {out out' : List ℕ} {at r n : ℕ} → n < 10 → Wrote out at ((0x30 + n) ∷ []) r out' → Wrote out at (decimal n) r out'
digit_wrote {n = n} low p = rw (decimal_one n low) p

module _ (n : ℕ) (high : 10 ≤ n) where
  last : List ℕ
  last = (0x30 + (n % 10)) ∷ []

  pub rest_fits : {at : ℕ} → Fits at (decimal n) → Fits at (decimal (n / 10))
  unfolding last
  rest_fits {at} h = fits_first at (decimal (n / 10)) last (rw (decimal_last n high) at h)

  pub last_fits : {out out' : List ℕ} {at r : ℕ} → Fits at (decimal n) → Wrote out at (decimal (n / 10)) r out' → Fits r ((0x30 + (n % 10)) ∷ [])
  unfolding last
  last_fits h p = fits_then (decimal (n / 10)) last (rw (decimal_last n high) at h) p

  pub last_wrote : {out out' out'' : List ℕ} {at r s : ℕ} → Wrote out at (decimal (n / 10)) r out' → Wrote out' r ((0x30 + (n % 10)) ∷ []) s out'' →
      Wrote out at (decimal n) s out''
  unfolding last
  last_wrote p q = rw (decimal_last n high) (wrote_both (decimal (n / 10)) last p q)

-- The front of a list, and one more: of bytes, and of what each gives.
pub bytes_next : (xs : List ℕ) (i : ℕ) → i < length xs → take (i + 1) xs ≡ take i xs ++ (get_or xs i 0 ∷ [])
bytes_next xs i h = rw (add-one i) (take-suc xs i 0 h)

pub front_next : (f : ℕ → List ℕ) (xs : List ℕ) (i : ℕ) → i < length xs → flat_map f (take (i + 1) xs) ≡ flat_map f (take i xs) ++ f (get_or xs i 0)
unfolding flat_map
front_next f xs i h =
    rw (add-one i, take-suc xs i 0 h, flat_map_append f (take i xs) (get_or xs i 0 ∷ []), append-nil (f (get_or xs i 0)))

pub front_fits : {out out' : List ℕ} {at end i : ℕ} (f : ℕ → List ℕ) (xs : List ℕ) → Fits at (flat_map f xs) → i < length xs →
    Wrote out at (flat_map f (take i xs)) end out' → Fits end (f (get_or xs i 0))
front_fits {at = at} {end} {i} f xs h inside p =
    let whole : flat_map f xs ≡ flat_map f (take (i + 1) xs) ++ flat_map f (drop (i + 1) xs) =
    ap (flat_map f) (sym (take-append-drop (i + 1) xs)) ∙ flat_map_append f (take (i + 1) xs) (drop (i + 1) xs) in
    record {
      fits =
          omega (
            arith,
            h.fits,
            p.end,
            ap length whole,
            ap length (front_next f xs i inside),
            length-append (flat_map f (take (i + 1) xs)) (flat_map f (drop (i + 1) xs)),
            length-append (flat_map f (take i xs)) (f (get_or xs i 0)),
          );
    }

-- Two parts and the end of the line.
module _ (a b : List ℕ) where
  pub word_fits : {at : ℕ} → Fits at (line (a ++ b)) → Fits at a
  unfolding line
  word_fits {at} h = fits_first at a b (fits_first at (a ++ b) (newline ∷ []) h)

  pub number_fits : {out out' : List ℕ} {at r : ℕ} → Fits at (line (a ++ b)) → Wrote out at a r out' → Fits r b
  unfolding line
  number_fits {at = at} h p = fits_then a b (fits_first at (a ++ b) (newline ∷ []) h) p

  pub end_fits : {out out' out'' : List ℕ} {at r s : ℕ} → Fits at (line (a ++ b)) → Wrote out at a r out' → Wrote out' r b s out'' → Fits s (newline ∷ [])
  unfolding line
  end_fits h p q = fits_then (a ++ b) (newline ∷ []) h (wrote_both a b p q)

  pub wrote_line : {out out' out'' out''' : List ℕ} {at r s t : ℕ} → Wrote out at a r out' → Wrote out' r b s out'' → Wrote out'' s (newline ∷ []) t out''' → Wrote out at (line (a ++ b)) t out'''
  unfolding line
  wrote_line p q e = wrote_both (a ++ b) (newline ∷ []) (wrote_both a b p q) e

-- the lines of several parts, from their first on
pub counts_parts : (fwd bwd : ℕ) → counts_line fwd bwd ≡ word_built ++ (decimal fwd ++ line ((space ∷ []) ++ decimal bwd))
unfolding counts_line line
counts_parts fwd bwd = simp append_assoc

-- a route, or "none" where the walk is empty
abbrev pub parts : ℕ → List ℕ → List ℕ
parts w xs = word_route ++ (decimal w ++ ((colon ∷ []) ++ (flat_map (λ u. space ∷ decimal u) xs ++ (newline ∷ []))))

pub route_parts : (w : ℕ) (xs : List ℕ) → (length xs ≡ 0 → ⊥) → route_line w xs ≡ parts w xs
unfolding route_line line
route_parts w [] some = absurd (some refl)
route_parts w (v ∷ vs) some = simp append_assoc

pub route_none : (w : ℕ) (xs : List ℕ) → length xs ≡ 0 → route_line w xs ≡ line word_none
unfolding route_line
route_none w [] none = refl
route_none w (v ∷ vs) none = absurd (omega (arith, none))
