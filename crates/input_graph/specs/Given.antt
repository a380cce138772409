-- The columns of links as they are handed in, what is bad in a link, and what row 6 asks of their ends.
use Rattle.std.specs.Prelude.{Bool, true, false, not, ◌&&◌, ◌||◌, List, [], ◌∷◌, ◌≡◌, ℕ, ◌<◌, eqb, ltb, length, get_or}
use Rattle.rules.specs.Columns.{Link, Links}
use Rattle.rules.specs.Refusals.{names_none_above, loop}

abbrev pub link : ℕ → ℕ → ℕ → Link
link t h w = record { tail = t; head = h; weight = w }

abbrev pub links : List ℕ → List ℕ → List ℕ → Links
links ts hs ws = record { tails = ts; heads = hs; weights = ws }

-- as many heads and weights as tails
pub record Even (ts hs ws : List ℕ) : Type 0 where
  pub heads : length hs ≡ length ts
  pub weights : length ws ≡ length ts

-- the columns are links between n nodes
pub record Between (n : ℕ) (ts hs ws : List ℕ) : Type 0 where
  pub even : Even ts hs ws
  pub tails : (i : ℕ) → i < length ts → get_or ts i 0 < n
  pub heads : (i : ℕ) → i < length ts → get_or hs i 0 < n

-- what rows 3, 4 and 5 find in a link of a graph of n nodes
unfoldable pub bad_in : ℕ → ℕ → Link → Bool
bad_in row n l =
    elim (eqb row 3) [
      | true ↦ not (names_none_above n l)
      | false ↦ elim (eqb row 4) [ true ↦ loop l | false ↦ eqb l.weight 0 ]
    ]

-- a link before another, each a tail and a head: by tails, and by heads where they are the same
abbrev pub earlier : ℕ × ℕ → ℕ × ℕ → Bool
earlier k l = ltb k.0 l.0 || eqb k.0 l.0 && ltb k.1 l.1

-- each goes before the next
unfoldable pub rises : {A : Type 0} → (A → A → Bool) → List A → Bool
rises before [] = true
rises before (k ∷ []) = true
rises before (k ∷ (l ∷ ls)) = before k l && rises before (l ∷ ls)
