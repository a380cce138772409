-- Bytes written into a buffer from a place on, as far as there is room.
use Rattle.std.specs.Prelude.{List, ◌≡◌, ℕ, ◌+◌, ◌^◌, ◌<◌, length}
use Rattle.rules.specs.Lists.{written}

-- the place after them is a number of 64 bits
pub record Fits (at : ℕ) (bytes : List ℕ) : Type 0 where
  pub fits : at + length bytes < 2 ^ 64

pub record Wrote (out : List ℕ) (at : ℕ) (bytes : List ℕ) (r : ℕ) (out' : List ℕ) : Type 0 where
  pub is : out' ≡ written out at bytes
  pub end : r ≡ at + length bytes
