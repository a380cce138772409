-- Unpacking: "a forward entry opens into one backward and one forward entry, and so does a backward one, each of a
-- lower-ranked node."
use Rattle.std.specs.Prelude.{Bool, true, false, ◌&&◌, List, [], ◌∷◌, ◌++◌, ℕ, zero, suc, eqb}
use Rattle.rules.specs.Numbers.{invalid}
use Rattle.rules.specs.Columns.{Entry, Hierarchy, Side, forward, backward, table, entry, rank}
use Rattle.rules.specs.TableRules.{tail_of}

unfoldable pub is_shortcut : Entry → Bool
is_shortcut e = elim (eqb e.in_number invalid && eqb e.out_number invalid) [ true ↦ false | false ↦ true ]

module _ (h : Hierarchy) where
  -- the nodes of the walk that an entry opens into, but its last. The fuel is one more than the rank of its base.
  unfoldable pub unpack : ℕ → Side → ℕ → List ℕ
  unpack zero s e = []
  unpack (suc fuel) s e =
      elim (is_shortcut (entry (table h s) e)) [
        | true ↦
            unpack fuel backward (entry (table h s) e).in_number ++ unpack fuel forward (entry (table h s) e).out_number
        | false ↦ tail_of s (entry (table h s) e) ∷ []
      ]

  unfoldable pub unpacked : Side → ℕ → List ℕ
  unpacked s e = unpack (suc (rank h (entry (table h s) e).base)) s e
