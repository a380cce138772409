-- Rows 21 to 24 of a query, in two parts: the ends, and what is lent.
use Rattle.std.specs.Prelude.{Bool, not, ◌&&◌, ◌||◌, [], ◌∷◌, ℕ, ◌+◌, ◌*◌, ltb}
use Rattle.rules.specs.Numbers.{max_ends}
use Rattle.rules.specs.Lists.{all}
use Rattle.rules.specs.Columns.{Ends}
use Rattle.rules.specs.Refusals.{row, first_met, short, ends_fit, offset_fits}

-- the first of rows 21 to 23 that is met
unfoldable pub ends_refusal : ℕ → Ends → Ends → ℕ
ends_refusal n s t =
    first_met
    (row 21 (not (ends_fit s && ends_fit t)) ∷
    row 22 (not (all (λ v. ltb v n) s.nodes && all (λ v. ltb v n) t.nodes)) ∷
    row 23 (not (all offset_fits s.offsets && all offset_fits t.offsets)) ∷
    [])

-- row 24, of tables of f and b entries
unfoldable pub room_short : ℕ → ℕ → ℕ → ℕ → ℕ → ℕ → ℕ → ℕ → Bool
room_short n f b path fl bl fh bh =
    ltb path n || short (4 * n ∷ 4 * n ∷ 2 * (f + max_ends) ∷ 2 * (b + max_ends) ∷ []) (fl ∷ bl ∷ fh ∷ bh ∷ [])
