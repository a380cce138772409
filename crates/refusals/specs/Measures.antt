-- What the tests decide, by lengths where only lengths matter.
use Rattle.std.specs.Prelude.{Bool, not, ◌&&◌, ◌||◌, List, [], ◌∷◌, ◌++◌, ◌≡◌, ℕ, suc, eqb, ltb, length}
use Rattle.rules.specs.Lists.{all, distinct}
use Rattle.rules.specs.Columns.{Links}
use Rattle.rules.specs.Refusals.{Row, row, first_met, short, build_scratch, graph_rows}

-- `table_short` by lengths
unfoldable pub uneven_by : (n starts bases neighbours weights ins outs : ℕ) → Bool
uneven_by n starts bases neighbours weights ins outs =
    ltb starts (suc n) || not (eqb neighbours bases && eqb weights bases && eqb ins bases && eqb outs bases)

-- `lent_short` by lengths
unfoldable pub lent_short_by : (n pool ranks : ℕ) → Bool → Bool → List ℕ → Bool
lent_short_by n pool ranks forward backward scratch = ltb ranks n || forward || backward || short (build_scratch n pool) scratch

-- rows 7 and 8
unfoldable pub order_test : ℕ → List ℕ → List Row
order_test n order =
    row 7 (not (eqb (length order) n)) ∷ row 8 (not (all (λ v. ltb v n) order && distinct order)) ∷ []

-- rows 1 to 8
abbrev pub Refuses : ℕ → Links → List ℕ → ℕ → Type 0
Refuses n l order r = r ≡ first_met (graph_rows n l ++ order_test n order)
