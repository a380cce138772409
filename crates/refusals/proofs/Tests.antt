-- The definitions' tests, by what the code's said.
use mathlib.Core.Path.{◌≡◌, refl}
use mathlib.Core.Bool.{Bool, true, false}
use mathlib.Core.List.{List, [], ◌∷◌, ◌++◌}
use Prim.Native.Nat.{ℕ, suc, ◌≤◌}
use native.Mathlib.Omega.{arith}
use lib.ListN.{length, take}
use lib.Seq.{take_all}
use borrow.Author.Tests.{eq-eqb, ne_eqb, ltb-false}
use Rattle.rules.specs.Numbers.{max_nodes}
use Rattle.rules.specs.Columns.{Links}
use Rattle.rules.specs.Refusals.{Row, row, first_met, graph_rows, graph_refusal}
use Rattle.rules.proofs.Cases.{on_test}
use Rattle.rules.proofs.Rows.{not_met}
use Rattle.permutation.specs.Once.{each_once}
use Rattle.refusals.specs.Measures.{order_test}

-- Rows one after the other.
pub later : (n : ℕ) (b : Bool) (rows rest : List Row) → first_met (row (suc n) b ∷ rows) ≡ 0 → (first_met rows ≡ 0 → first_met (rows ++ rest) ≡ first_met rest) →
    first_met ((row (suc n) b ∷ rows) ++ rest) ≡ first_met rest
unfolding first_met
later n true rows rest e k = absurd (omega (arith, e))
later n false rows rest e k = k e

pub first_later : (n : ℕ) (l : Links) (rest : List Row) → graph_refusal n l ≡ 0 → first_met (graph_rows n l ++ rest) ≡ first_met rest
unfolding graph_refusal graph_rows
first_later n l rest e =
    later 0 _ _ rest e
    (λ e. later 1 _ _ rest e (λ e. later 2 _ _ rest e (λ e. later 3 _ _ rest e (λ e. later 4 _ _ rest e (λ e. later 5 _ _ rest e (λ e. refl))))))

pub first_earlier : (rows rest : List Row) → (first_met rows ≡ 0 → ⊥) → first_met (rows ++ rest) ≡ first_met rows
unfolding first_met
first_earlier [] rest h = absurd (h refl)
first_earlier (r ∷ rows) rest h =
    on_test r.met
    (λ t. rw (t, first_met))
    (λ t. rw (t, first_met) (first_earlier rows rest (rw (t, first_met) at h)))

-- rows 7 and 8
module _ (n : ℕ) (order : List ℕ) where
  pub wrong_length : (length order ≡ n → ⊥) → first_met (order_test n order) ≡ 7
  unfolding order_test first_met
  wrong_length h = rw (ne_eqb (length order) n h, first_met)

  -- an order of the right length is looked at whole
  module _ (long : length order ≡ n) where
    pub wrong_numbers : each_once n (take n order) ≡ false → first_met (order_test n order) ≡ 8
    unfolding order_test first_met each_once
    wrong_numbers off = rw (eq-eqb (length order) n long, rw (take_all n order (omega arith)) at off, first_met)

    pub right_order : each_once n (take n order) ≡ true → first_met (order_test n order) ≡ 0
    unfolding order_test first_met each_once
    right_order on = rw (eq-eqb (length order) n long, rw (take_all n order (omega arith)) at on, first_met)

-- row 1 was not met
pub nodes_few : (n : ℕ) (l : Links) → graph_refusal n l ≡ 0 → n ≤ 1024
unfolding graph_refusal graph_rows
nodes_few n l e = ltb-false max_nodes n (not_met 0 _ _ e).0

pub first_graph : (n : ℕ) (l : Links) (rest : List Row) → (graph_refusal n l ≡ 0 → ⊥) → first_met (graph_rows n l ++ rest) ≡ graph_refusal n l
unfolding graph_refusal
first_graph n l rest h = first_earlier (graph_rows n l) rest h
