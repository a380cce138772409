-- Links that none of rows 1 to 6 refuses can be taken in.
use mathlib.Core.Bool.{true, ◌&&◌}
use mathlib.Core.List.{List, [], ◌∷◌}
use mathlib.Core.Path.{◌≡◌, refl}
use Prim.Native.Nat.{ℕ, zero, suc, ◌<◌}
use native.Mathlib.Omega.{arith}
use lib.Dec.{eqb, ltb, leb}
use lib.ListN.{length, get_or}
use borrow.Author.Tests.{eqb-true, ltb-true, lt-ltb, not-false}
use Rattle.rules.specs.Numbers.{max_links}
use Rattle.rules.specs.Lists.{Decides, all}
use Rattle.rules.specs.Columns.{zip_links, link_list}
use Rattle.rules.specs.Refusals.{names_none_above, columns_fit, graph_rows, graph_refusal}
use Rattle.rules.proofs.Decides.{and_both, both_and}
use Rattle.rules.proofs.Rows.{not_met}
use Rattle.input_graph.specs.Given.{links, Even, Between}

-- row 3, link by link
ends_below : (n : ℕ) (ts hs ws : List ℕ) → length hs ≡ length ts → length ws ≡ length ts → all (names_none_above n) (zip_links ts hs ws) ≡ true →
    (i : ℕ) → i < length ts → (get_or ts i 0 < n) × (get_or hs i 0 < n)
unfolding zip_links all names_none_above
ends_below n [] hs ws p q a i h = absurd (omega arith)
ends_below n (t ∷ ts) [] ws p q a i h = absurd (omega arith)
ends_below n (t ∷ ts) (k ∷ hs) [] p q a i h = absurd (omega arith)
ends_below n (t ∷ ts) (k ∷ hs) (w ∷ ws) p q a zero h =
    let b = and_both (ltb t n) (ltb k n) (and_both (ltb t n && ltb k n) (all (names_none_above n) (zip_links ts hs ws)) a).0 in
    (ltb-true t n b.0, ltb-true k n b.1)
ends_below n (t ∷ ts) (k ∷ hs) (w ∷ ws) p q a (suc i) h =
    ends_below n ts hs ws (omega arith) (omega arith) (and_both (ltb t n && ltb k n) (all (names_none_above n) (zip_links ts hs ws)) a).1 i (omega arith)

all_below : (n : ℕ) (ts hs ws : List ℕ) → ((i : ℕ) → i < length ts → get_or ts i 0 < n) → ((i : ℕ) → i < length ts → get_or hs i 0 < n) →
    all (names_none_above n) (zip_links ts hs ws) ≡ true
unfolding zip_links all names_none_above
all_below n [] hs ws t h = refl
all_below n (x ∷ ts) [] ws t h = refl
all_below n (x ∷ ts) (y ∷ hs) [] t h = refl
all_below n (x ∷ ts) (y ∷ hs) (z ∷ ws) t h =
    both_and (ltb x n && ltb y n) (all (names_none_above n) (zip_links ts hs ws))
    (both_and (ltb x n) (ltb y n) (lt-ltb x n (t 0 (omega arith))) (lt-ltb y n (h 0 (omega arith))))
    (all_below n ts hs ws (λ i k. t (suc i) (omega arith)) (λ i k. h (suc i) (omega arith)))

-- so row 3 decides whether columns of one length are links between n nodes
pub between_decides : (n : ℕ) (ts hs ws : List ℕ) → Even ts hs ws → Decides (all (names_none_above n) (link_list (links ts hs ws))) (Between n ts hs ws)
unfolding link_list
between_decides n ts hs ws even = (
  λ e.
      let ends = ends_below n ts hs ws even.heads even.weights e in
      record { even = even; tails = λ i h. (ends i h).0; heads = λ i h. (ends i h).1 },
  λ b. all_below n ts hs ws b.tails b.heads,
)

-- row 2
fit_even : (ts hs ws : List ℕ) → columns_fit (links ts hs ws) ≡ true → Even ts hs ws
unfolding columns_fit
fit_even ts hs ws e =
    let b = and_both (eqb (length hs) (length ts) && eqb (length ws) (length ts)) (leb (length ts) max_links) e in
    let c = and_both (eqb (length hs) (length ts)) (eqb (length ws) (length ts)) b.0 in
    record { heads = eqb-true (length hs) (length ts) c.0; weights = eqb-true (length ws) (length ts) c.1 }

pub accepted_between : (n : ℕ) (ts hs ws : List ℕ) → graph_refusal n (links ts hs ws) ≡ 0 → Between n ts hs ws
unfolding graph_refusal graph_rows link_list
accepted_between n ts hs ws e =
    let r1 = not_met 0 _ _ e in
    let r2 = not_met 1 _ _ r1.1 in
    let r3 = not_met 2 _ _ r2.1 in
    let even = fit_even ts hs ws (not-false (columns_fit (links ts hs ws)) r2.0) in
    let ends = ends_below n ts hs ws even.heads even.weights (not-false (all (names_none_above n) (zip_links ts hs ws)) r3.0) in
    record { even = even; tails = λ i h. (ends i h).0; heads = λ i h. (ends i h).1 }
