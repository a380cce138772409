-- Which of rows 1 to 6 is the first that is met.
use mathlib.Core.Bool.{true, false, not, ◌&&◌, ◌||◌}
use mathlib.Core.List.{List, [], ◌∷◌}
use mathlib.Core.Path.{◌≡◌, refl, sym, ap, ◌∙◌, fun_ext}
use Prim.Native.Nat.{ℕ, ◌≤◌, ◌<◌}
use native.Mathlib.Omega.{arith}
use lib.Dec.{eqb, ltb, leb}
use lib.ListN.{length}
use borrow.Author.Tests.{eq-eqb, ne_eqb, lt-ltb, le-ltb, lt-leb, le-leb, ltb-true, ltb-false}
use Rattle.std.specs.List.{list_any, zip}
use Rattle.rules.specs.Numbers.{max_nodes, max_links}
use Rattle.rules.specs.Lists.{all, any}
use Rattle.rules.specs.Columns.{Link, zip_links, link_list}
use Rattle.rules.specs.Refusals.{row, first_met, names_none_above, loop, goes_before, ascending, columns_fit, graph_rows, graph_refusal}
use Rattle.rules.proofs.Cases.{on_test}
use Rattle.input_graph.specs.Given.{links, Even, bad_in, earlier, rises}

-- Rows 3 to 6 as the chains over the columns ask them.
leb_not_ltb : (n k : ℕ) → leb n k ≡ not (ltb k n)
leb_not_ltb n k =
    on_test (ltb k n)
    (λ t. rw t (lt-leb n k (ltb-true k n t)))
    (λ t. rw t (le-leb n k (ltb-false k n t)))

above_rows : (n : ℕ) (ts hs ws : List ℕ) → length hs ≡ length ts → length ws ≡ length ts →
    not (all (names_none_above n) (zip_links ts hs ws)) ≡ list_any (λ l. leb n l.0 || leb n l.1) (zip ts hs)
unfolding zip_links all names_none_above
above_rows n [] hs ws p q = refl
above_rows n (t ∷ ts) [] ws p q = refl
above_rows n (t ∷ ts) (h ∷ hs) [] p q = absurd (omega arith)
above_rows n (t ∷ ts) (h ∷ hs) (w ∷ ws) p q =
    let rest = above_rows n ts hs ws (omega arith) (omega arith) in
    rw (leb_not_ltb n t, leb_not_ltb n h)
    (on_test (ltb t n) (λ a. rw a (on_test (ltb h n) (λ b. rw b rest) (λ b. rw b))) (λ a. rw a))

loop_rows : (ts hs ws : List ℕ) → length hs ≡ length ts → length ws ≡ length ts → any loop (zip_links ts hs ws) ≡ list_any (λ l. eqb l.0 l.1) (zip ts hs)
unfolding zip_links any loop
loop_rows [] hs ws p q = refl
loop_rows (t ∷ ts) [] ws p q = refl
loop_rows (t ∷ ts) (h ∷ hs) [] p q = absurd (omega arith)
loop_rows (t ∷ ts) (h ∷ hs) (w ∷ ws) p q = ap (λ b. eqb t h || b) (loop_rows ts hs ws (omega arith) (omega arith))

zero_rows : (ts hs ws : List ℕ) → length hs ≡ length ts → length ws ≡ length ts → any (λ k. eqb k.weight 0) (zip_links ts hs ws) ≡ list_any (λ w. eqb w 0) ws
unfolding zip_links any
zero_rows [] hs [] p q = refl
zero_rows [] hs (w ∷ ws) p q = absurd (omega arith)
zero_rows (t ∷ ts) [] ws p q = absurd (omega arith)
zero_rows (t ∷ ts) (h ∷ hs) [] p q = refl
zero_rows (t ∷ ts) (h ∷ hs) (w ∷ ws) p q = ap (λ b. eqb w 0 || b) (zero_rows ts hs ws (omega arith) (omega arith))

ascent_rows : (ts hs ws : List ℕ) → length hs ≡ length ts → length ws ≡ length ts → ascending (zip_links ts hs ws) ≡ rises earlier (zip ts hs)
unfolding zip_links ascending goes_before rises
ascent_rows [] hs ws p q = refl
ascent_rows (t ∷ ts) [] ws p q = refl
ascent_rows (t ∷ ts) (h ∷ hs) [] p q = absurd (omega arith)
ascent_rows (t ∷ []) (h ∷ hs) (w ∷ ws) p q = refl
ascent_rows (t ∷ (t' ∷ ts)) (h ∷ []) (w ∷ ws) p q = absurd (omega arith)
ascent_rows (t ∷ (t' ∷ ts)) (h ∷ (h' ∷ hs)) (w ∷ []) p q = absurd (omega arith)
ascent_rows (t ∷ (t' ∷ ts)) (h ∷ (h' ∷ hs)) (w ∷ (w' ∷ ws)) p q =
    ap (λ b. earlier (t, h) (t', h') && b) (ascent_rows (t' ∷ ts) (h' ∷ hs) (w' ∷ ws) (omega arith) (omega arith))

-- Rows 3 to 5 of a number handed in, link by link.
above_bad : (n : ℕ) (ls : List Link) → not (all (names_none_above n) ls) ≡ any (bad_in 3 n) ls
unfolding all any bad_in
above_bad n [] = refl
above_bad n (l ∷ ls) = on_test (names_none_above n l) (λ t. rw t (above_bad n ls)) (λ t. rw t)

module _ (row n : ℕ) (ts hs ws : List ℕ) (even : Even ts hs ws) where
  pub bad_above : row ≡ 3 → list_any (λ l. leb n l.0 || leb n l.1) (zip ts hs) ≡ any (bad_in row n) (link_list (links ts hs ws))
  unfolding link_list
  bad_above is = rw is (sym (above_rows n ts hs ws even.heads even.weights) ∙ above_bad n (zip_links ts hs ws))

  pub bad_loop : row ≡ 4 → list_any (λ l. eqb l.0 l.1) (zip ts hs) ≡ any (bad_in row n) (link_list (links ts hs ws))
  unfolding link_list bad_in
  bad_loop is = rw is (sym (loop_rows ts hs ws even.heads even.weights) ∙ ap (λ p. any p (zip_links ts hs ws)) (fun_ext (λ l. refl)))

  pub bad_zero : (row ≡ 3 → ⊥) → (row ≡ 4 → ⊥) → list_any (λ w. eqb w 0) ws ≡ any (bad_in row n) (link_list (links ts hs ws))
  unfolding link_list bad_in
  bad_zero no_3 no_4 =
      let same : (l : Link) → eqb l.weight 0 ≡ bad_in row n l = λ l. rw (ne_eqb row 3 no_3, ne_eqb row 4 no_4, bad_in) in
      sym (zero_rows ts hs ws even.heads even.weights) ∙ ap (λ p. any p (zip_links ts hs ws)) (fun_ext same)

module _ (n : ℕ) (ts hs ws : List ℕ) where
  pub too_many : max_nodes < n → 1 ≡ graph_refusal n (links ts hs ws)
  unfolding graph_refusal graph_rows first_met
  too_many h = rw (lt-ltb max_nodes n h)

  module _ (few : n ≤ max_nodes) where
    misfit : columns_fit (links ts hs ws) ≡ false → 2 ≡ graph_refusal n (links ts hs ws)
    unfolding graph_refusal graph_rows first_met
    misfit e = rw (le-ltb max_nodes n few, e)

    pub uneven_heads : (length hs ≡ length ts → ⊥) → 2 ≡ graph_refusal n (links ts hs ws)
    unfolding columns_fit
    uneven_heads e = misfit (rw (ne_eqb (length hs) (length ts) e))

    pub uneven_weights : length hs ≡ length ts → (length ws ≡ length ts → ⊥) → 2 ≡ graph_refusal n (links ts hs ws)
    unfolding columns_fit
    uneven_weights e f = misfit (rw (eq-eqb (length hs) (length ts) e, ne_eqb (length ws) (length ts) f))

    module _ (heads : length hs ≡ length ts) (weights : length ws ≡ length ts) where
      pub too_long : max_links < length ts → 2 ≡ graph_refusal n (links ts hs ws)
      unfolding columns_fit
      too_long h = misfit (rw (eq-eqb (length hs) (length ts) heads, eq-eqb (length ws) (length ts) weights, lt-leb (length ts) max_links h))

      module _ (short : length ts ≤ max_links) where
        -- past rows 1 and 2 the first of the chains that answers
        later_rows : graph_refusal n (links ts hs ws) ≡
            first_met (
            row 3 (list_any (λ l. leb n l.0 || leb n l.1) (zip ts hs)) ∷
            row 4 (list_any (λ l. eqb l.0 l.1) (zip ts hs)) ∷
            row 5 (list_any (λ w. eqb w 0) ws) ∷
            row 6 (not (rises earlier (zip ts hs))) ∷
            []
            )
        unfolding graph_refusal graph_rows first_met link_list columns_fit
        later_rows =
            rw (
              le-ltb max_nodes n few,
              eq-eqb (length hs) (length ts) heads,
              eq-eqb (length ws) (length ts) weights,
              le-leb (length ts) max_links short,
              above_rows n ts hs ws heads weights,
              loop_rows ts hs ws heads weights,
              zero_rows ts hs ws heads weights,
              ascent_rows ts hs ws heads weights,
            )

        pub row_3 : true ≡ list_any (λ l. leb n l.0 || leb n l.1) (zip ts hs) → 3 ≡ graph_refusal n (links ts hs ws)
        unfolding first_met
        row_3 e = rw (later_rows, ← e)

        module _ (no_3 : false ≡ list_any (λ l. leb n l.0 || leb n l.1) (zip ts hs)) where
          pub row_4 : true ≡ list_any (λ l. eqb l.0 l.1) (zip ts hs) → 4 ≡ graph_refusal n (links ts hs ws)
          unfolding first_met
          row_4 e = rw (later_rows, ← no_3, ← e)

          module _ (no_4 : false ≡ list_any (λ l. eqb l.0 l.1) (zip ts hs)) where
            pub row_5 : true ≡ list_any (λ w. eqb w 0) ws → 5 ≡ graph_refusal n (links ts hs ws)
            unfolding first_met
            row_5 e = rw (later_rows, ← no_3, ← no_4, ← e)

            module _ (no_5 : false ≡ list_any (λ w. eqb w 0) ws) where
              pub row_6 : false ≡ rises earlier (zip ts hs) → 6 ≡ graph_refusal n (links ts hs ws)
              unfolding first_met
              row_6 e = rw (later_rows, ← no_3, ← no_4, ← no_5, ← e)

              pub no_row : true ≡ rises earlier (zip ts hs) → 0 ≡ graph_refusal n (links ts hs ws)
              unfolding first_met
              no_row e = rw (later_rows, ← no_3, ← no_4, ← no_5, ← e)
