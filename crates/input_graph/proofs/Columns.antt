-- Columns of one length, link by link.
use mathlib.Core.List.{List, [], ◌∷◌}
use mathlib.Core.Path.{◌≡◌, refl, ap}
use Prim.Native.Nat.{ℕ, zero, suc, ◌<◌}
use native.Mathlib.Omega.{arith}
use lib.ListN.{length, get_or, drop}
use Rattle.rules.specs.Columns.{Link, zip_links, link_list}
use Rattle.input_graph.specs.Given.{link, links, Even}

zip_drop : (ts hs ws : List ℕ) (i : ℕ) → length hs ≡ length ts → length ws ≡ length ts → i < length ts →
    drop i (zip_links ts hs ws) ≡ link (get_or ts i 0) (get_or hs i 0) (get_or ws i 0) ∷ drop (suc i) (zip_links ts hs ws)
unfolding zip_links
zip_drop [] hs ws i p q h = absurd (omega arith)
zip_drop (t ∷ ts) [] ws i p q h = absurd (omega arith)
zip_drop (t ∷ ts) (k ∷ hs) [] i p q h = absurd (omega arith)
zip_drop (t ∷ ts) (k ∷ hs) (w ∷ ws) zero p q h = refl
zip_drop (t ∷ ts) (k ∷ hs) (w ∷ ws) (suc i) p q h = zip_drop ts hs ws i (omega arith) (omega arith) (omega arith)

zip_length : (ts hs ws : List ℕ) → length hs ≡ length ts → length ws ≡ length ts → length (zip_links ts hs ws) ≡ length ts
unfolding zip_links
zip_length [] hs ws p q = refl
zip_length (t ∷ ts) [] ws p q = absurd (omega arith)
zip_length (t ∷ ts) (k ∷ hs) [] p q = absurd (omega arith)
zip_length (t ∷ ts) (k ∷ hs) (w ∷ ws) p q = ap suc (zip_length ts hs ws (omega arith) (omega arith))

module _ (ts hs ws : List ℕ) (even : Even ts hs ws) where
  abbrev pub at : ℕ → Link
  at i = link (get_or ts i 0) (get_or hs i 0) (get_or ws i 0)

  -- from link i on
  pub from_link : (i : ℕ) → i < length ts → drop i (link_list (links ts hs ws)) ≡ at i ∷ drop (suc i) (link_list (links ts hs ws))
  unfolding link_list
  from_link i h = zip_drop ts hs ws i even.heads even.weights h

  pub link_count : length (link_list (links ts hs ws)) ≡ length ts
  unfolding link_list
  link_count = zip_length ts hs ws even.heads even.weights
