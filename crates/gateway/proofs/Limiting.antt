-- Record 4: the program's own limits, then the build.
use mathlib.Core.List.{List}
use mathlib.Core.Path.{◌≡◌, refl, sym, ap, ◌∙◌}
use Prim.Native.Nat.{ℕ, zero, suc, ◌+◌, ◌≤◌, ◌<◌}
use native.Mathlib.Omega.{arith}
use lib.ListN.{length, length-map}
use borrow.Author.Tests.{lt-ltb, le-ltb}
use Rattle.rules.specs.Numbers.{program_nodes, program_links}
use Rattle.rules.specs.Columns.{Link}
use Rattle.rules.specs.Build.{Built, build}
use Rattle.rules.specs.Program.{u32_at, refused_line, program_call, Phase, after_build, at_limit, follow}
use Rattle.text.specs.Wrote.{Fits, Wrote}
use Rattle.gateway.specs.Answering.{Limited, Followed, AtLimit, Limits, after, from_limit}

-- a build's line does not tell an offset
no_offset : (n at : ℕ) (b : Built) (rest : Phase → List ℕ) → follow (after_build n b) at rest ≡ follow (after_build n b) 0 rest
unfolding after_build follow
no_offset n at b rest = go b.number refl
  where
    go : (k : ℕ) → b.number ≡ k → follow (after_build n b) at rest ≡ follow (after_build n b) 0 rest
    go zero e = rw (e, after_build, follow)
    go (suc k) e = rw (e, after_build, follow)

module _ (input : List ℕ) (at n : ℕ) (ls : List Link) (order : List ℕ) where
  many_nodes : 32 < n → from_limit input at n ls order ≡ refused_line 1
  unfolding at_limit follow
  many_nodes many = rw (lt-ltb program_nodes n many, at_limit, follow)

  module _ (few : n ≤ 32) where
    many_links : 256 < length ls → from_limit input at n ls order ≡ refused_line 2
    unfolding at_limit follow
    many_links many = rw (le-ltb program_nodes n few, at_limit) (rw (lt-ltb program_links (length ls) many, follow))

    within_limits : length ls ≤ 256 → from_limit input at n ls order ≡ after input (at + 7) n (build (program_call n ls order (u32_at input (at + 3))))
    unfolding at_limit
    within_limits fits =
        rw (le-ltb program_nodes n few, at_limit) (rw (le-ltb program_links (length ls) fits) (no_offset n at _ _))

module _ {input : List ℕ} {at n : ℕ} {tails heads weights order : List ℕ} where
  links_are : (l : AtLimit input at n tails heads weights order) → length l.ls ≡ length tails
  links_are l = sym (ap length l.links_in.tails_are ∙ length-map l.ls (λ x. x.tail))

  module _ (many : 32 < n) where
    pub one_fits : AtLimit input at n tails heads weights order → Fits 0 (refused_line 1)
    one_fits l = rw (many_nodes input at n l.ls order many) at l.fits

    pub one_wrote : {out out' : List ℕ} {r : ℕ} → Wrote out 0 (refused_line 1) r out' → Limits input at n tails heads weights order out r out'
    one_wrote w = record { wrote = λ l. rw (many_nodes input at n l.ls order many) w }

  module _ (few : n ≤ 32) where
    module _ (many : 256 < length tails) where
      pub two_fits : AtLimit input at n tails heads weights order → Fits 0 (refused_line 2)
      two_fits l = rw (many_links input at n l.ls order few (omega (arith, many, links_are l))) at l.fits

      pub two_wrote : {out out' : List ℕ} {r : ℕ} → Wrote out 0 (refused_line 2) r out' → Limits input at n tails heads weights order out r out'
      two_wrote w = record { wrote = λ l. rw (many_links input at n l.ls order few (omega (arith, many, links_are l))) w }

    module _ (fit : length tails ≤ 256) (limit : ℕ) (read : limit ≡ u32_at input (at + 3)) where
      is_after : (l : AtLimit input at n tails heads weights order) → from_limit input at n l.ls order ≡ after input (at + 7) n (build (program_call n l.ls order limit))
      is_after l = rw read (within_limits input at n l.ls order few (omega (arith, fit, links_are l)))

      pub limited : AtLimit input at n tails heads weights order → Limited input (at + 7) n tails heads weights order limit
      limited l =
          record {
            ls = l.ls;
            links_in = l.links_in;
            short = l.short;
            few = few;
            fits = rw (is_after l) at l.fits;
          }

      pub limits : {out out' : List ℕ} {r : ℕ} → Followed input (at + 7) n tails heads weights order limit out r out' → Limits input at n tails heads weights order out r out'
      unfolding limited
      limits f = record { wrote = λ l. rw (is_after l) (f.wrote (limited l)) }
