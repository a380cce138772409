-- Columns are filled, and so are tables.
use mathlib.Core.Path.{◌≡◌}
use mathlib.Core.List.{List}
use Prim.Native.Nat.{ℕ}
use lib.ListN.{length, replicate}
use Rattle.rules.specs.Numbers.{invalid, no_weight}
use Rattle.rules.specs.Lists.{filled}
use Rattle.rules.specs.Columns.{Table, Hierarchy, marked_table, marked}
use Rattle.marks.specs.Tables.{table_of, hierarchy}

-- as `fill` leaves a column
pub filled_whole : (mark : ℕ) (lent : List ℕ) {now : List ℕ} → now ≡ replicate (length lent) mark → now ≡ filled mark lent
unfolding filled
filled_whole mark lent is = is

pub table_marked : (t : Table) {s b n w i o : List ℕ} → s ≡ filled invalid t.starts → b ≡ filled invalid t.bases → n ≡ filled invalid t.neighbours →
    w ≡ filled no_weight t.weights → i ≡ filled invalid t.in_numbers → o ≡ filled invalid t.out_numbers → table_of s b n w i o ≡ marked_table t
unfolding marked_table
table_marked t s b n w i o = λ k. table_of (s k) (b k) (n k) (w k) (i k) (o k)

pub all_marked : (h : Hierarchy) {r : List ℕ} {f b : Table} → r ≡ filled invalid h.ranks → f ≡ marked_table h.forward → b ≡ marked_table h.backward →
    hierarchy r f b ≡ marked h
unfolding marked
all_marked h r f b = λ k. hierarchy (r k) (f k) (b k)
