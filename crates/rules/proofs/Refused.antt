-- No refusal has the number 0.
use mathlib.Core.Path.{◌≡◌}
use native.Mathlib.Omega.{arith}
use Rattle.rules.specs.declared.Refusal.{Refusal}
use Rattle.rules.specs.declared.Refusal.TheVariants.{Nodes, Links, LinkEnd, Loop, LinkWeight, Unsorted, OrderLength, Order, Lent, Pool, Entries, Sum, Tables, Ends, EndNode, Offset, Room, Walk}
use Rattle.rules.specs.Refused.{number_of}

pub some_number : (r : Refusal) → number_of r ≡ 0 → ⊥
some_number Nodes e = omega arith
some_number Links e = omega arith
some_number LinkEnd e = omega arith
some_number Loop e = omega arith
some_number LinkWeight e = omega arith
some_number Unsorted e = omega arith
some_number OrderLength e = omega arith
some_number Order e = omega arith
some_number Lent e = omega arith
some_number Pool e = omega arith
some_number Entries e = omega arith
some_number Sum e = omega arith
some_number Tables e = omega arith
some_number Ends e = omega arith
some_number EndNode e = omega arith
some_number Offset e = omega arith
some_number Room e = omega arith
some_number Walk e = omega arith
