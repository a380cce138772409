-- The refusals by name, with the numbers of their rows in document 01.
use Rattle.std.specs.Prelude.{ℕ, Result, Ok, Err}
use Rattle.rules.specs.declared.Refusal.{Refusal}
use Rattle.rules.specs.declared.Refusal.TheVariants.{Nodes, Links, LinkEnd, Loop, LinkWeight, Unsorted, OrderLength, Order, Lent, Pool, Entries, Sum, Tables, Ends, EndNode, Offset, Room, Walk}

abbrev pub number_of : Refusal → ℕ
number_of Nodes = 1
number_of Links = 2
number_of LinkEnd = 3
number_of Loop = 4
number_of LinkWeight = 5
number_of Unsorted = 6
number_of OrderLength = 7
number_of Order = 8
number_of Lent = 9
number_of Pool = 10
number_of Entries = 11
number_of Sum = 12
number_of Tables = 20
number_of Ends = 21
number_of EndNode = 22
number_of Offset = 23
number_of Room = 24
number_of Walk = 25

-- what a call answers: 0 where it was not refused
abbrev pub code : {A : Type 0} → Result A Refusal → ℕ
code (Ok a) = 0
code (Err r) = number_of r
