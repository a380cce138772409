-- "Numbers" of document 01. Every other definition cites these by name.
use Rattle.std.specs.Prelude.{ℕ, ◌^◌, ◌-◌}

abbrev pub max_nodes : ℕ
max_nodes = 1024

abbrev pub max_links : ℕ
max_links = 16384

-- sources, and targets
abbrev pub max_ends : ℕ
max_ends = 16

-- "Link weight 1 to 4,294,967,295": what its column can hold
abbrev pub max_link_weight : ℕ
max_link_weight = 2 ^ 32 - 1

-- of an arc, and so of a pair sum that becomes one and of a table weight; of an offset that counts
abbrev pub max_weight : ℕ
max_weight = 2 ^ 40

-- the no-weight mark, `WEIGHT_MAX`
abbrev pub no_weight : ℕ
no_weight = 2 ^ 64 - 1

-- the invalid mark, for every column that is not of weights
abbrev pub invalid : ℕ
invalid = 2 ^ 32 - 1

-- of the record program: bytes of input, nodes, links
abbrev pub max_input : ℕ
max_input = 16384

abbrev pub program_nodes : ℕ
program_nodes = 32

abbrev pub program_links : ℕ
program_links = 256
