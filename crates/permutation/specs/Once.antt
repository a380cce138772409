-- "names a node not below the count, or one twice", the other way round; "the first n ranks a permutation".
use Rattle.std.specs.Prelude.{Bool, ◌&&◌, List, ℕ, ltb}
use Rattle.rules.specs.Lists.{all, distinct}

-- each number is below n, and no two are the same
unfoldable pub each_once : ℕ → List ℕ → Bool
each_once n xs = all (λ v. ltb v n) xs && distinct xs
