-- Tables that pass the table rules though no build made them: the steps fix the answer, and no more is claimed. Here they
-- answer 20 by the walk 0, 1, which makes 16: source 0 at 5, a link of 1, target 1 at 10.
use Rattle.std.specs.Prelude.{◌≡◌, refl, [], ◌∷◌, replicate}
use Rattle.rules.specs.Columns.{Hierarchy}
use Rattle.rules.specs.Refusals.{QueryCall, query_scratch, query_refusal}
use Rattle.rules.specs.Query.{query}
use Rattle.rules.specs.Bench.{columns, plain}
use Rattle.rules.specs.Computing.{computing}

unfoldable pub unbuilt_tables : Hierarchy
unbuilt_tables =
    record {
      ranks = 0 ∷ 1 ∷ 2 ∷ 3 ∷ [];
      forward = columns (0 ∷ 1 ∷ 2 ∷ 2 ∷ 2 ∷ []) (plain 0 1 1 ∷ plain 1 3 1 ∷ []);
      backward = columns (0 ∷ 0 ∷ 1 ∷ 1 ∷ 1 ∷ []) (plain 1 2 1 ∷ []);
    }

unfoldable pub unbuilt : QueryCall
unbuilt =
    record {
      nodes = 4;
      hierarchy = unbuilt_tables;
      sources = record { nodes = 1 ∷ 0 ∷ 2 ∷ []; offsets = 10 ∷ 5 ∷ 3 ∷ [] };
      targets = record { nodes = 1 ∷ 3 ∷ []; offsets = 10 ∷ 3 ∷ [] };
      path = replicate 4 7;
      scratch = query_scratch 4 unbuilt_tables;
    }

pub unbuilt_accepted : query_refusal unbuilt ≡ 0
unfolding unbuilt unbuilt_tables columns plain computing
unbuilt_accepted = refl

pub unbuilt_answer : query unbuilt ≡ record { number = 0; weight = 20; walk = 0 ∷ 1 ∷ []; path = 0 ∷ 1 ∷ 7 ∷ 7 ∷ [] }
unfolding unbuilt unbuilt_tables columns plain computing
unbuilt_answer = refl
