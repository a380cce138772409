-- `get_current_weight` meets its contract: `label_at`, by its test.
use mathlib.Core.Path.{sym}
use Rattle.search.proofs.Labels.{label_seen, label_missing}
use Rattle.search.proofs.witness_search.LentSearch.get_current_weight.Goals as goal

pub returns-then-self-v : goal.returns-then-self-v
returns-then-self-v c = sym (label_seen _ _ _ c.if-self-v.true)

pub returns-else-self-v : goal.returns-else-self-v
returns-else-self-v c = sym (label_missing _ _ _ c.if-self-v.false)
