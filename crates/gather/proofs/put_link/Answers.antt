-- The numbers of a link's record.
use mathlib.Core.Path.{ap}
use lib.ListN.{set}
use Rattle.gather.proofs.put_link.Goals as goal

pub returns : goal.returns
returns c =
    let a = c.args in
    record {
      tail_is = ap (λ v. set a.tails.now a.k v) c.u16_at.ensures.is;
      head_is = ap (λ v. set a.heads.now a.k v) c.u16_at-2.ensures.is;
      weight_is = ap (λ v. set a.weights.now a.k v) c.u32_at.ensures;
    }
