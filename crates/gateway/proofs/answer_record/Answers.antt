-- A refusal's line, or the route's.
use mathlib.Core.Path.{refl}
use Rattle.rules.proofs.Refused.{some_number}
use Rattle.gateway.proofs.Asking.{refuses_fits, refuses, finds_fits, finds}
use Rattle.gateway.proofs.answer_record.Goals as goal

pub route_line-requires : goal.route_line-requires
route_line-requires c = finds_fits _ _ c.u16_at-source.ensures.is c.u16_at-target.ensures.is _ _ (rw c.in-Ok-Some.field-0-is at c.in-Ok-Some.ensures) _ refl c.requires.2

pub route_line-requires-in-Ok-None : goal.route_line-requires-in-Ok-None
route_line-requires-in-Ok-None c = finds_fits _ _ c.u16_at-source.ensures.is c.u16_at-target.ensures.is _ _ (rw c.in-Ok-None.field-0-is at c.in-Ok-None.ensures) _ refl c.requires.2

pub refused_line-requires : goal.refused_line-requires
refused_line-requires c =
    rw c.into.ensures (refuses_fits _ _ c.u16_at-source.ensures.is c.u16_at-target.ensures.is _ _ c.in-Err.ensures _ (some_number c.in-Err.refusal) c.requires.2)

pub returns-in-Ok-Some : goal.returns-in-Ok-Some
returns-in-Ok-Some c = finds _ _ c.u16_at-source.ensures.is c.u16_at-target.ensures.is _ _ (rw c.in-Ok-Some.field-0-is at c.in-Ok-Some.ensures) refl c.route_line.ensures

pub returns-in-Ok-None : goal.returns-in-Ok-None
returns-in-Ok-None c = finds _ _ c.u16_at-source.ensures.is c.u16_at-target.ensures.is _ _ (rw c.in-Ok-None.field-0-is at c.in-Ok-None.ensures) refl c.route_line-in-Ok-None.ensures

pub returns-in-Err : goal.returns-in-Err
returns-in-Err c =
    refuses _ _ c.u16_at-source.ensures.is c.u16_at-target.ensures.is _ _ c.in-Err.ensures (some_number c.in-Err.refusal)
    (rw c.into.ensures at c.refused_line.ensures)
