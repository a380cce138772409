-- The entries of a table become what the definition says, one after the other.
use mathlib.Core.Path.{◌≡◌, refl, sym, ◌∙◌, ap}
use mathlib.Core.List.{List, [], ◌∷◌, ◌++◌, map}
use Prim.Native.Nat.{ℕ, ◌+◌, ◌≤◌, ◌<◌}
use native.Mathlib.Omega.{arith}
use native.Mathlib.Numerals.{add-one}
use lib.ListN.{length, get_or, set, take, length-map, length-take}
use lib.Seq.{take-suc, take_all}
use Rattle.rules.specs.Lists.{over}
use Rattle.rules.specs.Columns.{Entry, Side, forward, backward}
use Rattle.rules.specs.Refusals.{BuildCall}
use Rattle.rules.specs.Build.{Raw, raws, Building, finish, finished}
use Rattle.rules.proofs.Members.{get_d_in}
use Rattle.rules.proofs.Prefixes.{column_next, map_at}
use Rattle.build_laws.proofs.BuiltTables.{no_raw, no_entry}
use Rattle.finish.specs.declared.Numbers.{Numbers}
use Rattle.finish.specs.Promises.{raw_tail, raw_head, Opening, Opened, Finishing, Finished}
use Rattle.finish.proofs.Seeking.{over_beyond}

-- the first e entries are finished
pub record SoFar (b : Building) (s : Side) (ins₀ outs₀ ins outs : List ℕ) (e : ℕ) : Type 0 where
  pub ins_are : ins ≡ over ins₀ (map (λ x. x.in_number) (take e (finished s b.levels)))
  pub outs_are : outs ≡ over outs₀ (map (λ x. x.out_number) (take e (finished s b.levels)))

pub none_finished : (b : Building) (s : Side) (ins outs : List ℕ) → SoFar b s ins outs ins outs 0
unfolding over
none_finished b s ins outs = record { ins_are = refl; outs_are = refl }

module _ {c : BuildCall} {b : Building} {s : Side} {count : ℕ} {ranks fs fn bs bn tails heads ins₀ outs₀ ins outs : List ℕ} {e : ℕ}
    (p : Finishing c b s count ranks fs fn bs bn tails heads ins₀ outs₀) (x : SoFar b s ins₀ outs₀ ins outs e) where
  abbrev F : List Entry
  F = finished s b.levels

  long : length F ≡ count
  unfolding finished
  long = length-map (raws s b.levels) _ ∙ sym p.count_is

  module _ (h : e < count) where
    abbrev r : Raw
    r = get_or (raws s b.levels) e no_raw

    inside : e < length (raws s b.levels)
    inside = omega (arith, p.count_is)

    part_long : length (take e F) ≡ e
    part_long = length-take e F ∙ omega (arith, long)

    centre_read : get_or ins e 0 ≡ r.centre
    centre_read =
        ap (λ k. get_or k e 0) x.ins_are ∙
        over_beyond ins₀ (map (λ x. x.in_number) (take e F)) e (omega (arith, length-map (take e F) (λ (x : Entry). x.in_number), part_long)) ∙
        p.ins_are e h ∙ map_at (λ z. z.centre) (raws s b.levels) e no_raw 0 inside

    pub entry_at_hand : Opening c b s r (get_or ins e 0) (get_or tails e 0) (get_or heads e 0) ranks fs fn bs bn
    entry_at_hand =
        record {
          columns = p.columns;
          written = get_d_in (raws s b.levels) e no_raw inside;
          centre_is = centre_read;
          tail_is = p.tails_are e h ∙ map_at (raw_tail s) (raws s b.levels) e no_raw 0 inside;
          head_is = p.heads_are e h ∙ map_at (raw_head s) (raws s b.levels) e no_raw 0 inside;
        }

    next : take (e + 1) F ≡ take e F ++ finish (raws forward b.levels) (raws backward b.levels) s r ∷ []
    unfolding finished
    next =
        ap (λ k. take k F) (add-one e) ∙ take-suc F e no_entry (omega (arith, long)) ∙
        ap (λ z. take e F ++ z ∷ []) (map_at (finish (raws forward b.levels) (raws backward b.levels) s) (raws s b.levels) e no_raw no_entry inside)

    pub one_finished : (q : Numbers) → Opened b s r q → SoFar b s ins₀ outs₀ (set ins e q.into) (set outs e q.out) (e + 1)
    one_finished q o =
        let f = finish (raws forward b.levels) (raws backward b.levels) s r in
        record {
          ins_are =
              column_next ins₀ ins (λ (x : Entry). x.in_number) (take e F) f e q.into x.ins_are o.into part_long (omega (arith, p.ins_room)) ∙
              sym (ap (λ k. over ins₀ (map (λ (x : Entry). x.in_number) k)) next);
          outs_are =
              column_next outs₀ outs (λ (x : Entry). x.out_number) (take e F) f e q.out x.outs_are o.out part_long (omega (arith, p.outs_room)) ∙
              sym (ap (λ k. over outs₀ (map (λ (x : Entry). x.out_number) k)) next);
        }

  pub all_finished : count ≤ e → Finished b s ins₀ outs₀ ins outs
  all_finished h =
      let whole : take e F ≡ F = take_all e F (omega (arith, long)) in
      record {
        ins_are = x.ins_are ∙ ap (λ k. over ins₀ (map (λ (x : Entry). x.in_number) k)) whole;
        outs_are = x.outs_are ∙ ap (λ k. over outs₀ (map (λ (x : Entry). x.out_number) k)) whole;
      }
