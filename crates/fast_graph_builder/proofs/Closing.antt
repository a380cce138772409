-- The columns after rule 5, or after a refusal, are the definition's.
use mathlib.Core.Path.{◌≡◌, refl, sym, ◌∙◌, ap, ap₂}
use mathlib.Core.List.{List, [], ◌∷◌, map}
use Prim.Native.Nat.{ℕ}
use Rattle.rules.specs.Lists.{over}
use Rattle.rules.specs.Columns.{Hierarchy, Table, Entry, Side, forward, backward, marked}
use Rattle.rules.specs.Refusals.{BuildCall}
use Rattle.rules.specs.Build.{Step, went, Level, Raw, raws, Building, finish, finished, starts_of, laid, finish_contraction, built}
use Rattle.build_laws.proofs.BuiltTables.{finish_keeps}
use Rattle.std.specs.Prelude.{Result, Ok, Err}
use Rattle.rules.specs.declared.Refusal.{Refusal}
use Rattle.rules.specs.Refused.{number_of}
use Rattle.search.specs.Searching.{Lent}
use Rattle.entries.specs.Laid.{part, four, laid_part, four_over}
use Rattle.marks.specs.Tables.{table_of, hierarchy}
use Rattle.contraction.specs.Ranks.{Stage}
use Rattle.contraction.specs.Ranks.{parts, laid_parts, At}
use Rattle.finish.specs.Promises.{Whole, Ending, Ended}
use Rattle.fast_graph_builder.specs.Promises.{answer, Closing}

-- rule 5 leaves three columns as they were
module _ (fwd bwd : List Raw) (s : Side) where
  same_bases : (rs : List Raw) → map (λ (e : Entry). e.base) (map (finish fwd bwd s) rs) ≡ map (λ r. r.base) rs
  same_bases [] = refl
  same_bases (r ∷ rs) = ap₂ (λ x xs. x ∷ xs) (finish_keeps fwd bwd s r).base (same_bases rs)

  same_neighbours : (rs : List Raw) → map (λ (e : Entry). e.neighbour) (map (finish fwd bwd s) rs) ≡ map (λ r. r.neighbour) rs
  same_neighbours [] = refl
  same_neighbours (r ∷ rs) = ap₂ (λ x xs. x ∷ xs) (finish_keeps fwd bwd s r).neighbour (same_neighbours rs)

  same_weights : (rs : List Raw) → map (λ (e : Entry). e.weight) (map (finish fwd bwd s) rs) ≡ map (λ r. r.weight) rs
  same_weights [] = refl
  same_weights (r ∷ rs) = ap₂ (λ x xs. x ∷ xs) (finish_keeps fwd bwd s r).weight (same_weights rs)

-- a table by its columns
laid_table : (s : Side) (ls : List Level) (t : Table) {starts bases neighbours weights ins outs : List ℕ} → starts ≡ over t.starts (starts_of s ls) →
    bases ≡ over t.bases (map (λ r. r.base) (raws s ls)) → neighbours ≡ over t.neighbours (map (λ r. r.neighbour) (raws s ls)) →
    weights ≡ over t.weights (map (λ r. r.weight) (raws s ls)) → ins ≡ over t.in_numbers (map (λ e. e.in_number) (finished s ls)) →
    outs ≡ over t.out_numbers (map (λ e. e.out_number) (finished s ls)) →
    table_of starts bases neighbours weights ins outs ≡ laid t (starts_of s ls) (finished s ls)
unfolding laid finished
laid_table s ls t p b n w i o =
    let fwd = raws forward ls in
    let bwd = raws backward ls in
    λ k.
    table_of (p k)
    ((b ∙ sym (ap (over t.bases) (same_bases fwd bwd s (raws s ls)))) k)
    ((n ∙ sym (ap (over t.neighbours) (same_neighbours fwd bwd s (raws s ls)))) k)
    ((w ∙ sym (ap (over t.weights) (same_weights fwd bwd s (raws s ls)))) k)
    (i k)
    (o k)

module _ {c : BuildCall} {s : Step Building} {m : Lent} {n : ℕ} {order : List ℕ} {ranked : Result Stage Refusal} {ranks fs fb fn fw fi fo bs bb bn bw bi bo : List ℕ}
    (p : Closing c s m n order ranked (hierarchy ranks (table_of fs fb fn fw fi fo) (table_of bs bb bn bw bi bo))) where
  -- it was refused
  pub closed_refused : (r : Refusal) → ranked ≡ Err r → {h : Hierarchy} → h ≡ marked (hierarchy ranks (table_of fs fb fn fw fi fo) (table_of bs bb bn bw bi bo)) →
      answer (number_of r) h ≡ built c s
  unfolding built
  closed_refused r e h_is = rw (p.came.no r e) (λ i. answer (number_of r) ((h_is ∙ p.marks) i))

  module _ (x : Stage) (e : ranked ≡ Ok x) where
    pub to : (b : Building) × (s ≡ went b) × At c b (parts (part fs (four fb fn fw fi)) (part bs (four bb bn bw bi))) m x.work x.fwd x.bwd
    to = p.came.came x e

    whole : Whole c to.0
    whole = record { ok = p.ok.build; weights = p.ok.weights; went_to = sym p.steps ∙ to.1 }

    pub ending : Ending c to.0 n order x.fwd x.bwd ranks fs fb fn fi fo bs bb bn bi bo
    unfolding laid_parts laid_part four_over
    ending =
        let at = to.2 in
        record {
          whole = whole;
          nodes_are = p.nodes_are;
          order_is = p.order_is;
          fwd_count = at.fwd_count.is;
          bwd_count = at.bwd_count.is;
          ranks_are = p.ranks_are;
          fwd_starts = ap (λ t. t.forward.starts) at.laid;
          fwd_bases = ap (λ t. t.forward.entries.bases) at.laid;
          fwd_neighbours = ap (λ t. t.forward.entries.neighbours) at.laid;
          fwd_ins = ap (λ t. t.forward.entries.centres) at.laid;
          fwd_outs = p.fwd_outs;
          bwd_starts = ap (λ t. t.backward.starts) at.laid;
          bwd_bases = ap (λ t. t.backward.entries.bases) at.laid;
          bwd_neighbours = ap (λ t. t.backward.entries.neighbours) at.laid;
          bwd_ins = ap (λ t. t.backward.entries.centres) at.laid;
          bwd_outs = p.bwd_outs;
        }

    fwd_weights_laid : fw ≡ over c.lent.forward.weights (map (λ r. r.weight) (raws forward to.0.levels))
    unfolding laid_parts laid_part four_over
    fwd_weights_laid = ap (λ t. t.forward.entries.weights) to.2.laid

    bwd_weights_laid : bw ≡ over c.lent.backward.weights (map (λ r. r.weight) (raws backward to.0.levels))
    unfolding laid_parts laid_part four_over
    bwd_weights_laid = ap (λ t. t.backward.entries.weights) to.2.laid

    -- it was built
    pub closed_went : {ranks' fs' fi' fo' bs' bi' bo' : List ℕ} → ((c : BuildCall) (b : Building) → Ending c b n order x.fwd x.bwd ranks fs fb fn fi fo bs bb bn bi bo →
        Ended c b ranks' fs' fi' fo' bs' bi' bo') →
        answer 0 (hierarchy ranks' (table_of fs' fb fn fw fi' fo') (table_of bs' bb bn bw bi' bo')) ≡ built c s
    unfolding built finish_contraction
    closed_went ends =
        let y = ends c to.0 ending in
        let f = laid_table forward to.0.levels c.lent.forward y.fwd_starts ending.fwd_bases ending.fwd_neighbours fwd_weights_laid y.fwd_ins y.fwd_outs in
        let g = laid_table backward to.0.levels c.lent.backward y.bwd_starts ending.bwd_bases ending.bwd_neighbours bwd_weights_laid y.bwd_ins y.bwd_outs in
        rw to.1 (λ i. answer 0 (hierarchy (y.ranks_are i) (f i) (g i)))
