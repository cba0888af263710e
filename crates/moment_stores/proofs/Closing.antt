-- One boundary after another ends the edge.
use Rattle.std.proofs.Common.{◌≡◌, ◌≢◌, ℕ, zero, suc, ◌<◌, ◌≤◌, ◌||◌, Bool, List, refl, sym, ap₂, ◌∙◌, subst, arith, ⊎_elim}
use Rattle.std.specs.Prelude.{unwrap_or, if◌then◌else◌}
use Rattle.std.proofs.lemmas.Bool.{cases_eq}
use Rattle.pipeline_time.specs.Edges.{is_held, is_flushed}
use Rattle.lisa_meaning.specs.Moments.{Outs, field_at, field_before, written}
use Rattle.moment_stores.specs.Boundaries.{closed, closed_by}

before_same : (old now : List (List ℕ)) (s f : ℕ) → ((r : ℕ) → r < s → field_at now r f ≡ field_at old r f) → field_before now s f ≡ field_before old s f
before_same old now zero f same = refl
before_same old now (suc s) f same = same s (omega arith)

closed_same : (stays empties : Bool) (old now : List (List ℕ)) (outs : Outs) (s f : ℕ) → field_at now s f ≡ field_at old s f → field_before now s f ≡ field_before old s f → closed_by stays empties now outs s f ≡ closed_by stays empties old outs s f
closed_same stays empties old now outs s f here before =
    ap₂ (λ (a b : ℕ). if stays then a else (if empties then 0 else unwrap_or (written outs s f) b)) here before

module _ (count width boundary : ℕ) (old now new : List (List ℕ)) (outs : Outs) (stalled flushed : List ℕ) (stays empties : Bool)
    (is_stays : stays ≡ is_held stalled (suc (suc boundary))) (is_empties : empties ≡ (is_held stalled (suc boundary) || is_flushed flushed (suc boundary)))
    (earlier : (s f : ℕ) → s < suc boundary → field_at now s f ≡ field_at old s f)
    (ended : (s f : ℕ) → suc boundary ≤ s → s < count → f < width → field_at now s f ≡ closed stalled flushed old outs s f)
    (here : (f : ℕ) → f < width → field_at new boundary f ≡ closed_by stays empties now outs boundary f)
    (others : (s f : ℕ) → s ≢ boundary → field_at new s f ≡ field_at now s f) where
  at_boundary : (f : ℕ) → f < width → field_at new boundary f ≡ closed stalled flushed old outs boundary f
  at_boundary f inside =
      here f inside
      ∙ closed_same stays empties old now outs boundary f (earlier boundary f (omega arith)) (before_same old now boundary f (λ r less. earlier r f (omega (arith, less))))
      ∙ ap₂ (λ (a b : Bool). closed_by a b old outs boundary f) is_stays is_empties

  pub closed_step : ((s f : ℕ) → s < boundary → field_at new s f ≡ field_at old s f) × ((s f : ℕ) → boundary ≤ s → s < count → f < width → field_at new s f ≡ closed stalled flushed old outs s f)
  closed_step = (
    λ s f less. others s f (λ e. omega (arith, e, less)) ∙ earlier s f (omega (arith, less)),
    λ s f low less inside. ⊎_elim
        (λ e. subst (λ (n : ℕ). field_at new n f ≡ closed stalled flushed old outs n f) (sym e) (at_boundary f inside))
        (λ ne. others s f ne ∙ ended s f (omega (arith, low, ne)) less inside)
        (cases_eq s boundary),
  )
