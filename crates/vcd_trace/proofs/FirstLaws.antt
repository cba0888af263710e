-- The codes that get a value at the first time, event by event.
use Rattle.std.proofs.Common.{◌≡◌, ℕ, ◌+◌, ◌≤◌, Bool, true, false, List, [], ◌∷◌, ◌++◌, length, drop, Option, Some, None, refl, sym, ap, subst, ◌∙◌, Bor}
use Rattle.std.specs.Option.{is_some}
use Rattle.std.specs.BTreeSet.{BTreeSet}
use Rattle.std.specs.BTreeSet as sorted
use Rattle.std.proofs.lemmas.Bool.{false≢true}
use Rattle.std.proofs.lemmas.List.{drop_all}
use Rattle.vcd_trace.specs.Written.{Change}
use Rattle.vcd_trace.specs.Meaning.{cut, blocks}
use Rattle.vcd_trace.specs.VcdFaults.{first_changes}
use Rattle.vcd_trace.specs.CodeTables.{by_bytes, AreGiven}
use Rattle.vcd_trace.specs.declared.parts.Event.{Event}
use Rattle.vcd_trace.specs.declared.parts.Event.TheVariants as events
use Rattle.vcd_trace.specs.declared.parts.Moment.{Moment}
use Rattle.vcd_trace.proofs.CodeLaws.{one_given}
use Rattle.vcd_trace.proofs.ReplayLaws.{pending, pend_change, pend_first, pend_next, pend_last}

-- the set has the codes of all changes before a place, no second time having begun
pub record Seen (es : List Event) (i : ℕ) (codes : BTreeSet (Bor (List ℕ))) (timed : Bool) : Type 0 where
  pub begun : Option ℕ
  pub changes : List Change
  pub is : timed ≡ is_some begun
  pub given : AreGiven codes changes
  pub total : blocks es ≡ pending begun changes (cut (drop i es))

pub seen_first : (es : List Event) (codes : BTreeSet (Bor (List ℕ))) → AreGiven codes [] → Seen es 0 codes false
seen_first es codes none = record { begun = None; changes = []; is = refl; given = none; total = refl }

module _ (es : List Event) (i : ℕ) (codes : BTreeSet (Bor (List ℕ))) (timed : Bool) (seen : Seen es i codes timed) where
  pub seen_change : (c : Change) (more : BTreeSet (Bor (List ℕ))) (key : Bor (List ℕ)) → drop i es ≡ events.Change c ∷ drop (i + 1) es → key.now ≡ c.code
      → sorted.Updates by_bytes codes more key true → Seen es (i + 1) more timed
  seen_change c more key is named updates = record {
    begun = seen.begun;
    changes = seen.changes ++ c ∷ [];
    is = seen.is;
    given = one_given codes more seen.changes c key named seen.given updates;
    total = seen.total ∙ ap (λ (l : List Event). pending seen.begun seen.changes (cut l)) is ∙ pend_change seen.begun seen.changes c (drop (i + 1) es);
  }

  pub seen_time : (m : Moment) → drop i es ≡ events.Time m ∷ drop (i + 1) es → timed ≡ false → Seen es (i + 1) codes true
  seen_time m is none = go seen.begun seen.is seen.total
    where
      go : (begun : Option ℕ) → timed ≡ is_some begun → blocks es ≡ pending begun seen.changes (cut (drop i es)) → Seen es (i + 1) codes true
      go None f total = record {
        begun = Some m.time;
        changes = seen.changes;
        is = refl;
        given = seen.given;
        total = total ∙ ap (λ (l : List Event). pending None seen.changes (cut l)) is ∙ pend_first seen.changes m (drop (i + 1) es);
      }
      go (Some time) f total = absurd (false≢true (sym none ∙ f))

  -- at the second time
  pub seen_second : (m : Moment) → drop i es ≡ events.Time m ∷ drop (i + 1) es → timed ≡ true → AreGiven codes (first_changes (blocks es))
  seen_second m is some = go seen.begun seen.is seen.total
    where
      go : (begun : Option ℕ) → timed ≡ is_some begun → blocks es ≡ pending begun seen.changes (cut (drop i es)) → AreGiven codes (first_changes (blocks es))
      go None f total = absurd (false≢true (sym f ∙ some))
      go (Some time) f total =
          subst (AreGiven codes) (sym (ap first_changes (total ∙ ap (λ (l : List Event). pending (Some time) seen.changes (cut l)) is ∙ pend_next time seen.changes m (drop (i + 1) es)))) seen.given

  -- at the end
  pub seen_last : length es ≤ i → timed ≡ true → AreGiven codes (first_changes (blocks es))
  seen_last all some = go seen.begun seen.is seen.total
    where
      go : (begun : Option ℕ) → timed ≡ is_some begun → blocks es ≡ pending begun seen.changes (cut (drop i es)) → AreGiven codes (first_changes (blocks es))
      go None f total = absurd (false≢true (sym f ∙ some))
      go (Some time) f total = subst (AreGiven codes) (sym (ap first_changes (total ∙ ap (λ (l : List Event). pending (Some time) seen.changes (cut l)) (drop_all i es all) ∙ pend_last time seen.changes))) seen.given

  pub seen_none : length es ≤ i → timed ≡ false → (empty : BTreeSet (Bor (List ℕ))) → AreGiven empty [] → AreGiven empty (first_changes (blocks es))
  seen_none all none empty given = go seen.begun seen.is seen.total
    where
      go : (begun : Option ℕ) → timed ≡ is_some begun → blocks es ≡ pending begun seen.changes (cut (drop i es)) → AreGiven empty (first_changes (blocks es))
      go None f total = subst (AreGiven empty) (sym (ap first_changes (total ∙ ap (λ (l : List Event). pending None seen.changes (cut l)) (drop_all i es all)))) given
      go (Some time) f total = absurd (false≢true (sym none ∙ f))
