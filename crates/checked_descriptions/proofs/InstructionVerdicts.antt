-- A description's instructions are as they must be, or have a first fault, not both.
use Rattle.std.proofs.Common.{◌≡◌, ◌⊎◌, ℕ, Option, None, Some, option_map, refl, sym, inl, inr, ⊎_elim}
use Rattle.lisa_tree.specs.declared.faults.DescFault.{DescFault}
use Rattle.lisa_tree.specs.declared.faults.DescFault.TheVariants as faults
use Rattle.lisa_tree.specs.Descriptions.{DescriptionTree}
use Rattle.lisa_syntax.specs.lisa_machine.Verdicts.{before, nothing}
use Rattle.pattern_tables.specs.Overlaps.{AnswersOverlap, AnswersUncovered}
use Rattle.pattern_tables.specs.declared.overlaps.Overlap.{Overlap}
use Rattle.lisa_syntax.specs.form_patterns.Instructions.{instruction_frames, instruction_plain}
use Rattle.lisa_syntax.specs.lisa_forms.Verdicts.{HasForms, IsFirstFormFault}
use Rattle.lisa_syntax.specs.lisa_forms.Coverage.{overlap, not_an_alias, IsOverlapVerdict, IsUncoveredVerdict}
use Rattle.lisa_syntax.specs.Texts.{IsAmbiguityVerdict}
use Rattle.checked_descriptions.specs.Instructions.{from_aliases, from_ambiguities, from_overlaps, HasInstructions, IsFirstInstructionFault}
use Rattle.checked_descriptions.proofs.FormVerdicts.{no_fault_in_forms}
use Rattle.lisa_syntax.proofs.lisa_forms_proofs.Walking.{past, refused_here, refused_past, Refusal}

none_is_no_some : {T : Type 0} (t : T) → None ≡ Some t → ⊥
none_is_no_some t e = cc

-- it is a fault of such a kind, or memory was wanted
abbrev pub OrWanted : Type 0 → DescFault → Type 0
OrWanted broken f = (f ≡ faults.NoMemory) ⊎ broken

-- a condition isn't both broken and kept
abbrev Decides : (Option DescFault → Type 0) → Type 0
Decides verdict = (f : DescFault) → verdict None → verdict (Some f) → ⊥

before_decides : (verdict rest : Option DescFault → Type 0) → Decides verdict → Decides rest → Decides (before verdict rest)
before_decides verdict rest one others f kept broken =
    ⊎_elim (λ p. none_is_no_some p.fault p.is)
    (λ p. ⊎_elim (λ q. one q.fault p.0 q.first_fault) (λ q. others f p.1 q.1) broken) kept

nothing_decides : Decides nothing
nothing_decides f kept broken = none_is_no_some f (sym broken)

-- ---- the verdicts

no_pair : (d : DescriptionTree) (pair : Option Overlap) → None ≡ option_map (overlap d) pair → AnswersOverlap (instruction_frames d) (instruction_plain d) pair
    → AnswersOverlap (instruction_frames d) (instruction_plain d) None
no_pair d None e first = first
no_pair d (Some o) e first = absurd (none_is_no_some _ e)

pair_apart : (d : DescriptionTree) (pair : Option Overlap) (f : DescFault) → Some f ≡ option_map (overlap d) pair → AnswersOverlap (instruction_frames d) (instruction_plain d) pair
    → AnswersOverlap (instruction_frames d) (instruction_plain d) None → ⊥
pair_apart d None f e first none = none_is_no_some f (sym e)
pair_apart d (Some o) f e first none = none o.first o.second o.word first.overlap

overlap_decides : (d : DescriptionTree) → Decides (IsOverlapVerdict d)
overlap_decides d f kept broken = pair_apart d broken.pair f broken.is broken.first (no_pair d kept.pair kept.is kept.first)

all_covered : (d : DescriptionTree) (form : Option ℕ) → None ≡ option_map (not_an_alias d) form → AnswersUncovered (instruction_frames d) (instruction_plain d) form
    → AnswersUncovered (instruction_frames d) (instruction_plain d) None
all_covered d None e first = first
all_covered d (Some k) e first = absurd (none_is_no_some _ e)

uncovered_apart : (d : DescriptionTree) (form : Option ℕ) (f : DescFault) → Some f ≡ option_map (not_an_alias d) form → AnswersUncovered (instruction_frames d) (instruction_plain d) form
    → AnswersUncovered (instruction_frames d) (instruction_plain d) None → ⊥
uncovered_apart d None f e first all = none_is_no_some f (sym e)
uncovered_apart d (Some k) f e first all = first.uncovered (all k first.within first.alias)

uncovered_decides : (d : DescriptionTree) → Decides (IsUncoveredVerdict d)
uncovered_decides d f kept broken = uncovered_apart d broken.form f broken.is broken.first (all_covered d kept.form kept.is kept.first)

ambiguity_decides : (d : DescriptionTree) → Decides (IsAmbiguityVerdict d)
ambiguity_decides d f kept broken = kept broken.first broken.second broken.tokens broken.shared

overlaps_decide : (d : DescriptionTree) → Decides (from_overlaps d)
overlaps_decide d =
    let aliases = before_decides (IsUncoveredVerdict d) nothing (uncovered_decides d) nothing_decides in
    let ambiguities = before_decides (IsAmbiguityVerdict d) (from_aliases d) (ambiguity_decides d) aliases in
    before_decides (IsOverlapVerdict d) (from_ambiguities d) (overlap_decides d) ambiguities

pub no_fault_in_instructions : (d : DescriptionTree) (f : DescFault) → HasInstructions d → IsFirstInstructionFault d f → ⊥
no_fault_in_instructions d f well broken = ⊎_elim (λ (h : IsFirstFormFault d f). no_fault_in_forms d f well.0 h) (λ (h : HasForms d × from_overlaps d (Some f)). overlaps_decide d f well.1 h.1) broken

-- ---- the first fault, where what goes before it is kept

module _ (d : DescriptionTree) (f : DescFault) where
  pub forms_refused : OrWanted (IsFirstFormFault d f) f → OrWanted (IsFirstInstructionFault d f) f
  forms_refused h = ⊎_elim (λ p. inl p) (λ b. inr (inl b)) h

  coded : HasForms d → Refusal (from_overlaps d) f → OrWanted (IsFirstInstructionFault d f) f
  coded well h = ⊎_elim (λ p. inl p) (λ r. inr (inr (well, r))) h

  pub words_refused : HasForms d → Refusal (IsOverlapVerdict d) f → OrWanted (IsFirstInstructionFault d f) f
  words_refused well h = coded well (refused_here (IsOverlapVerdict d) (from_ambiguities d) f h)

  pub texts_refused : HasForms d → IsOverlapVerdict d None → Refusal (IsAmbiguityVerdict d) f → OrWanted (IsFirstInstructionFault d f) f
  texts_refused well apart h =
      coded well (refused_past (IsOverlapVerdict d) (from_ambiguities d) f apart (refused_here (IsAmbiguityVerdict d) (from_aliases d) f h))

  pub aliases_refused : HasForms d → IsOverlapVerdict d None → IsAmbiguityVerdict d None → Refusal (IsUncoveredVerdict d) f → OrWanted (IsFirstInstructionFault d f) f
  aliases_refused well apart plain h =
      coded well (refused_past (IsOverlapVerdict d) (from_ambiguities d) f apart
      (refused_past (IsAmbiguityVerdict d) (from_aliases d) f plain (refused_here (IsUncoveredVerdict d) nothing f h)))

-- all of them are kept
pub all_kept : (d : DescriptionTree) → HasForms d → IsOverlapVerdict d None → IsAmbiguityVerdict d None → IsUncoveredVerdict d None → HasInstructions d
all_kept d well apart plain covered =
    (well, past (IsOverlapVerdict d) (from_ambiguities d) None apart (past (IsAmbiguityVerdict d) (from_aliases d) None plain (past (IsUncoveredVerdict d) nothing None covered refl)))
